use Rattle.std.proofs.Common.{List, ◌++◌, sym, subst, ◌∙◌}
use Rattle.std.specs.List.{flat_map}
use Rattle.view_types.specs.declared.mark.Mark.{Mark}
use Rattle.mark_rules.specs.Reads.{reads}
use Rattle.row_reads.specs.References.{HaveSame}
use Rattle.mark_tests.proofs.QueryMarks.{same_query}
use Rattle.mark_tests.proofs.queries.query_reads.Goals as goal

pub returns : goal.returns
returns g c live lawful =
    let config = c.args.reader.now.config.now in
    let held = c.args.reader.now.store.now.objects in
    let first = c.into_vec-marks.result.items in
    let behind = c.as_slice.result.now in
    same_query config held c.stand_at_keys.ensures lawful c.args.query.now c.in_ok-first.first behind first c.from_vec.result
    c.in_ok-first.ensures (c.as_slice.ensures ∙ c.in_ok-behind.ensures live)
    (subst (λ (list : List Mark). HaveSame list (reads config held c.in_ok-first.first)) (sym c.into_vec-marks.ensures) (c.in_ok-reads.ensures live))
    (subst (λ (list : List Mark). HaveSame list (first ++ flat_map (reads config held) behind)) (sym c.from_vec.ensures) (c.in_ok-add_rows.ensures live))
