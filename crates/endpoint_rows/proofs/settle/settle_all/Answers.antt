use Rattle.std.proofs.Common.{get_or, take, ap, sym, subst, ◌∙◌, rules}
use Rattle.std.specs.List.{filter_map}
use Rattle.std.proofs.lemmas.List.{take_all, take_more}
use Rattle.net_cidr.specs.declared.ip.Ip.TheVariants.{V4}
use Rattle.endpoint_rows.specs.Before.{note_of}
use Rattle.endpoint_rows.specs.Kept.{ReplacesAll, all_rows}
use Rattle.endpoint_rows.proofs.Showing.{NotesRise, not_yet, note_owns, note_rises, notes_by_address, notes_more, replaced_more}
use Rattle.endpoint_rows.proofs.settle.settle_all.Goals as goal

pub loop-pair-preserved : goal.loop-pair-preserved
loop-pair-preserved c =
    let all = all_rows c.args.slices.now.by_slice in
    let start = c.args.rows.now in
    let done = take c.loop-pair.pair-index c.args.pairs.now in
    let pair = get_or c.args.pairs.now c.loop-pair.pair-index (V4 0, 0) in
    let more = take_more c.args.pairs.now c.loop-pair.pair-index (V4 0, 0) c.loop-pair-test.true in
    record {
      rows = λ agree h.
          let so_far = c.loop-pair.invariant.rows agree h in
          subst (λ pairs. ReplacesAll pairs all start c.settle_one.new.rows) (sym more)
          (replaced_more done pair all start c.loop-pair.rows c.settle_one.new.rows so_far (c.in_ok-settle_one.ensures.rows agree so_far.rise));
      notes = λ agree h rises.
          let so_far = c.loop-pair.invariant.rows agree h in
          notes_more done pair all start c.loop-pair.rows c.loop-pair.notes c.settle_one.new.notes so_far (not_yet c.args.pairs.now rises c.loop-pair.pair-index (V4 0, 0) c.loop-pair-test.true)
          (c.loop-pair.invariant.notes agree h rises) (c.in_ok-settle_one.ensures.notes agree)
          ∙ ap (filter_map (note_of start all)) (sym more);
      rises = subst (λ pairs. NotesRise pairs c.settle_one.new.notes) (sym more) (note_rises done pair c.loop-pair.notes c.settle_one.new.notes c.loop-pair.invariant.rises c.in_ok-settle_one.ensures.adds);
      owns = note_owns pair c.loop-pair.notes c.settle_one.new.notes c.loop-pair.invariant.owns c.in_ok-settle_one.ensures.adds;
    }

pub returns-clause-rows : goal.returns-clause-rows
returns-clause-rows c = λ agree h. subst (λ pairs. ReplacesAll pairs (all_rows c.args.slices.now.by_slice) c.args.rows.now c.loop-pair.rows) (take_all _ c.args.pairs.now (search rules)) (c.loop-pair.invariant.rows agree h)

pub returns-clause-notes : goal.returns-clause-notes
returns-clause-notes c = λ agree h rises. c.loop-pair.invariant.notes agree h rises ∙ ap (filter_map (note_of c.args.rows.now (all_rows c.args.slices.now.by_slice))) (take_all _ c.args.pairs.now (search rules))

pub returns-clause-by_address : goal.returns-clause-by_address
returns-clause-by_address c = λ sorted.
    notes_by_address c.args.pairs.now c.loop-pair.notes sorted
    (subst (λ pairs. NotesRise pairs c.loop-pair.notes) (take_all _ c.args.pairs.now (search rules)) c.loop-pair.invariant.rises) c.loop-pair.invariant.owns
