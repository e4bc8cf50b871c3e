use Rattle.std.proofs.Common.{List, Option, append-nil, cond, sym, ap, ◌∙◌}
use Rattle.std.specs.List.{flat_map}
use Rattle.std.specs.Option.{option_copied, option_to_list}
use Rattle.key_lists.specs.Keys.{is_key}
use Rattle.view_types.specs.declared.mark.Mark.{Mark}
use Rattle.view_types.specs.declared.slice.Slice.{Slice}
use Rattle.view_rules.specs.Endpoints.{first_rows}
use Rattle.view_rules.specs.PodRows.{row_for}
use Rattle.mark_rules.specs.Reads.{pods_of}
use Rattle.endpoint_rows.proofs.Orders.{on_ok}
use Rattle.endpoint_rows.specs.Kept.{rows_of}
use Rattle.slice_marks.specs.Marked.{marks_at}
use Rattle.endpoint_index.specs.Given.{rows_named}
use Rattle.endpoint_index.proofs.Filling.{none_given_by}
use Rattle.endpoint_index.proofs.slices.follow_slice.Goals as goal

pub returns-in-Some-clause-rows : goal.returns-in-Some-clause-rows
returns-in-Some-clause-rows g c =
    on_ok c.put_slice.result (λ put k. put k
    ∙ ap (λ (found : Option Slice). cond (is_key k c.args.at.now)
    (first_rows (rows_named (row_for c.args.source.now.from.now.config.now c.args.source.now.from.now.store.now.objects) (option_copied c.args.source.now.port.name) found)) (rows_of c.args.kept.now.rows.slices.by_slice k)) c.in-Some.ensures.value)
    c.put_slice.ensures.rows

pub returns-in-Some-clause-pods : goal.returns-in-Some-clause-pods
returns-in-Some-clause-pods g c =
    on_ok c.put_slice.result (λ put k. put k
    ∙ ap (λ (marks : List Mark). cond (is_key k c.args.at.now) marks (marks_at c.args.kept.now.read.by_slice k))
    (sym (append-nil (pods_of c.in-Some.slice.now)) ∙ ap (λ (found : Option Slice). flat_map pods_of (option_to_list found)) c.in-Some.ensures.value))
    c.put_slice.ensures.pods

pub returns-in-None-clause-rows : goal.returns-in-None-clause-rows
returns-in-None-clause-rows g c =
    let none = none_given_by c.args.source.now.from.now.config.now c.args.source.now.from.now.store.now.objects (option_copied c.args.source.now.port.name) _ c.in-None.ensures.value in
    on_ok c.take_slice.result (λ taken k. taken k ∙ (λ i. cond (is_key k c.args.at.now) (none i) (rows_of c.args.kept.now.rows.slices.by_slice k))) c.take_slice.ensures.rows

pub returns-in-None-clause-pods : goal.returns-in-None-clause-pods
returns-in-None-clause-pods g c =
    on_ok c.take_slice.result (λ taken k. taken k
    ∙ ap (λ (found : Option Slice). cond (is_key k c.args.at.now) (flat_map pods_of (option_to_list found)) (marks_at c.args.kept.now.read.by_slice k)) c.in-None.ensures.value)
    c.take_slice.ensures.pods
