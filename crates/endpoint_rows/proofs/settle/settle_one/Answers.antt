use Rattle.std.proofs.Common.{◌≡◌, Bool, false, cond, ◌++◌, [], ◌∷◌, Option, Some, None, refl, sym, ap, subst, ◌∙◌, append-nil}
use Rattle.std.specs.Option.{option_to_list}
use Rattle.view_rules.specs.Same.{same_option, same_row}
use Rattle.view_diff.specs.Earlier.{Stood}
use Rattle.row_places.specs.Rows.{row_at}
use Rattle.endpoint_rows.specs.Kept.{Replaces, all_rows}
use Rattle.endpoint_rows.proofs.Edits.{same_replaces}
use Rattle.endpoint_rows.proofs.Found.{found_is, own_found, own_row}
use Rattle.endpoint_rows.proofs.Orders.{always_ok, on_ok}
use Rattle.endpoint_rows.proofs.Showing.{option_same}
use Rattle.endpoint_rows.proofs.settle.settle_one.Goals as goal

pub returns-then-is_same-clause-rows : goal.returns-then-is_same-clause-rows
returns-then-is_same-clause-rows c = λ agree h.
    let same = option_same _ _ (sym c.is_same.ensures ∙ c.if-is_same.true) in
    same_replaces c.args.rows.now h c.args.pair _ (sym c.at.ensures ∙ same ∙ c.first-now.ensures.value agree)

pub returns-clause-rows : goal.returns-clause-rows
returns-clause-rows c = λ agree h.
    let all = all_rows c.args.slices.now.by_slice in
    always_ok c.add.result (subst (λ row. Replaces c.args.pair row c.args.rows.now c.show.new.rows) (c.first-now.ensures.value agree)
    (c.in_ok-was.ensures.rows (λ r e. own_row all c.args.pair r (sym (c.first-now.ensures.value agree) ∙ e))))

pub returns-clause-notes : goal.returns-clause-notes
returns-clause-notes c = λ agree.
    let all = all_rows c.args.slices.now.by_slice in
    let other : same_option same_row (row_at c.args.rows.now c.args.pair) (row_at all c.args.pair) ≡ false =
    (λ i. same_option same_row (sym c.at.ensures i) (sym (c.first-now.ensures.value agree) i)) ∙ sym c.is_same.ensures ∙ c.if-is_same.false in
    let shown = c.in_ok-was.ensures.was (λ r e. own_row all c.args.pair r (sym (c.first-now.ensures.value agree) ∙ e)) in
    on_ok c.add.result (λ e.
    e ∙ ap (λ was. c.args.notes.now ++ (c.args.pair.0, c.args.pair.1, was) ∷ []) shown
    ∙ sym (ap (λ (b : Bool). c.args.notes.now ++ option_to_list (cond {A = Option Stood} b None (Some (c.args.pair.0, c.args.pair.1, row_at c.args.rows.now c.args.pair)))) other)) c.add.ensures.ok

pub returns-then-is_same-clause-adds : goal.returns-then-is_same-clause-adds
returns-then-is_same-clause-adds c = record { note = None; is = sym (append-nil c.args.notes.now); own = tt }

pub returns-clause-adds : goal.returns-clause-adds
returns-clause-adds c =
    let was = c.in_ok-was.ensures.was (found_is c.args.pair _ c.first-now.ensures.own) in
    on_ok c.add.result (λ e. record { note = Some _; is = e; own = (refl, own_found c.args.rows.now c.args.pair _ was) }) c.add.ensures.ok
