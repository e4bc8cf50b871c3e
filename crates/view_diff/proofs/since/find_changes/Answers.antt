use Rattle.std.proofs.Common.{take, ap, ◌∙◌}
use Rattle.std.proofs.lemmas.List.{take_more}
use Rattle.row_places.specs.Rows.{row_at}
use Rattle.view_diff.specs.Earlier.{Stood, address, changed_at, gone_at, row_if_changed, row_if_gone}
use Rattle.view_diff.proofs.PutBack.{change_more, gone_more}
use Rattle.view_diff.proofs.since.find_changes.Goals as goal

pub loop-stood-preserved : goal.loop-stood-preserved
loop-stood-preserved c =
    let was = c.as_ref.ensures.value ∙ ap (λ (s : Stood). s.2) c.stood-item.is in
    let row = c.row_at-row.ensures ∙ ap (λ (s : Stood). row_at c.args.rows.now (address s)) c.stood-item.is in
    rw (take_more c.args.before.now c.loop-stood.stood-index c.stood-item.result c.loop-stood-test.true)
    (record {
      changed = change_more (changed_at c.args.rows.now) (take c.loop-stood.stood-index c.args.before.now) _ _ _ _ c.loop-stood.invariant.changed c.in_ok-add_change.ensures.changed (λ i. row_if_changed (was i) (row i));
      gone = gone_more (gone_at c.args.rows.now) (take c.loop-stood.stood-index c.args.before.now) _ _ _ _ c.loop-stood.invariant.gone c.in_ok-add_change.ensures.gone (λ i. row_if_gone (was i) (row i));
    })
