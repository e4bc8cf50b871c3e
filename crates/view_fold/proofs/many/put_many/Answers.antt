use Rattle.std.proofs.Common.{◌++◌, reverse, ap, ◌∙◌}
use Rattle.view_rules.specs.InOrder.{in_order_by}
use Rattle.view_fold.proofs.Folded.{in_order, put_after}
use Rattle.view_fold.proofs.many.put_many.Goals as goal

pub returns-in-Ok-clause-ok : goal.returns-in-Ok-clause-ok
returns-in-Ok-clause-ok g c =
    let total = g.met.T.KeyedRow.total in
    let exact = g.met.T.KeyedRow.exact in
    let key = g.T.KeyedRow.key_of in
    c.in-Ok.ensures.ok ∙ ap (λ rows. in_order_by g.T.KeyedRow.cmp key (reverse rows)) c.in_ok-append.ensures.items
    ∙ in_order total exact key (c.args.rows.now.items ++ c.args.added.items) ∙ put_after total exact key c.args.rows.now.items c.args.added.items
