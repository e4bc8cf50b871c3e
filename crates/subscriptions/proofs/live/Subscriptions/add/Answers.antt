use Rattle.std.proofs.Common.{sym, subst, ap, nat_eq, cond, Some, List, ◌∷◌, ◌++◌, [], ◌∙◌}
use Rattle.std.specs.Map.{values_of}
use Rattle.subscriptions.specs.Live.{AreBelow, LiveSubscription, id_of, sub_at}
use Rattle.subscriptions.proofs.ById.{behind, behind_by, puts, values_behind}
use Rattle.subscriptions.proofs.live.Subscriptions.add.Goals as goal

pub invariant_of-self-2 : goal.invariant_of-self-2
invariant_of-self-2 c =
    let same = sym c.number.ensures.value in
    let below : AreBelow (id_of c.args.sub) (values_of c.self.inside.by_id.entries) = rw c.self.view_is c.requires in
    let under : AreBelow c.number.result (values_of c.self.inside.by_id.entries) = subst (λ n. AreBelow n (values_of c.self.inside.by_id.entries)) same below in
    rw (c.in_ok-insert.ensures.entries, behind id_of c.self.inside.by_id.entries c.number.result c.args.sub c.self.invariant under)
    (behind_by id_of c.self.inside.by_id.entries c.number.result c.args.sub c.self.invariant same c.number.ensures.range)

pub returns-clause-ok : goal.returns-clause-ok
returns-clause-ok c =
    let same = sym c.number.ensures.value in
    let below : AreBelow (id_of c.args.sub) (values_of c.self.inside.by_id.entries) = rw c.self.view_is c.requires in
    let under : AreBelow c.number.result (values_of c.self.inside.by_id.entries) = subst (λ n. AreBelow n (values_of c.self.inside.by_id.entries)) same below in
    ap values_of (c.in_ok-insert.ensures.entries ∙ behind id_of c.self.inside.by_id.entries c.number.result c.args.sub c.self.invariant under)
    ∙ values_behind id_of c.self.inside.by_id.entries c.number.result c.args.sub
    ∙ ap (λ (subs : List LiveSubscription). subs ++ c.args.sub ∷ []) c.self.view_is

pub returns-clause-at : goal.returns-clause-at
returns-clause-at c = λ n.
    let same = sym c.number.ensures.value in
    puts id_of c.number.result (Some c.args.sub) c.self.inside.by_id.entries c.insert.new.self.entries c.self.invariant (invariant_of-self-2 c) c.in_ok-insert.ensures.updates.0 n
    ∙ ap (λ id. cond (nat_eq n id) (Some c.args.sub) (sub_at n (values_of c.self.inside.by_id.entries))) (sym same)
    ∙ ap (λ subs. cond (nat_eq n (id_of c.args.sub)) (Some c.args.sub) (sub_at n subs)) c.self.view_is
