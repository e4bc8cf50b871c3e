use Rattle.std.proofs.Common.{ap, ◌∙◌}
use Rattle.key_lists.specs.Keys.{has_key, nested_keys}
use Rattle.key_lists.proofs.Lists.{none_has}
use Rattle.key_lists.proofs.nested.take_list.Goals as goal

pub returns-then-emptied-clause-gone : goal.returns-then-emptied-clause-gone
returns-then-emptied-clause-gone g c =
    none_has (nested_keys g.A.Ord.cmp g.B.Ord.cmp c.let_go.new.by c.args.a.now c.args.b.now) (λ k. c.let_go.ensures.same c.args.a.now c.args.b.now k ∙ ap (has_key k) c.list_from-list.ensures.gone)

pub returns-then-emptied-clause-kept : goal.returns-then-emptied-clause-kept
returns-then-emptied-clause-kept g c = λ all. c.let_go.ensures.kept (c.list_from-list.ensures.kept all)

pub returns-else-emptied-clause-kept : goal.returns-else-emptied-clause-kept
returns-else-emptied-clause-kept g c = λ all. c.list_from-list.ensures.filled all c.if-emptied.false
