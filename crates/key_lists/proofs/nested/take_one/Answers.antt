use Rattle.key_lists.proofs.nested.take_one.Goals as goal

pub returns-then-take_from-clause-kept : goal.returns-then-take_from-clause-kept
returns-then-take_from-clause-kept g c = λ all. c.let_go.ensures.kept (c.take_from.ensures.kept all)

pub returns-else-take_from-clause-kept : goal.returns-else-take_from-clause-kept
returns-else-take_from-clause-kept g c = λ all. c.take_from.ensures.filled all c.if-take_from.false
