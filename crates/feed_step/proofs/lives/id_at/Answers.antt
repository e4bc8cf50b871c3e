use Rattle.std.proofs.Common.{◌∙◌, Some, ap, sym}
use Rattle.std.proofs.lemmas.Option.{slice_get-get_or, slice_get_past}
use Rattle.feed_step.proofs.lives.id_at.Goals as goal

pub returns-in-Some-clause-value : goal.returns-in-Some-clause-value
returns-in-Some-clause-value c = ap (λ x. Some x) c.in-Some.ensures.lookup.1 ∙ sym (slice_get-get_or c.args.ids.now c.args.place c.in-Some.id.now c.in-Some.ensures.lookup.3.0)

pub returns-in-None-clause-value : goal.returns-in-None-clause-value
returns-in-None-clause-value c = sym (slice_get_past c.args.ids.now c.args.place c.in-None.ensures.lookup.3)
