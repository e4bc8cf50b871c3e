use Rattle.std.proofs.Common.{◌≡◌}
use Rattle.key_lists.specs.Keys.{Rises, keys_at}
use Rattle.slice_marks.proofs.Orders.{by_marks}
use Rattle.slice_marks.proofs.keys.keys_at.Goals as goal

pub returns-clause-value : goal.returns-clause-value
returns-clause-value c = by_marks (λ cmp. c.keys_at.result.now ≡ keys_at cmp c.args.by.now c.args.mark.now) c.keys_at.ensures.value

pub returns-clause-rise : goal.returns-clause-rise
returns-clause-rise c = by_marks (λ cmp. Rises (keys_at cmp c.args.by.now c.args.mark.now)) c.keys_at.ensures.rise
