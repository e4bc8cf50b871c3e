use Rattle.std.proofs.Common.{ap, ◌∙◌}
use Rattle.key_lists.specs.Keys.{has_key}
use Rattle.object_store.proofs.store.Store.servers_requiring.Goals as goal

pub returns : goal.returns
returns c = rw (← c.self.view_is) (λ going k. ap (has_key k) c.at.ensures ∙ (c.self.invariant.1 going).1 (c.args.ns.now, c.args.value.now) k)
