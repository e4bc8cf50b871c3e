use Rattle.std.proofs.Common.{flat_map, sym}
use Rattle.object_store.specs.KindLists.{each}
use Rattle.object_store.proofs.AtKeys.{at_keys}
use Rattle.object_store.proofs.KindLists.{joined_sorted, own_kind}
use Rattle.object_store.proofs.objects.Objects.of_kind.Goals as goal

pub returns-clause-value : goal.returns-clause-value
returns-clause-value c = rw (← c.self.view_is) (sym (own_kind each c.self.inside.of_kinds c.self.invariant.0 c.args.kind c.place_of.result c.index-self-place_of.result c.place_of.ensures.place c.place_of.ensures.bound))

pub returns-clause-at_keys : goal.returns-clause-at_keys
returns-clause-at_keys c = rw (← c.self.view_is) (at_keys (flat_map each c.self.inside.of_kinds) (joined_sorted each 0 c.self.inside.of_kinds c.self.invariant.0))
