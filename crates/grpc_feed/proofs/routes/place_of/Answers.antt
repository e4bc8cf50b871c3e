use Rattle.std.proofs.Common.{rules}
use Rattle.std.proofs.lemmas.Fn.{always_returns_same}
use Rattle.mesh_base.specs.KeyOrder.{key_cmp}
use Rattle.mesh_base.proofs.KeyOrder.{keys_total, keys_exact}
use Rattle.mesh_base.proofs.Keyed.{searchable}
use Rattle.mesh_base.proofs.Places.{searched}
use Rattle.view_types.specs.Objects.{key_of}
use Rattle.grpc_feed.proofs.routes.place_of.Goals as goal

pub returns : goal.returns
returns c =
    let facts = c.binary_search_by.ensures in
    let by_key = facts.position (λ o. key_cmp (key_of o) (key_of c.args.object.now)) (always_returns_same _ _ _ (λ a r g called. (search rules, search rules))) in
    searched _ _ (searchable keys_total keys_exact key_of (λ o. o) c.args.objects.now c.requires (key_of c.args.object.now)) _ facts.bound by_key
