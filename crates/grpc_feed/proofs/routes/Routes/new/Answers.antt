use Rattle.mesh_base.specs.KeyOrder.{key_cmp}
use Rattle.mesh_base.proofs.Keyed.{keyed_none}
use Rattle.view_types.specs.Objects.{key_of}
use Rattle.view_types.specs.declared.object.Object.{Object}
use Rattle.grpc_feed.proofs.routes.Routes.new.Goals as goal

pub returns : goal.returns
returns c = rw c.new.ensures.items (keyed_none {X = Object} key_cmp key_of (λ o. o))
