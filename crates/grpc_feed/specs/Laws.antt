-- What a list says, by key. A list of routes is about the keys of its own kind of routes alone.
use Rattle.std.specs.Prelude.{◌≡◌, ◌&&◌, Bool, true, List, map, not, if◌then◌else◌}
use Rattle.std.specs.FinMap.{get}
use Rattle.std.specs.List.{AllByRecursion}
use Rattle.mesh_base.specs.declared.key.ObjKey.{ObjKey}
use Rattle.feed_history.specs.Events.{objects_after}
use Rattle.object_store.specs.Relisted.{is_of, item_at}
use Rattle.view_types.specs.Objects.{AtKeys, ObjectMap, key_of}
use Rattle.view_types.specs.declared.object.Object.{Object}
use Rattle.grpc_feed.specs.FeedKinds.{is_lowered}
use Rattle.grpc_feed.specs.FeedLines.{relist_of}
use Rattle.grpc_feed.specs.declared.kinds.FeedKind.{FeedKind}
use Rattle.grpc_feed.specs.declared.kinds.FeedKind.TheVariants as kinds
use Rattle.grpc_feed.specs.declared.kinds.FeedObject.{FeedObject}

-- A list of GRPCRoutes is about the keys of lowered routes, and a list of another kind about all other keys of the kind.
abbrev pub speaks_of : FeedKind → ObjKey → Bool
speaks_of kinds.GrpcRoute key = is_lowered key
speaks_of (kinds.Held kind) key = is_of kind key && not (is_lowered key)

abbrev pub objects_of : List FeedObject → List Object
objects_of items = map (λ item. item.object) items

-- After a list, the item with the key is held where the list is about it, and else what was held.
abbrev pub ListsByKey : Type 0
ListsByKey = (held : ObjectMap) → AtKeys held → (kind : FeedKind) (items : List FeedObject) → AllByRecursion (λ o. speaks_of kind (key_of o) ≡ true) (objects_of items)
    → (key : ObjKey) → get (objects_after held (relist_of kind held items)) key ≡ (if speaks_of kind key then item_at key (objects_of items) else get held key)
