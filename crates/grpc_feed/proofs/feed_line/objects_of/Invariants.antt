use Rattle.std.proofs.Common.{◌≡◌, ◌++◌, map}
use Rattle.grpc_feed.specs.declared.kinds.FeedObject.{FeedObject}
use Rattle.grpc_feed.proofs.feed_line.objects_of.Given as goal

-- with those that are left, the objects are those of all items
abbrev pub invariant-loop-item : goal.invariant-loop-item
invariant-loop-item l = l.objects ++ map (λ (item : FeedObject). item.object) l.item-iterator.rest.items ≡ map (λ (item : FeedObject). item.object) l.fn.items
