use Rattle.std.proofs.Common.{◌≡◌, ◌++◌, take}
use Rattle.std.specs.List.{filter}
use Rattle.view_types.specs.Objects.{key_of}
use Rattle.grpc_feed.specs.FeedLines.{stays}
use Rattle.grpc_feed.proofs.routes.Routes.add_kept.Given as goal

-- the items, and those so far that stay
abbrev pub invariant-loop-object : goal.invariant-loop-object
invariant-loop-object l = l.items ≡ l.initial.items ++ filter (λ o. stays l.kind (key_of o)) (take l.object-index l.object-items)
