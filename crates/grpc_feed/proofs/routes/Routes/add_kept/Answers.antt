use Rattle.std.proofs.Common.{◌++◌, List, ap, ◌∙◌}
use Rattle.std.specs.List.{filter}
use Rattle.std.proofs.lemmas.List.{take_all}
use Rattle.view_types.specs.Objects.{key_of}
use Rattle.view_types.specs.declared.object.Object.{Object}
use Rattle.grpc_feed.specs.FeedLines.{stays}
use Rattle.grpc_feed.proofs.RouteMaps.{kept_are}
use Rattle.grpc_feed.proofs.routes.Routes.add_kept.Goals as goal

pub returns : goal.returns
returns c =
    let kind = c.args.kind in
    let objects = c.self.inside.objects.items in
    let so_far = rw c.as_slice-object-items.ensures.value at c.loop-object.invariant in
    let all = take_all c.loop-object.object-index objects (rw c.as_slice-object-items.ensures.value at c.loop-object-test.false) in
    rw (← c.self.view_is) (so_far ∙ ap (λ (os : List Object). c.args.items.now ++ filter (λ o. stays kind (key_of o)) os) all
    ∙ ap (λ (os : List Object). c.args.items.now ++ os) (kept_are kind objects c.self.invariant))
