use Rattle.std.proofs.Common.{◌≡◌, map, take}
use Rattle.std.specs.List.{filter, filter_map}
use Rattle.view_rules.specs.Routes.{as_route, has_parent}
use Rattle.policy_rows.proofs.routes.routes_among.Given as goal

-- those so far that are attached
abbrev pub invariant-loop-object : goal.invariant-loop-object
invariant-loop-object g l = map (λ route. route.now) l.routes.items ≡ filter (has_parent l.ns (g.A.Attachment.is_parent l.attachment)) (filter_map (λ o. as_route o.now) (take l.object-index l.objects))
