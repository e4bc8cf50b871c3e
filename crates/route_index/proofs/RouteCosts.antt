-- What the routes of a Server cost.
use Rattle.std.proofs.Common.{ℕ, ◌+◌, ◌≤◌, [], arith}
use Rattle.view_types.specs.Objects.{ObjectMap}
use Rattle.view_types.specs.declared.mark.Mark.TheVariants.{RouteOn}
use Rattle.view_types.specs.declared.route.ParentKind.TheVariants as parent
use Rattle.mark_rules.specs.Reads.{cost, count_at, route_reads}
use Rattle.mark_rules.specs.declared.keys.RouteKey.{RouteKey}
use Rattle.mark_rules.proofs.Counts.{cost_cons}

-- the row reads one mark
pub within_reads : (held : ObjectMap) (key : RouteKey) (before after : ℕ) → after ≤ before + count_at held (RouteOn key.ns parent.Server key.server) → after ≤ before + cost held (route_reads key)
within_reads held key before after steps =
    let one = cost_cons held (RouteOn key.ns parent.Server key.server) [] in
    omega (arith, one, steps)
