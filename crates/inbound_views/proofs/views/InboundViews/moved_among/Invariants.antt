use Rattle.std.proofs.Common.{take}
use Rattle.view_types.specs.Objects.{ObjectMap}
use Rattle.view_types.specs.declared.config.Config.{Config}
use Rattle.inbound_views.specs.Standing.{AreThoseWithout, HasKeys}
use Rattle.inbound_views.specs.contracts.views.InboundViewsKeepsRows.TheImpl.{ghosts}
use Rattle.inbound_views.proofs.views.InboundViews.moved_among.Given as goal

-- those among the ids so far
abbrev pub invariant-loop-id : goal.invariant-loop-id
invariant-loop-id l = (config : Config) (held : ObjectMap) → ghosts.stand l.self config held → AreThoseWithout (HasKeys config held l.keys l.self) (take l.id-index l.ids) l.moved
