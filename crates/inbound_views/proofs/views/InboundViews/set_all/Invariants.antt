use Rattle.std.proofs.Common.{◌≡◌, ◌≤◌, ℕ, true, take}
use Rattle.view_types.specs.declared.config.Config.{Config}
use Rattle.mark_graph.specs.RowMarks.{has_row}
use Rattle.inbound_views.specs.Standing.{HasRowsOf, SetsAllRows, query_at}
use Rattle.inbound_views.specs.contracts.views.InboundViewsKeepsRows.TheImpl.{ghosts}
use Rattle.inbound_views.specs.declared.moving.Earlier.TheVariants.{Stay, Leave}
use Rattle.inbound_views.proofs.Entering.{AllEntered}
use Rattle.inbound_views.proofs.views.InboundViews.set_all.Given as goal

-- the ids so far have the keys of the rows of their queries
abbrev pub invariant-loop-id : goal.invariant-loop-id
invariant-loop-id g l = record {
  servers : l.self.servers ≡ l.initial.self.servers;
  entered : (config : Config) → l.earlier ≡ Stay → ghosts.stand l.initial.self config l.store.objects → AllEntered config l.store.objects l.initial.self l.self l.initial.steps l.steps;
  none_entered : (config : Config) → l.earlier ≡ Leave → ghosts.stand l.initial.self config l.store.objects → ((id : ℕ) → has_row id l.ids ≡ true → HasRowsOf config l.store.objects (query_at l.initial.self id) l.initial.self id)
      → ((id : ℕ) → has_row id l.ids ≡ true → HasRowsOf config l.store.objects (query_at l.initial.self id) l.self id) × (l.steps ≤ l.initial.steps);
  set : (config : Config) → ghosts.stand l.initial.self config l.store.objects → SetsAllRows ghosts.stand config l.store.objects l.earlier (take l.id-index l.ids) l.initial.self l.self;
}
