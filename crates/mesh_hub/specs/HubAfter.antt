-- The state of a hub after a list of rows.
use Rattle.std.specs.Prelude.{false, map}
use Rattle.view_types.specs.declared.config.Config.{Config}
use Rattle.view_rules.specs.Views.{view_before}
use Rattle.feed_history.specs.History.{Asked, State}
use Rattle.mesh_hub.specs.Hub.{HubState}
use Rattle.feed_history.specs.Program.{Program}
use Rattle.subscriptions.specs.Live.{LiveSubscription}

-- A subscription was last shown the view over the objects that were held at its last drain.
abbrev pub seen_sub : Config → Asked → LiveSubscription
seen_sub config asked = record { id = asked.id; query = asked.query; shown = view_before config asked.query asked.told }

abbrev pub seen : Program → State → HubState
seen program now = record {
  config = program.config;
  limits = program.limits;
  objects = now.objects;
  subs = map (seen_sub program.config) now.subs;
  last = now.last;
  spent = false;
}
