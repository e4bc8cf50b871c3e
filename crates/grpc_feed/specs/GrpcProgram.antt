-- The program of a feed with GRPCRoutes: a replay that reads each line over the objects held before it.
use Rattle.std.specs.Prelude.{Result, Ok, Err}
use Rattle.mesh_base.specs.declared.limits.Limits.{Limits}
use Rattle.route_match.specs.Matching.{Pat}
use Rattle.view_types.specs.declared.config.Config.{Config}
use Rattle.watch_events.specs.declared.line.Line.{Line}
use Rattle.feed_history.specs.Program.{Program, has_place_in_replay}
use Rattle.feed_history.specs.declared.refusal.Refusal.{Refusal}
use Rattle.feed_history.specs.declared.refusal.Refusal.TheVariants as refusals
use Rattle.grpc_feed.specs.FeedLines.{grpc_row}
use Rattle.grpc_feed.specs.declared.fault.GrpcFault.{GrpcFault}
use Rattle.grpc_feed.specs.declared.fault.GrpcFault.TheVariants as faults

abbrev pub refused_unread : Result Line GrpcFault → Result Line Refusal
refused_unread (Ok line) = Ok line
refused_unread (Err (faults.Line fault)) = Err (refusals.Line fault)
refused_unread (Err faults.Reserved) = Err refusals.Reserved

abbrev pub grpc_of : Config → Limits → Pat → Program
grpc_of config limits pat = record {
  config = config;
  reads = λ held row. refused_unread (grpc_row config held row);
  has_place = has_place_in_replay;
  limits = limits;
  matches = pat;
}
