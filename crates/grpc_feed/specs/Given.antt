-- The result is that of the definition, unless memory ran out.
use Rattle.std.specs.Prelude.{◌≡◌, Result, Ok, Err}
use Rattle.watch_events.specs.declared.line.LineFault.TheVariants.{Memory}
use Rattle.grpc_feed.specs.declared.fault.GrpcFault.{GrpcFault}
use Rattle.grpc_feed.specs.declared.fault.GrpcFault.TheVariants.{Line}

abbrev pub Fails : {A : Type 0} → GrpcFault → Result A GrpcFault → Type 0
Fails (Line Memory) read = Unit {0}
Fails fault read = read ≡ Err fault

abbrev pub GivesGrpc : {A : Type 0} → Result A GrpcFault → Result A GrpcFault → Type 0
GivesGrpc (Ok x) read = read ≡ Ok x
GivesGrpc (Err fault) read = Fails fault read
