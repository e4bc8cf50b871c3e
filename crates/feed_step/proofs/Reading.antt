-- What a row says that cannot be read.
use Rattle.std.proofs.Common.{◌≡◌}
use Rattle.std.specs.Prelude.{Result, Err}
use Rattle.watch_events.specs.Given.{Fails}
use Rattle.watch_events.specs.declared.line.Line.{Line}
use Rattle.watch_events.specs.declared.line.LineFault.{LineFault}
use Rattle.watch_events.specs.declared.line.LineFault.TheVariants as faults
use Rattle.feed_step.specs.Reading.{IsTold}

pub read_is : (fault : LineFault) (read : Result Line LineFault) → IsTold fault → Fails fault read → read ≡ Err fault
read_is faults.Memory read told fails = absurd told
read_is faults.TooLong read told fails = fails
read_is faults.NotJson read told fails = fails
read_is faults.NoForm read told fails = fails
read_is faults.UnknownType read told fails = fails
read_is faults.ErrorEvent read told fails = fails
read_is faults.UnknownKind read told fails = fails
read_is (faults.Object fault) read told fails = fails
read_is (faults.RepeatedItem place) read told fails = fails
read_is (faults.BadQuery path) read told fails = fails
