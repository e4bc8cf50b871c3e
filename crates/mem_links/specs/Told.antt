-- The form of the results of a read and a write in the trace.
use Rattle.std.specs.Prelude.{◌≡◌, ℕ, List, take, Result, Ok, Err}
use Rattle.mesh_links.specs.declared.call.ReadGot.{ReadGot}
use Rattle.mesh_links.specs.declared.call.ReadGot.TheVariants as reads
use Rattle.mesh_links.specs.declared.call.WriteGot.{WriteGot}
use Rattle.mesh_links.specs.declared.call.WriteGot.TheVariants as writes
use Rattle.mesh_links.specs.declared.links.LinkFault.{LinkFault}
use Rattle.mesh_links.specs.declared.links.LinkFault.TheVariants as faults
use Rattle.mem_links.specs.declared.play.Spot.{Spot}

-- for a read with these bytes in its buffer after it
abbrev pub IsToldRead : Result (ℕ × Spot) LinkFault → List ℕ → ReadGot → Type 0
IsToldRead (Ok read) buf got = got ≡ reads.Bytes (take read.0 buf)
IsToldRead (Err faults.Pending) buf got = got ≡ reads.Pending
IsToldRead (Err faults.Failed) buf got = got ≡ reads.Failed
IsToldRead (Err faults.Memory) buf got = ⊥

abbrev pub IsToldWrite : Result ℕ LinkFault → WriteGot → Type 0
IsToldWrite (Ok n) got = got ≡ writes.Took n
IsToldWrite (Err faults.Pending) got = got ≡ writes.Pending
IsToldWrite (Err faults.Failed) got = got ≡ writes.Failed
IsToldWrite (Err faults.Memory) got = ⊥
