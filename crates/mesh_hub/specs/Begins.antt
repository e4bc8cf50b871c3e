-- The effect of `begin` on a machine.
use Rattle.std.specs.Prelude.{◌≡◌, true, false, Result, Ok, Err}
use Rattle.mesh_hub.specs.Hub.{HubState}
use Rattle.mesh_base.specs.declared.memory.Memory.{Memory}

-- The machine is as new, or memory ran out and it is spent. A spent machine cannot begin.
abbrev pub Begins : HubState → Result (Unit {0}) Memory → HubState → HubState → Type 0
Begins fresh (Ok done) old new = (old.spent ≡ false) × (new ≡ fresh)
Begins fresh (Err memory) old new = new.spent ≡ true
