-- A port by its name or its number.
use Rattle.std.specs.Prelude.{ℕ, ◌==◌, List, Option, Some, None, Result, Ok, Err, length, if◌then◌else◌}
use Rattle.k8s_meta.specs.Scalars.{number}
use Rattle.k8s_meta.specs.Spots.{Spot, ◌>>=◌}
use Rattle.k8s_meta.specs.Words.{string_in}
use Rattle.k8s_meta.specs.declared.fault.What.TheVariants as what
use Rattle.k8s_meta.specs.declared.fault.ReadFault.{ReadFault}
use Rattle.k8s_meta.specs.declared.fault.ReadFault.TheVariants as faults
use Rattle.view_types.specs.declared.server.PortRef.{PortRef}
use Rattle.view_types.specs.declared.server.PortRef.TheVariants.{Number, Named}

-- the name of a container's port
abbrev pub port_name : List ℕ → List ℕ → Result PortRef ReadFault
port_name at t = if length t == 0 then Err (faults.BadValue at what.Shape) else Ok (Named t)

abbrev pub port_number : Spot → Result PortRef ReadFault
port_number s = number 1 65535 s >>= λ n. Ok (Number n)

abbrev pub name_or_number : Spot → Option (List ℕ) → Result PortRef ReadFault
name_or_number s (Some t) = port_name s.at t
name_or_number s None = port_number s

-- a string is a name, any other value a number
unfoldable pub port_ref_at : Spot → Result PortRef ReadFault
port_ref_at s = name_or_number s (string_in s.value)
