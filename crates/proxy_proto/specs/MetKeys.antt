-- The keys of the map entries among some records, as a set.
use Rattle.std.specs.Prelude.{◌≡◌, ℕ, ◌&&◌, Bool, true, false, List, Option, Some, None, ◌==◌}
use Rattle.std.specs.Borrow.{Bor}
use Rattle.std.specs.BTreeSet.{BTreeSet}
use Rattle.std.specs.List.{list_any}
use Rattle.std.specs.Str.{bytes_eq}
use Rattle.proto_wire.specs.declared.record.Rec.{Rec}
use Rattle.proxy_proto.specs.declared.table.Field.{Field}
use Rattle.proxy_proto.specs.declared.table.Label.{Label}
use Rattle.proxy_proto.specs.declared.table.Label.TheVariants.{Map}
use Rattle.proxy_proto.specs.Faults.{field_at, has_key}
use Rattle.proxy_proto.specs.Tables.{label_of}

-- keys, each with the number of its field
abbrev pub Keys : Type 0
Keys = BTreeSet (ℕ × Bor (List ℕ))

abbrev pub is_met : Keys → ℕ → List ℕ → Bool
is_met keys n key = list_any (λ k. n == k.0 && bytes_eq key k.1.now) keys.keys

abbrev pub is_map : Label → Bool
is_map Map = true
is_map _ = false

abbrev pub is_map_field : Option Field → Bool
is_map_field (Some f) = is_map (label_of f)
is_map_field None = false

-- The set has exactly the keys of the map entries among these records.
abbrev pub AreMet : List Field → Keys → List Rec → Type 0
AreMet fs keys rs = (n : ℕ) (key : List ℕ) → is_map_field (field_at n fs) ≡ true → is_met keys n key ≡ has_key n key rs
