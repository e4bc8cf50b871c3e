-- A value with its path, and how it is read.
use Rattle.std.specs.Borrow.{Bor}
use Rattle.std.specs.Prelude.{◌≡◌, ℕ, Bool, List, Option, Some, None, Result, Ok, Err, is_some}
use Rattle.serde_json.specs.Data.{Data, null}
use Rattle.serde_json.specs.Find.{get, as_null}
use Rattle.serde_json.specs.View.{view}
use Rattle.serde_json.specs.declared.value.Value.{Value}
use Rattle.k8s_meta.specs.Keys.{key_text}
use Rattle.k8s_meta.specs.Paths.{path_text, member_path, item_path}
use Rattle.k8s_meta.specs.declared.fault.ReadFault.{ReadFault}
use Rattle.k8s_meta.specs.declared.fault.ReadFault.TheVariants as faults
use Rattle.k8s_meta.specs.declared.key.Key.{Key}
use Rattle.k8s_meta.specs.declared.place.Place.{Place}

-- a value, which is null if absent, and its path
pub record Spot : Type 0 where
  pub at : List ℕ
  pub value : Data

abbrev pub or_null : Option Data → Data
or_null None = null
or_null (Some d) = d

-- the type of a function that reads a value
abbrev pub Reading : Type 0 → Type 0
Reading A = Spot → Result A ReadFault

infixl 40 ◌·◌
-- a member of an object
abbrev pub ◌·◌ : Spot → Key → Spot
s · key = record { at = member_path s.at (key_text key); value = or_null (get (key_text key) s.value) }

-- an item of a list, by its index
abbrev pub item_spot : List ℕ → ℕ → Data → Spot
item_spot at n d = record { at = item_path at n; value = d }

-- null counts as absent
abbrev pub is_absent : Spot → Bool
is_absent s = is_some (as_null s.value)

-- two readings in order, up to the first error
unfoldable pub then : {A B : Type 0} → Result A ReadFault → (A → Result B ReadFault) → Result B ReadFault
then (Ok x) f = f x
then (Err e) f = Err e

infixl 10 ◌>>=◌
abbrev pub ◌>>=◌ : {A B : Type 0} → Result A ReadFault → (A → Result B ReadFault) → Result B ReadFault
r >>= f = then r f

-- The error is that of the reading, or Memory.
abbrev pub Fails : {Y : Type 0} → ReadFault → Result Y ReadFault → Type 0
Fails faults.Memory read = Unit {0}
Fails (faults.Missing p) read = read ≡ Err (faults.Missing p)
Fails (faults.WrongType p) read = read ≡ Err (faults.WrongType p)
Fails (faults.BadName p) read = read ≡ Err (faults.BadName p)
Fails (faults.BadValue p what) read = read ≡ Err (faults.BadValue p what)

-- The result, seen by `view`, is the value of the reading, or its error, or Memory.
abbrev pub Gives : {X Y : Type 0} → (X → Y) → Result X ReadFault → Result Y ReadFault → Type 0
Gives view (Ok x) read = read ≡ Ok (view x)
Gives view (Err e) read = Fails e read

-- The result is the value of the reading, or its error, or Memory.
abbrev pub Reads : {X : Type 0} → Result X ReadFault → Result X ReadFault → Type 0
Reads (Ok x) read = read ≡ Ok x
Reads (Err e) read = Fails e read

-- The error is this one, or Memory.
abbrev pub IsFault : ReadFault → ReadFault → Type 0
IsFault e fault = Fails {Y = ℕ} e (Err fault)

-- the value at a place, which is null if absent
abbrev pub value_seen : Option (Bor Value) → Data
value_seen None = null
value_seen (Some v) = view v.now

abbrev pub seen : Place → Spot
seen p = record { at = path_text p.path; value = value_seen p.value }
