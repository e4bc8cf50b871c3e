-- Readers of values that contain values of the same form.
use Rattle.std.specs.Prelude.{◌≡◌, ℕ, zero, suc, Err}
use Rattle.serde_json.specs.Data.{depth}
use Rattle.k8s_meta.specs.Spots.{Reading, Spot}
use Rattle.k8s_meta.specs.declared.fault.ReadFault.TheVariants as faults

-- the reading of a value, in terms of a reading of the values in it
abbrev pub Form : Type 0 → Type 0
Form A = Reading A → Reading A

-- to a maximum number of levels
abbrev pub levels : {A : Type 0} → Form A → ℕ → Reading A
levels form zero = λ s. Err (faults.WrongType s.at)
levels form (suc n) = form (levels form n)

-- as many levels as the value has
unfoldable pub nested : {A : Type 0} → Form A → Reading A
nested form s = levels form (suc (depth s.value)) s

-- a reading of values of the form, with the values in them read by the same reading
abbrev pub Solves : {A : Type 0} → Form A → Reading A → Type 0
Solves form read = (s : Spot) → read s ≡ form read s

-- the unique reading that solves the form: any other agrees with it at every value
pub record IsOnlySolution {A : Type 0} (form : Form A) (read : Reading A) : Type 0 where
  pub solves : Solves form read
  pub alone : (other : Reading A) → Solves form other → (s : Spot) → other s ≡ read s
