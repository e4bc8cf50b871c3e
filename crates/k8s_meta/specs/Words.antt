-- The words of the member tables: each reads the value at a spot, or returns the first error.
use Rattle.std.specs.Prelude.{ℕ, ◌==◌, length, Bool, List, Option, Some, None, Result, Ok, Err, option_and_then, if◌then◌else◌}
use Rattle.std.specs.Result.{result_ok}
use Rattle.std.specs.Str.{is_utf8}
use Rattle.serde_json.specs.Find.{as_bool, as_str, as_array, as_object}
use Rattle.serde_json.specs.Data.{Data, Items}
use Rattle.k8s_meta.specs.Spots.{Spot, is_absent, ◌>>=◌}
use Rattle.k8s_meta.specs.declared.fault.What.{What}
use Rattle.k8s_meta.specs.declared.fault.What.TheVariants as what
use Rattle.k8s_meta.specs.declared.fault.ReadFault.{ReadFault}
use Rattle.k8s_meta.specs.declared.fault.ReadFault.TheVariants as faults

-- a value of the expected type
abbrev pub typed : {A : Type 0} → List ℕ → Option A → Result A ReadFault
typed at None = Err (faults.WrongType at)
typed at (Some x) = Ok x

-- the meaning of a value of the right type, or the error BadValue
abbrev pub valid : {A : Type 0} → List ℕ → What → Option A → Result A ReadFault
valid at what None = Err (faults.BadValue at what)
valid at what (Some x) = Ok x

abbrev pub if_utf8 : List ℕ → Option (List ℕ)
if_utf8 t = if is_utf8 t then Some t else None

-- a string in UTF-8
unfoldable pub string_in : Data → Option (List ℕ)
string_in d = option_and_then if_utf8 (as_str d)

unfoldable pub text : Spot → Result (List ℕ) ReadFault
text s = typed s.at (string_in s.value)

unfoldable pub boolean : Spot → Result Bool ReadFault
boolean s = typed s.at (as_bool s.value)

unfoldable pub list : Spot → Result Items ReadFault
list s = typed s.at (as_array s.value)

unfoldable pub object : Spot → Result Spot ReadFault
object s = typed s.at (as_object s.value) >>= λ _. Ok s

-- a string of a table
unfoldable pub choice : {A : Type 0} → (List ℕ → Option A) → Spot → Result A ReadFault
choice table s = text s >>= λ t. valid s.at what.Choice (table t)

-- ---- present or absent

unfoldable pub required : {A : Type 0} → (Spot → Result A ReadFault) → Spot → Result A ReadFault
required read s = if is_absent s then Err (faults.Missing s.at) else read s

unfoldable pub default : {A : Type 0} → A → (Spot → Result A ReadFault) → Spot → Result A ReadFault
default x read s = if is_absent s then Ok x else read s

abbrev pub some : {A : Type 0} → (Spot → Result A ReadFault) → Spot → Result (Option A) ReadFault
some read s = read s >>= λ x. Ok (Some x)

unfoldable pub optional : {A : Type 0} → (Spot → Result A ReadFault) → Spot → Result (Option A) ReadFault
optional read s = default None (some read) s

-- an object, which is empty if absent
unfoldable pub part : Spot → Result Spot ReadFault
part s = default s object s

-- a string, of which a blank one counts as absent
unfoldable pub unless : {A : Type 0} → (List ℕ → Bool) → A → (Spot → Result A ReadFault) → Spot → Result A ReadFault
unless blank x read s = text s >>= λ t. if blank t then Ok x else read s

-- a string, of which the empty one counts as absent
unfoldable pub filled : {A : Type 0} → (Spot → Result A ReadFault) → Spot → Result (Option A) ReadFault
filled read s = unless (λ t. length t == 0) None (some read) s

-- the value that is read, or None for an error
abbrev pub lenient : {A : Type 0} → (Spot → Result A ReadFault) → Spot → Option A
lenient read s = result_ok (read s)
