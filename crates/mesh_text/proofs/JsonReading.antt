-- The value that bytes write, from what the reader of JSON says of its own.
use Rattle.std.proofs.Common.{◌≡◌, ℕ, List, Bool, true, false, Option, Some, None, refl}
use Rattle.std.specs.Prelude.{if◌then◌else◌}
use Rattle.std.specs.Str.{IsUtf8, is_utf8}
use Rattle.std.proofs.lemmas.Str.{is_utf8-from_IsUtf8, IsUtf8-from_is_utf8}
use Rattle.serde_json.specs.Data.{Data}
use Rattle.serde_json.specs.Read.{read}
use Rattle.mesh_text.specs.Json.{json_of}

pub json_is : (bytes : List ℕ) (d : Data) → IsUtf8 bytes × (read bytes ≡ Some d) → Some d ≡ json_of bytes
unfolding json_of
json_is bytes d h = rw (is_utf8-from_IsUtf8 bytes h.0, h.1) refl

none_by : (b : Bool) (r : Option Data) → (b ≡ true → r ≡ None) → None ≡ (if b then r else None)
none_by true r h = rw (h refl) refl
none_by false r h = refl

pub is_no_json : (bytes : List ℕ) → (IsUtf8 bytes → read bytes ≡ None) → None ≡ json_of bytes
unfolding json_of
is_no_json bytes h = none_by (is_utf8 bytes) (read bytes) (λ (e : is_utf8 bytes ≡ true). h (IsUtf8-from_is_utf8 bytes e))
