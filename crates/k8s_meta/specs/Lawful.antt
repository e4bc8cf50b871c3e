-- Properties of metadata, strings, ports and times that were read, which later calls require.
use Rattle.std.specs.Prelude.{ℕ, ◌≡◌, ◌≢◌, ◌<◌, ◌^◌, Bool, true, List, [], Option, Some, None, IsUtf8}
use Rattle.std.specs.List.{AllByRecursion}
use Rattle.k8s_meta.specs.Scalars.{is_label_byte, is_name_byte}
use Rattle.k8s_meta.specs.declared.meta.Meta.{Meta}

-- no string, or a string in UTF-8
abbrev pub IsString : Option (List ℕ) → Type 0
IsString None = Unit {0}
IsString (Some text) = IsUtf8 text

abbrev pub IsPort : ℕ → Type 0
IsPort port = port < 65536

abbrev pub IsSomePort : Option ℕ → Type 0
IsSomePort None = Unit {0}
IsSomePort (Some port) = IsPort port

-- Each byte of the string passes the test.
abbrev pub HasOnly : (ℕ → Bool) → List ℕ → Type 0
HasOnly passes text = AllByRecursion (λ (byte : ℕ). passes byte ≡ true) text

-- The name and the namespace have only bytes of names; the name and a creation time are not empty.
pub record IsLawfulMeta (meta : Meta) : Type 0 where
  pub name : meta.name ≢ []
  pub name_text : IsUtf8 meta.name
  pub name_bytes : HasOnly is_name_byte meta.name
  pub ns_text : IsUtf8 meta.ns
  pub ns_bytes : HasOnly is_label_byte meta.ns
  pub created : meta.created ≢ Some []
  pub created_text : IsString meta.created

-- no duration, or one below 2 ^ 63 nanoseconds
abbrev pub IsShort : Option ℕ → Type 0
IsShort None = Unit {0}
IsShort (Some nanoseconds) = nanoseconds < 2 ^ 63
