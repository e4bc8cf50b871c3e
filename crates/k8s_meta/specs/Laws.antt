-- Durations and labels, in terms of their grammars.
use Rattle.std.specs.Prelude.{ℕ, ◌≡◌, ◌≢◌, ◌+◌, ◌≤◌, ◌↔◌, ◌⊎◌, List, [], ◌∷◌, Some, None, codes, option_and_then}
use Rattle.std.specs.FinMap as map
use Rattle.serde_json.specs.Data.{Members, no_members, member}
use Rattle.serde_json.specs.Find.{get_member}
use Rattle.k8s_meta.specs.Duration.{duration_of, item_of}
use Rattle.k8s_meta.specs.ItemLaws.{joined}
use Rattle.k8s_meta.specs.Lists.{LabelMap, labels_from}
use Rattle.k8s_meta.specs.Words.{string_in}

-- ---- durations

-- each number with its unit is a number of nanoseconds, and n is their sum
abbrev pub AddUpTo : List (List ℕ × List ℕ) → ℕ → Type 0
AddUpTo [] n = n ≡ 0
AddUpTo ((number, unit) ∷ more) n = (m : ℕ) × (k : ℕ) × (item_of number unit ≡ Some m) × AddUpTo more k × (n ≡ m + k)

-- the string is one number with its unit or more, and n is their sum, at most 2 ^ 63 - 1
abbrev pub IsSum : List ℕ → ℕ → Type 0
IsSum text n = (parts : List (List ℕ × List ℕ)) × (parts ≢ []) × (joined parts ≡ text) × AddUpTo parts n × (n ≤ 9223372036854775807)

-- A string is a duration if and only if it is the digit 0 or such a sum. The value is unique.
abbrev pub DurationsAreSums : Type 0
DurationsAreSums = (text : List ℕ) (n : ℕ) → (duration_of text ≡ Some n) ↔ (((text ≡ codes "0") × (n ≡ 0)) ⊎ IsSum text n)

-- ---- labels

-- no name is a duplicate
abbrev pub AreDistinct : Members → Type 0
AreDistinct no_members = Unit {0}
AreDistinct (member key d ds) = (get_member key ds ≡ None) × AreDistinct ds

-- A label is the string at the member of its name. If that is absent or null, there is no label.
abbrev pub LabelsAreMembers : Type 0
LabelsAreMembers =
    (ms : Members) (found : LabelMap) → AreDistinct ms → labels_from map.empty ms ≡ Some found → (k : List ℕ) → map.get found k ≡ option_and_then string_in (get_member k ms)
