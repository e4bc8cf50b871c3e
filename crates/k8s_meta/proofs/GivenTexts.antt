-- Strings are UTF-8, and names aren't empty.
use Rattle.std.proofs.Common.{◌≡◌, ◌≢◌, ◌==◌, ℕ, Bool, true, false, not, List, [], ◌∷◌, codes, length, Option, Some, None, Ok, Err, if◌then◌else◌, refl, ap, subst, option_and_then}
use Rattle.std.specs.Prelude.{◌||◌, nat_lt}
use Rattle.std.specs.List.{list_any}
use lib.Utf8.{encode}
use Rattle.std.specs.Str.{IsUtf8, chars, is_utf8}
use Rattle.std.proofs.lemmas.Str.{IsUtf8-from_is_utf8}
use Rattle.serde_json.specs.Data.{Data}
use Rattle.serde_json.specs.Find.{as_str}
use Rattle.k8s_meta.specs.Given.{GivesOnly}
use Rattle.k8s_meta.specs.Lawful.{HasOnly, IsString}
use Rattle.k8s_meta.specs.Scalars.{is_label_byte, is_made_of, is_name_byte, label_within, name_within, named, namespace}
use Rattle.k8s_meta.specs.Spots.{Reading}
use Rattle.k8s_meta.specs.Words.{default, filled, if_utf8, optional, string_in, text, typed}
use Rattle.k8s_meta.specs.declared.fault.ReadFault.TheVariants as faults
use Rattle.k8s_meta.proofs.Given.{after, default_gives, filled_gives, optional_gives, same_value}

if_utf8_gives : (t u : List ℕ) → if_utf8 t ≡ Some u → IsUtf8 u
if_utf8_gives t u e = cases (is_utf8 t) refl e
  where
    cases : (b : Bool) → is_utf8 t ≡ b → (if b then Some t else None) ≡ Some u → IsUtf8 u
    cases true is e = let same : t ≡ u = cc in subst IsUtf8 same (IsUtf8-from_is_utf8 t is)
    cases false is e = absurd cc

of_string : (o : Option (List ℕ)) (u : List ℕ) → option_and_then if_utf8 o ≡ Some u → IsUtf8 u
of_string None u e = absurd cc
of_string (Some t) u e = if_utf8_gives t u e

pub string_in_gives : (d : Data) (u : List ℕ) → string_in d ≡ Some u → IsUtf8 u
unfolding string_in
string_in_gives d u e = of_string (as_str d) u e

typed_value : {A : Type 0} (at : List ℕ) (o : Option A) (x : A) → typed at o ≡ Ok x → o ≡ Some x
typed_value at None x e = absurd cc
typed_value at (Some y) x e = ap Some (same_value y x e)

pub text_gives : GivesOnly IsUtf8 text
unfolding text
text_gives s u e = string_in_gives s.value u (typed_value s.at (string_in s.value) u e)

-- the strings that tables name
pub literal : (t : List ℕ) → is_utf8 t ≡ true → IsUtf8 t
literal = IsUtf8-from_is_utf8

pub empty_utf8 : IsUtf8 []
unfolding is_utf8 chars
empty_utf8 = literal [] refl

pub default_utf8 : IsUtf8 (codes "default")
unfolding is_utf8 chars encode
default_utf8 = literal (codes "default") refl

pub text_or_gives : (t : List ℕ) → IsUtf8 t → GivesOnly IsUtf8 (default t text)
text_or_gives t is = default_gives IsUtf8 t text is text_gives

pub some_text_gives : GivesOnly IsString (optional text)
some_text_gives = optional_gives IsString text tt text_gives

-- ---- names

module _ (test : List ℕ → Bool) (at : List ℕ) where
  passes : (t u : List ℕ) (b : Bool) → test t ≡ b → (if b then Ok t else Err (faults.BadName at)) ≡ Ok u → (t ≡ u) × (test u ≡ true)
  passes t u true is e = let same = same_value t u e in (same, subst (λ v. test v ≡ true) same is)
  passes t u false is e = absurd cc

  pub named_is : (t u : List ℕ) → named test at t ≡ Ok u → (t ≡ u) × (test u ≡ true)
  named_is t u e = passes t u (test t) refl e

  pub named_utf8 : (t : List ℕ) → IsUtf8 t → (u : List ℕ) → named test at t ≡ Ok u → IsUtf8 u
  named_utf8 t is u e = subst IsUtf8 (named_is t u e).0 is

some_bytes : (byte : ℕ → Bool) (most : ℕ) (t : List ℕ) → is_made_of byte most t ≡ true → t ≢ []
some_bytes byte most [] e = absurd cc
some_bytes byte most (c ∷ cs) e = λ h. cc

-- no byte fails
none_fails : (passes : ℕ → Bool) (t : List ℕ) → not (list_any (λ (b : ℕ). not (passes b)) t) ≡ true → HasOnly passes t
none_fails passes [] e = tt
none_fails passes (c ∷ cs) e = by_first (passes c) refl e (none_fails passes cs)
  where
    by_first : (first : Bool) → passes c ≡ first → not (not first || list_any (λ (b : ℕ). not (passes b)) cs) ≡ true
        → (not (list_any (λ (b : ℕ). not (passes b)) cs) ≡ true → HasOnly passes cs) → HasOnly passes (c ∷ cs)
    by_first true is rest go_on = (is, go_on rest)
    by_first false is rest go_on = absurd cc

only_such : (passes : ℕ → Bool) (most : ℕ) (t : List ℕ) → is_made_of passes most t ≡ true → HasOnly passes t
only_such passes most t = by_length (length t == 0) (nat_lt most (length t))
  where
    by_length : (empty long : Bool) → (if empty then false else (if long then false else not (list_any (λ (b : ℕ). not (passes b)) t))) ≡ true → HasOnly passes t
    by_length true long e = absurd cc
    by_length false true e = absurd cc
    by_length false false e = none_fails passes t e

module _ (most : ℕ) where
  pub name_bytes : GivesOnly (HasOnly is_name_byte) (name_within most)
  unfolding name_within
  name_bytes s = after (HasOnly is_name_byte) _ _ (λ t _ u e. only_such is_name_byte most u (named_is (is_made_of is_name_byte most) s.at t u e).1)

  label_bytes : GivesOnly (HasOnly is_label_byte) (label_within most)
  unfolding label_within
  label_bytes s = after (HasOnly is_label_byte) _ _ (λ t _ u e. only_such is_label_byte most u (named_is (is_made_of is_label_byte most) s.at t u e).1)

  pub name_gives : GivesOnly (λ (t : List ℕ). t ≢ []) (name_within most)
  unfolding name_within
  name_gives s = after (λ (t : List ℕ). t ≢ []) _ _ (λ t _ u e. some_bytes is_name_byte most u (named_is (is_made_of is_name_byte most) s.at t u e).1)

  pub name_utf8 : GivesOnly IsUtf8 (name_within most)
  unfolding name_within
  name_utf8 s = after IsUtf8 _ _ (λ t is. named_utf8 (is_made_of is_name_byte most) s.at t (text_gives s t is))

  pub label_utf8 : GivesOnly IsUtf8 (label_within most)
  unfolding label_within
  label_utf8 s = after IsUtf8 _ _ (λ t is. named_utf8 (is_made_of is_label_byte most) s.at t (text_gives s t is))

pub namespace_or_gives : (own : List ℕ) → IsUtf8 own → GivesOnly IsUtf8 (default own namespace)
namespace_or_gives own is = default_gives IsUtf8 own namespace is (label_utf8 63)

pub default_bytes : HasOnly is_label_byte (codes "default")
unfolding is_label_byte
default_bytes = (refl, (refl, (refl, (refl, (refl, (refl, (refl, tt)))))))

pub namespace_bytes_or : (own : List ℕ) → HasOnly is_label_byte own → GivesOnly (HasOnly is_label_byte) (default own namespace)
namespace_bytes_or own is = default_gives (HasOnly is_label_byte) own namespace is (label_bytes 63)

pub some_namespace_gives : GivesOnly IsString (optional namespace)
some_namespace_gives = optional_gives IsString namespace tt (label_utf8 63)

-- a string where one stands, and where the empty one counts as absent
pub filled_text_gives : (read : Reading (List ℕ)) → GivesOnly IsUtf8 read → GivesOnly IsString (filled read)
filled_text_gives read gives = filled_gives IsString read tt gives
