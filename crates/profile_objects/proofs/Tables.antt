-- Matches are their tables, and nothing else is.
use Rattle.std.proofs.Common.{◌≡◌, ℕ, zero, suc, ◌<◌, ◌≤◌, List, ◌∷◌, Some, None, Result, Ok, refl, sym, ap, ◌∙◌, arith, if◌then◌else◌}
use Rattle.serde_json.specs.Data.{Data, null, boolean, number, string, array, object, Items, no_items, item, Members, depth, items_depth}
use Rattle.k8s_meta.specs.Lists.{each, each_from}
use Rattle.k8s_meta.specs.Spots.{Reading, Spot, ◌·◌, ◌>>=◌, is_absent, item_spot, then}
use Rattle.k8s_meta.specs.Words.{default, list, optional}
use Rattle.k8s_meta.specs.Words as words
use Rattle.k8s_meta.specs.declared.fault.ReadFault.{ReadFault}
use Rattle.k8s_meta.specs.declared.key.Key.{Key}
use Rattle.k8s_meta.specs.declared.key.Key.TheVariants as keys
use Rattle.profile_objects.specs.Laws.{RequestsAreTheirTable, ResponsesAreTheirTable}
use Rattle.profile_objects.specs.Matches.{MatchKind, match_by, match_of, negation, only}
use Rattle.profile_objects.specs.Nested.{Form, IsOnlySolution, Solves, levels, nested}
use Rattle.profile_objects.specs.Requests.{requests_kind}
use Rattle.profile_objects.specs.Responses.{responses_kind}
use Rattle.profile_objects.proofs.Depths.{member_below}

-- two readings give the same of each value that is less deep
abbrev AgreeBelow : {A : Type 0} → ℕ → Reading A → Reading A → Type 0
AgreeBelow n f g = (t : Spot) → depth t.value < n → f t ≡ g t

-- a form asks only for values inside its value
abbrev IsLocal : {A : Type 0} → Form A → Type 0
IsLocal {A} form = (f g : Reading A) (s : Spot) → AgreeBelow (depth s.value) f g → form f s ≡ form g s

levels_agree : {A : Type 0} (form : Form A) → IsLocal form → (n m : ℕ) (t : Spot) → depth t.value < n → depth t.value < m → levels form n t ≡ levels form m t
levels_agree form local zero m t low high = absurd (omega (arith, low))
levels_agree form local (suc n) zero t low high = absurd (omega (arith, high))
levels_agree form local (suc n) (suc m) t low high =
    local (levels form n) (levels form m) t (λ u less. levels_agree form local n m u (omega (arith, less, low)) (omega (arith, less, high)))

nested_is : {A : Type 0} (form : Form A) → IsLocal form → (s : Spot) → nested form s ≡ form (nested form) s
unfolding nested
nested_is form local s =
    local (levels form (depth s.value)) (nested form) s (λ t less. levels_agree form local (depth s.value) (suc (depth t.value)) t less (omega arith))

-- a reading that solves the form agrees with it where the values are less deep, and so here
alone_at : {A : Type 0} (form : Form A) → IsLocal form → (other : Reading A) → Solves form other → (n : ℕ) (t : Spot) → depth t.value < n → other t ≡ nested form t
alone_at form local other solves zero t low = absurd (omega (arith, low))
alone_at form local other solves (suc n) t low =
    solves t ∙ local other (nested form) t (λ u less. alone_at form local other solves n u (omega (arith, less, low))) ∙ sym (nested_is form local t)

is_only : {A : Type 0} (form : Form A) → IsLocal form → IsOnlySolution form (nested form)
is_only form local = record {
  solves = nested_is form local;
  alone = λ other solves s. alone_at form local other solves (suc (depth s.value)) s (omega arith);
}

items_agree : {A : Type 0} (f g : Reading A) (ds : Items) (at : List ℕ) (n : ℕ) → ((t : Spot) → depth t.value ≤ items_depth ds → f t ≡ g t) → each_from f at n ds ≡ each_from g at n ds
unfolding each_from
items_agree f g no_items at n same = refl
items_agree {A} f g (item d ds) at n same =
    ap (λ (r : Result A ReadFault). r >>= λ x. each_from f at (suc n) ds >>= λ xs. Ok (x ∷ xs)) (same (item_spot at n d) (omega arith))
    ∙ ap (λ (r : Result (List A) ReadFault). g (item_spot at n d) >>= λ x. r >>= λ xs. Ok (x ∷ xs)) (items_agree f g ds at (suc n) (λ t less. same t (omega (arith, less))))

-- a list of matches
each_of : {A : Type 0} (f g : Reading A) (at : List ℕ) (d : Data) → ((t : Spot) → depth t.value < depth d → f t ≡ g t) → each f (record { at = at; value = d }) ≡ each g (record { at = at; value = d })
unfolding each default list then
each_of f g at null same = refl
each_of f g at (boolean b) same = refl
each_of f g at (number n) same = refl
each_of f g at (string t) same = refl
each_of f g at (array ds) same = items_agree f g ds at 0 (λ t less. same t (omega (arith, less)))
each_of f g at (object ms) same = refl

-- one match, or a list of one
only_in : {A : Type 0} (f g : Reading A) (at : List ℕ) (d : Data) → ((t : Spot) → depth t.value ≤ depth d → f t ≡ g t) → (only (record { at = at; value = d }) >>= f) ≡ (only (record { at = at; value = d }) >>= g)
unfolding only then
only_in f g at null same = same (record { at = at; value = null }) (omega arith)
only_in f g at (boolean b) same = same (record { at = at; value = boolean b }) (omega arith)
only_in f g at (number n) same = same (record { at = at; value = number n }) (omega arith)
only_in f g at (string t) same = same (record { at = at; value = string t }) (omega arith)
only_in f g at (array no_items) same = refl
only_in f g at (array (item d no_items)) same = same (item_spot at 0 d) (omega arith)
only_in f g at (array (item d (item e ds))) same = refl
only_in f g at (object ms) same = same (record { at = at; value = object ms }) (omega arith)

optional_agrees : {A : Type 0} (f g : Reading A) (s : Spot) → f s ≡ g s → optional f s ≡ optional g s
unfolding optional default
optional_agrees {A} f g s same = ap (λ (r : Result A ReadFault). if is_absent s then Ok None else r >>= λ x. Ok (Some x)) same

module _ {M : Type 0} (f g : Reading M) (at : List ℕ) (ms : Members) (same : AgreeBelow (depth (object ms)) f g) (key : Key) where
  lists_agree : optional (each f) (record { at = at; value = object ms } · key) ≡ optional (each g) (record { at = at; value = object ms } · key)
  lists_agree =
      let s : Spot = record { at = at; value = object ms } · key in
      let h = member_below at ms key in
      optional_agrees (each f) (each g) s (each_of f g s.at s.value (λ t less. same t (omega (arith, less, h))))

  negations_agree : optional (negation f) (record { at = at; value = object ms } · key) ≡ optional (negation g) (record { at = at; value = object ms } · key)
  negations_agree =
      let s : Spot = record { at = at; value = object ms } · key in
      let h = member_below at ms key in
      optional_agrees (negation f) (negation g) s (only_in f g s.at s.value (λ t less. same t (omega (arith, less, h))))

match_in : {M : Type 0} (kind : MatchKind M) (f g : Reading M) (at : List ℕ) (d : Data) → AgreeBelow (depth d) f g → match_by kind f (record { at = at; value = d }) ≡ match_by kind g (record { at = at; value = d })
unfolding match_by words.object then
match_in kind f g at null same = refl
match_in kind f g at (boolean b) same = refl
match_in kind f g at (number n) same = refl
match_in kind f g at (string t) same = refl
match_in kind f g at (array ds) same = refl
match_in kind f g at (object ms) same = rw (lists_agree f g at ms same keys.All, lists_agree f g at ms same keys.Any, negations_agree f g at ms same keys.Not) refl

is_local : {M : Type 0} (kind : MatchKind M) → IsLocal (match_by kind)
is_local kind f g t same = match_in kind f g t.at t.value same

pub match_is : {M : Type 0} (kind : MatchKind M) (s : Spot) → match_of kind s ≡ match_by kind (match_of kind) s
match_is kind = nested_is (match_by kind) (is_local kind)

pub request_is : RequestsAreTheirTable
request_is = is_only (match_by requests_kind) (is_local requests_kind)

pub response_is : ResponsesAreTheirTable
response_is = is_only (match_by responses_kind) (is_local responses_kind)
