-- What becomes of the streams of all keys when those of one key change in a map.
use Rattle.std.proofs.Common.{◌≡◌, inl, inr, ℕ, ◌&&◌, Bool, true, false, cond, not, nat_eq, List, Option, Some, None, Result, Ok, Err, IfOk, OnErr, OnOk, refl, sym, ap, subst, ◌∙◌}
use Rattle.std.proofs.lemmas.Bool.{false≢true}
use Rattle.std.specs.BTreeMap.{BTreeMap, UpdatesBy, WritesThrough}
use Rattle.std.specs.Cmp.{IsTotalOrder}
use Rattle.std.specs.FinMap.{IsAntisymmetric}
use Rattle.std.specs.Option.{IsSome, is_some}
use Rattle.std.specs.Ordering.{eq_by_cmp}
use Rattle.std.specs.Result.{result_ok}
use Rattle.mark_rules.specs.contracts.keys.EndpointKeyOrd.TheImpl.Laws.{total-law}
use Rattle.mark_rules.specs.declared.keys.EndpointKey.{EndpointKey}
use Rattle.view_diff.specs.Earlier.{Stood}
use Rattle.row_table.proofs.Keys.{flipped, is_itself, tells}
use Rattle.endpoint_index.specs.EndpointKeys.{endpoint_keys_exact}
use Rattle.shared_endpoints.specs.ByKey.{Joined, JoinedAt, JoinsAt, LeavesAt, SetsAt, Streams, key_cmp, streams_at}
use Rattle.shared_endpoints.specs.Sharing.{Changed, ChangedAt, ChangesAt, LeftAt}

pub key_total : IsTotalOrder key_cmp
key_total = total-law

pub key_exact : IsAntisymmetric key_cmp
key_exact = endpoint_keys_exact

pub ok_then : {A E P Q : Type 0} (r : Result A E) → OnOk r P → (P → Q) → OnOk r Q
ok_then (Ok a) p f = f p
ok_then (Err e) p f = tt

pub ok_if : {A E P Q R S : Type 0} (r : Result A E) → OnOk r P → (Q → OnOk r R) → (P → (Q → R) → S) → OnOk r S
ok_if (Ok a) p q f = f p q
ok_if (Err e) p q f = tt

pub ok_when : {A E Q R S : Type 0} (r : Result A E) → (Q → OnOk r R) → ((Q → R) → S) → OnOk r S
ok_when (Ok a) q f = f q
ok_when (Err e) q f = tt

pub err_then : {A E P Q : Type 0} (r : Result A E) → OnErr r P → (P → Q) → OnErr r Q
err_then (Ok a) p f = tt
err_then (Err e) p f = f p

pub none_where : (o : Option Streams) → is_some o ≡ false → o ≡ None
none_where None is = refl
none_where (Some streams) is = absurd (cc is)

pub if_then : {A E Q : Type 0} {P R : A → Type 0} (r : Result A E) → IfOk r P → OnOk r Q → ((a : A) → P a → Q → R a) → IfOk r R
if_then (Ok a) p q f = f a p q
if_then (Err e) p q f = tt

-- the value of a result that has one
pub from_ok : {A E : Type 0} (r : Result A E) (a : A) → result_ok r ≡ Some a → Ok a ≡ r
from_ok (Ok b) a is = let same : b ≡ a = cc is in ap Ok (sym same)
from_ok (Err e) a is = absurd (cc is)

-- the same test, turned round
pub turned_puts : (key : EndpointKey) (value : Option Streams) (old new : BTreeMap EndpointKey Streams) → ((k : EndpointKey) → streams_at new k ≡ cond (eq_by_cmp key_cmp key k) value (streams_at old k)) → SetsAt key value old new
turned_puts key value old new puts k = puts k ∙ ap (λ b. cond b value (streams_at old k)) (flipped key_cmp key_total key_exact key k)

-- ---- the streams of a key are written to

module _ (key : EndpointKey) (was value : Streams) (old new : BTreeMap EndpointKey Streams) (there : streams_at old key ≡ Some was) (writes : WritesThrough key_cmp (key_cmp key) old value new) where
  updates : UpdatesBy key_cmp (key_cmp key) old new (Some value)
  updates = writes.3 (subst IsSome (sym there) refl)

  pub puts_one : SetsAt key (Some value) old new
  puts_one = turned_puts key (Some value) old new updates.0

  pub now_there : streams_at new key ≡ Some value
  now_there = puts_one key ∙ ap (λ b. cond b (Some value) (streams_at old key)) (is_itself key_cmp key_total key_exact key)

  puts : SetsAt key (streams_at new key) old new
  puts = subst (λ (o : Option Streams). SetsAt key o old new) (sym now_there) puts_one

  pub joined_at : (id : ℕ) → Joined id was value → JoinsAt id key old new
  joined_at id joined = record {
    put = puts;
    there = subst (λ (o : Option Streams). JoinedAt id o (streams_at new key)) (sym there) (subst (λ (o : Option Streams). JoinedAt id (Some was) o) (sym now_there) joined);
  }

  pub left_at : (id : ℕ) → LeftAt id (Some was) (Some value) → LeavesAt id key old new
  left_at id left = record {
    put = puts;
    there = subst (λ (o : Option Streams). LeftAt id o (streams_at new key)) (sym there) (subst (λ (o : Option Streams). LeftAt id (Some was) o) (sym now_there) left);
    present = ap is_some now_there ∙ sym (ap is_some there);
  }

  pub changed_at : (notes : EndpointKey → List Stood) → Changed (notes key) was value → ChangesAt key_cmp (λ k. eq_by_cmp key_cmp k key) notes (streams_at old) (streams_at new)
  changed_at notes changed k = elim (tells key_cmp key_total key_exact k key) [
    | inl same ↦
        subst (λ (b : Bool). ChangedAt b (notes k) (streams_at old k) (streams_at new k)) (sym same.0)
        (subst (λ (j : EndpointKey). ChangedAt true (notes j) (streams_at old j) (streams_at new j)) (sym same.1)
        (subst (λ (o : Option Streams). ChangedAt true (notes key) o (streams_at new key)) (sym there)
        (subst (λ (o : Option Streams). ChangedAt true (notes key) (Some was) o) (sym now_there) changed)))
    | inr apart ↦
        subst (λ (b : Bool). ChangedAt b (notes k) (streams_at old k) (streams_at new k)) (sym apart.0)
        (puts_one k ∙ ap (λ b. cond b (Some value) (streams_at old k)) apart.0)
  ]

-- ---- the key has none

module _ (key : EndpointKey) (old new : BTreeMap EndpointKey Streams) (absent : streams_at old key ≡ None) (same : new ≡ old) where
  still : (k : EndpointKey) → streams_at new k ≡ streams_at old k
  still k = ap (λ (m : BTreeMap EndpointKey Streams). streams_at m k) same

  pub none_now : streams_at new key ≡ None
  none_now = still key ∙ absent

  puts_same : SetsAt key (streams_at new key) old new
  puts_same k = elim (tells key_cmp key_total key_exact k key) [
    | inl is ↦ ap (streams_at new) is.1 ∙ sym (ap (λ b. cond b (streams_at new key) (streams_at old k)) is.0)
    | inr apart ↦ still k ∙ sym (ap (λ b. cond b (streams_at new key) (streams_at old k)) apart.0)
  ]

  pub not_joined : (id : ℕ) → JoinsAt id key old new
  not_joined id = record {
    put = puts_same;
    there = subst (λ (o : Option Streams). JoinedAt id o (streams_at new key)) (sym absent) (subst (λ (o : Option Streams). JoinedAt id None o) (sym none_now) tt);
  }

  none_left : (id : ℕ) → LeftAt {F = List (List ℕ)} id None None
  none_left id = record {
    ids = λ n. elim (nat_eq n id) as (λ b. false ≡ (not b && false)) [ true ↦ refl | false ↦ refl ];
    shown = λ now n has. absurd (false≢true has);
    right = λ encode now right. tt;
  }

  pub not_left : (id : ℕ) → LeavesAt id key old new
  not_left id = record {
    put = puts_same;
    there = subst (λ (o : Option Streams). LeftAt id o (streams_at new key)) (sym absent) (subst (λ (o : Option Streams). LeftAt id None o) (sym none_now) (none_left id));
    present = ap is_some (still key);
  }

  pub not_changed : (notes : EndpointKey → List Stood) → ChangesAt key_cmp (λ k. eq_by_cmp key_cmp k key) notes (streams_at old) (streams_at new)
  not_changed notes k = elim (tells key_cmp key_total key_exact k key) [
    | inl is ↦
        subst (λ (b : Bool). ChangedAt b (notes k) (streams_at old k) (streams_at new k)) (sym is.0)
        (subst (λ (j : EndpointKey). ChangedAt true (notes j) (streams_at old j) (streams_at new j)) (sym is.1)
        (subst (λ (o : Option Streams). ChangedAt true (notes key) o (streams_at new key)) (sym absent)
        (subst (λ (o : Option Streams). ChangedAt true (notes key) None o) (sym none_now) tt)))
    | inr apart ↦ subst (λ (b : Bool). ChangedAt b (notes k) (streams_at old k) (streams_at new k)) (sym apart.0) (still k)
  ]
