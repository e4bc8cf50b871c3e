-- Streams by keys: what becomes of them all when one key's change, and what the subscriber of each id was last shown.
use Rattle.std.proofs.Common.{◌≡◌, inl, inr, ℕ, ◌&&◌, ◌||◌, Bool, true, false, cond, not, nat_eq, List, Option, Some, None, refl, sym, ap, subst, ◌∙◌}
use Rattle.std.proofs.lemmas.Bool.{cases_Bool, false≢true}
use Rattle.std.specs.Cmp.{IsTotalOrder}
use Rattle.std.specs.FinMap.{IsAntisymmetric}
use Rattle.std.specs.Option.{is_some}
use Rattle.std.specs.Ordering.{eq_by_cmp}
use Rattle.std.specs.declared.cmp.Ordering.{Ordering}
use Rattle.view_diff.specs.Earlier.{Stood, earlier_rows}
use Rattle.view_types.specs.declared.endpoint.EndpointView.{EndpointView}
use Rattle.endpoint_groups.proofs.Entering.{itself}
use Rattle.endpoint_groups.proofs.Moving.{same_number}
use Rattle.key_streams.specs.declared.streams.KeyStreams.{KeyStreams}
use Rattle.key_streams.specs.Streams.{AreRight, HasSame, SetsShown, has_stream, shown_for}
use Rattle.row_table.proofs.Keys.{is_itself, tells}
use Rattle.shared_endpoints.specs.InUse.{has_stream_at}
use Rattle.shared_endpoints.specs.Sharing.{AreRightAt, AreShared, AreTied, ChangedAt, ChangesAt, HasOneAt, LeftAt, OthersHaveOne, PutsStreams, has_at, shown_at, shown_by}
use Rattle.row_views.specs.Ids.{is_key}

module _ {Key F : Type 0} (cmp : Key → Key → Ordering) (total : IsTotalOrder cmp) (exact : IsAntisymmetric cmp) where
  -- the streams at the key that is put, and at another
  put_there : (key : Key) (value : Option (KeyStreams F)) (old new : Key → Option (KeyStreams F)) → PutsStreams cmp key value old new → new key ≡ value
  put_there key value old new puts = puts key ∙ ap (λ b. cond b value (old key)) (is_itself cmp total exact key)

  put_apart : (key : Key) (value : Option (KeyStreams F)) (old new : Key → Option (KeyStreams F)) → PutsStreams cmp key value old new → (k : Key) → eq_by_cmp cmp k key ≡ false → new k ≡ old k
  put_apart key value old new puts k apart = puts k ∙ ap (λ b. cond b value (old k)) apart

  -- ---- each key that has streams at all has one that is open

  pub others_have : (key : Key) (value : Option (KeyStreams F)) (old new : Key → Option (KeyStreams F)) → PutsStreams cmp key value old new → ((k : Key) → HasOneAt (old k)) → OthersHaveOne cmp key new
  others_have key value old new puts each k apart = subst (λ (o : Option (KeyStreams F)). HasOneAt o) (sym (put_apart key value old new puts k apart)) (each k)

  pub all_have : (key : Key) (value : Option (KeyStreams F)) (old new : Key → Option (KeyStreams F)) → PutsStreams cmp key value old new → HasOneAt value → OthersHaveOne cmp key old → (k : Key) → HasOneAt (new k)
  all_have key value old new puts here others k = elim (tells cmp total exact k key) [
    | inl same ↦
        subst (λ (j : Key). HasOneAt (new j)) (sym same.1)
        (subst (λ (o : Option (KeyStreams F)). HasOneAt o) (sym (put_there key value old new puts)) here)
    | inr apart ↦ subst (λ (o : Option (KeyStreams F)). HasOneAt o) (sym (put_apart key value old new puts k apart.0)) (others k apart.0)
  ]

  pub changed_have : (some : Key → Bool) (notes : Key → List Stood) (old new : Key → Option (KeyStreams F)) → ChangesAt cmp some notes old new → ((k : Key) → HasOneAt (old k)) → (k : Key) → HasOneAt (new k)
  changed_have some notes old new changes each k = by (some k) (notes k) (old k) (new k) (changes k) (each k)
    where
      by : (b : Bool) (before : List Stood) (o p : Option (KeyStreams F)) → ChangedAt b before o p → HasOneAt o → HasOneAt p
      by false before o p is has = subst (λ (o : Option (KeyStreams F)). HasOneAt o) (sym is) has
      by true before None None is has = tt
      by true before None (Some p) is has = absurd is
      by true before (Some o) None is has = absurd is
      by true before (Some o) (Some p) is has = (has.0, is.ids has.0 ∙ has.1)

  -- ---- who has a stream

  module _ (streams : Key → Option (KeyStreams F)) (key_of : ℕ → Option Key) (tied : AreTied cmp streams key_of) where
    pub has_none : (id : ℕ) → key_of id ≡ None → (key : Key) → has_at (streams key) id ≡ false
    has_none id is key = tied key id ∙ ap (is_key cmp key) is

  -- ---- what is kept for each key when one key's streams change

  module _ (encode : EndpointView → Option EndpointView → Option F) (row : Key → EndpointView) where
    right_put : (key : Key) (value : Option (KeyStreams F)) (old new : Key → Option (KeyStreams F)) → PutsStreams cmp key value old new → AreRightAt (encode (row key)) (row key) value
        → ((k : Key) → AreRightAt (encode (row k)) (row k) (old k)) → (k : Key) → AreRightAt (encode (row k)) (row k) (new k)
    right_put key value old new puts here right k = elim (tells cmp total exact k key) [
      | inl same ↦
          subst (λ (j : Key). AreRightAt (encode (row j)) (row j) (new j)) (sym same.1)
          (subst (λ (o : Option (KeyStreams F)). AreRightAt (encode (row key)) (row key) o) (sym (put_there key value old new puts)) here)
      | inr apart ↦ subst (λ (o : Option (KeyStreams F)). AreRightAt (encode (row k)) (row k) o) (sym (put_apart key value old new puts k apart.0)) (right k)
    ]

    tied_put : (key : Key) (value : Option (KeyStreams F)) (old new : Key → Option (KeyStreams F)) (key_of next : ℕ → Option Key) → PutsStreams cmp key value old new
        → ((n : ℕ) → has_at value n ≡ is_key cmp key (next n)) → ((k : Key) (n : ℕ) → eq_by_cmp cmp k key ≡ false → has_at (old k) n ≡ is_key cmp k (next n)) → AreTied cmp new next
    tied_put key value old new key_of next puts here elsewhere k n = elim (tells cmp total exact k key) [
      | inl same ↦
          subst (λ (j : Key). has_at (new j) n ≡ is_key cmp j (next n)) (sym same.1)
          (ap (λ o. has_at o n) (put_there key value old new puts) ∙ here n)
      | inr apart ↦ ap (λ o. has_at o n) (put_apart key value old new puts k apart.0) ∙ elsewhere k n apart.0
    ]

    -- what one id was shown, where its key's streams are put
    shown_put : (key : Key) (value : Option (KeyStreams F)) (old new : Key → Option (KeyStreams F)) → PutsStreams cmp key value old new → (n : ℕ) (k : Key) (shown : Option EndpointView)
        → (k ≡ key → shown_at value n (row key) ≡ shown) → (eq_by_cmp cmp k key ≡ false → shown_at (old k) n (row k) ≡ shown) → shown_at (new k) n (row k) ≡ shown
    shown_put key value old new puts n k shown here elsewhere = elim (tells cmp total exact k key) [
      | inl same ↦
          ap (λ (j : Key). shown_at (new j) n (row j)) same.1
          ∙ ap (λ o. shown_at o n (row key)) (put_there key value old new puts) ∙ here same.1
      | inr apart ↦ ap (λ o. shown_at o n (row k)) (put_apart key value old new puts k apart.0) ∙ elsewhere apart.0
    ]

    -- ---- a key gets streams, none of which is ids

    module _ (key : Key) (fresh : KeyStreams F) (old new : Key → Option (KeyStreams F)) (key_of : ℕ → Option Key) (puts : PutsStreams cmp key (Some fresh) old new) (absent : old key ≡ None)
        (none : (id : ℕ) → has_stream fresh id ≡ false) (all_right : AreRight (encode (row key)) (row key) fresh) (shared : AreShared cmp encode row old key_of) where
      pub enter_shared : AreShared cmp encode row new key_of
      enter_shared = record {
        tied = tied_put key (Some fresh) old new key_of key_of puts
            (λ n. none n ∙ sym (ap (λ o. has_at o n) absent) ∙ shared.tied key n)
            (λ k n apart. shared.tied k n);
        right = right_put key (Some fresh) old new puts all_right shared.right;
      }

      pub enter_shows : (n : ℕ) → shown_by new row n (key_of n) ≡ shown_by old row n (key_of n)
      enter_shows n = by (key_of n) refl
        where
          by : (o : Option Key) → key_of n ≡ o → shown_by new row n o ≡ shown_by old row n o
          by None is = refl
          by (Some k) is =
              shown_put key (Some fresh) old new puts n k (shown_at (old k) n (row k))
              (λ same. absurd (false≢true (sym (ap (λ o. has_at o n) (ap old same ∙ absent)) ∙ has_stream_at cmp total exact old key_of shared.tied n k is)))
              (λ apart. refl)

    -- ---- an id gets a stream of a key

    module _ (id : ℕ) (key : Key) (streams joined : KeyStreams F) (old new : Key → Option (KeyStreams F)) (key_of next : ℕ → Option Key) (puts : PutsStreams cmp key (Some joined) old new) (there : old key ≡ Some streams)
        (free : key_of id ≡ None) (sets : (n : ℕ) → next n ≡ cond (nat_eq n id) (Some key) (key_of n)) (shared : AreShared cmp encode row old key_of)
        (ids : (n : ℕ) → has_stream joined n ≡ (nat_eq n id || has_stream streams n)) where
      at_id : next id ≡ Some key
      at_id = sets id ∙ ap (λ b. cond b (Some key) (key_of id)) (itself id)

      apart_id : (n : ℕ) → nat_eq n id ≡ false → next n ≡ key_of n
      apart_id n apart = sets n ∙ ap (λ b. cond b (Some key) (key_of n)) apart

      join_here : (n : ℕ) → has_stream joined n ≡ is_key cmp key (next n)
      join_here n = elim (cases_Bool (nat_eq n id)) [
        | inl t ↦
            ids n ∙ ap (λ b. b || has_stream streams n) t
            ∙ sym (ap (λ (m : ℕ). is_key cmp key (next m)) (same_number n id t) ∙ ap (is_key cmp key) at_id ∙ is_itself cmp total exact key)
        | inr f ↦
            ids n ∙ ap (λ b. b || has_stream streams n) f
            ∙ sym (ap (λ o. has_at o n) there) ∙ shared.tied key n ∙ ap (is_key cmp key) (sym (apart_id n f))
      ]

      join_elsewhere : (k : Key) (n : ℕ) → eq_by_cmp cmp k key ≡ false → has_at (old k) n ≡ is_key cmp k (next n)
      join_elsewhere k n apart = elim (cases_Bool (nat_eq n id)) [
        | inl t ↦
            ap (λ (m : ℕ). has_at (old k) m) (same_number n id t) ∙ has_none old key_of shared.tied id free k
            ∙ sym (ap (λ (m : ℕ). is_key cmp k (next m)) (same_number n id t) ∙ ap (is_key cmp k) at_id ∙ apart)
        | inr f ↦ shared.tied k n ∙ ap (is_key cmp k) (sym (apart_id n f))
      ]

      pub join_shared : AreRight (encode (row key)) (row key) joined → AreShared cmp encode row new next
      join_shared here = record {
        tied = tied_put key (Some joined) old new key_of next puts join_here join_elsewhere;
        right = right_put key (Some joined) old new puts here shared.right;
      }

      pub join_shows : SetsShown (row key) id None streams joined → (n : ℕ) → shown_by new row n (next n) ≡ cond (nat_eq n id) None (shown_by old row n (key_of n))
      join_shows shown n = elim (cases_Bool (nat_eq n id)) [
        | inl t ↦
            ap (λ (m : ℕ). shown_by new row m (next m)) (same_number n id t) ∙ ap (shown_by new row id) at_id
            ∙ ap (λ o. shown_at o id (row key)) (put_there key (Some joined) old new puts)
            ∙ shown id ∙ ap (λ b. cond b None (shown_for streams id (row key))) (itself id)
            ∙ sym (ap (λ b. cond b None (shown_by old row n (key_of n))) t)
        | inr f ↦ ap (shown_by new row n) (apart_id n f) ∙ other n f (key_of n) ∙ sym (ap (λ b. cond b None (shown_by old row n (key_of n))) f)
      ]
        where
          other : (n : ℕ) → nat_eq n id ≡ false → (o : Option Key) → shown_by new row n o ≡ shown_by old row n o
          other n f None = refl
          other n f (Some k) =
              shown_put key (Some joined) old new puts n k (shown_at (old k) n (row k))
              (λ same. shown n ∙ ap (λ b. cond b None (shown_for streams n (row key))) f
              ∙ sym (ap (λ (j : Key). shown_at (old j) n (row j)) same ∙ ap (λ o. shown_at o n (row key)) there))
              (λ apart. refl)

    -- ---- the stream of an id is closed

    module _ (id : ℕ) (key : Key) (value : Option (KeyStreams F)) (old new : Key → Option (KeyStreams F)) (key_of next : ℕ → Option Key) (puts : PutsStreams cmp key value old new)
        (is : key_of id ≡ Some key) (sets : (n : ℕ) → next n ≡ cond (nat_eq n id) None (key_of n)) (shared : AreShared cmp encode row old key_of) (left : LeftAt id (old key) value) where
      gone : next id ≡ None
      gone = sets id ∙ ap (λ b. cond b None (key_of id)) (itself id)

      stays : (n : ℕ) → nat_eq n id ≡ false → next n ≡ key_of n
      stays n apart = sets n ∙ ap (λ b. cond b None (key_of n)) apart

      leave_here : (n : ℕ) → has_at value n ≡ is_key cmp key (next n)
      leave_here n = elim (cases_Bool (nat_eq n id)) [
        | inl t ↦
            left.ids n ∙ ap (λ b. not b && has_at (old key) n) t
            ∙ sym (ap (λ (m : ℕ). is_key cmp key (next m)) (same_number n id t) ∙ ap (is_key cmp key) gone)
        | inr f ↦
            left.ids n ∙ ap (λ b. not b && has_at (old key) n) f
            ∙ shared.tied key n ∙ ap (is_key cmp key) (sym (stays n f))
      ]

      leave_elsewhere : (k : Key) (n : ℕ) → eq_by_cmp cmp k key ≡ false → has_at (old k) n ≡ is_key cmp k (next n)
      leave_elsewhere k n apart = elim (cases_Bool (nat_eq n id)) [
        | inl t ↦
            ap (λ (m : ℕ). has_at (old k) m) (same_number n id t) ∙ shared.tied k id ∙ ap (is_key cmp k) is ∙ apart
            ∙ sym (ap (λ (m : ℕ). is_key cmp k (next m)) (same_number n id t) ∙ ap (is_key cmp k) gone)
        | inr f ↦ shared.tied k n ∙ ap (is_key cmp k) (sym (stays n f))
      ]

      pub leave_shared : AreShared cmp encode row new next
      leave_shared = record {
        tied = tied_put key value old new key_of next puts leave_here leave_elsewhere;
        right = right_put key value old new puts (left.right (encode (row key)) (row key) (shared.right key)) shared.right;
      }

      pub leave_shows : (n : ℕ) → shown_by new row n (next n) ≡ cond (nat_eq n id) None (shown_by old row n (key_of n))
      leave_shows n = elim (cases_Bool (nat_eq n id)) [
        | inl t ↦
            ap (λ (m : ℕ). shown_by new row m (next m)) (same_number n id t) ∙ ap (shown_by new row id) gone
            ∙ sym (ap (λ b. cond b None (shown_by old row n (key_of n))) t)
        | inr f ↦ ap (shown_by new row n) (stays n f) ∙ other n f (key_of n) refl ∙ sym (ap (λ b. cond b None (shown_by old row n (key_of n))) f)
      ]
        where
          other : (n : ℕ) → nat_eq n id ≡ false → (o : Option Key) → key_of n ≡ o → shown_by new row n o ≡ shown_by old row n o
          other n f None at = refl
          other n f (Some k) at =
              shown_put key value old new puts n k (shown_at (old k) n (row k))
              (λ same.
              let had : has_at (old key) n ≡ true = has_stream_at cmp total exact old key_of shared.tied n key (at ∙ ap Some same) in
              let has : has_at value n ≡ true = left.ids n ∙ ap (λ b. not b && has_at (old key) n) f ∙ had in
              left.shown (row key) n has ∙ sym (ap (λ (j : Key). shown_at (old j) n (row j)) same))
              (λ apart. refl)

    -- ---- the subscribers of a key's streams are shown something

    module _ (key : Key) (streams drained : KeyStreams F) (old new : Key → Option (KeyStreams F)) (key_of : ℕ → Option Key) (puts : PutsStreams cmp key (Some drained) old new) (there : old key ≡ Some streams)
        (ids : HasSame streams drained) where
      pub drain_shared : AreShared cmp encode row old key_of → AreRight (encode (row key)) (row key) drained → AreShared cmp encode row new key_of
      drain_shared shared here = record {
        tied = tied_put key (Some drained) old new key_of key_of puts
            (λ n. ids n ∙ sym (ap (λ o. has_at o n) there) ∙ shared.tied key n)
            (λ k n apart. shared.tied k n);
        right = right_put key (Some drained) old new puts here shared.right;
      }

      pub drain_shows : (id : ℕ) → key_of id ≡ Some key → SetsShown (row key) id (Some (row key)) streams drained
          → (n : ℕ) → shown_by new row n (key_of n) ≡ cond (nat_eq n id) (Some (row key)) (shown_by old row n (key_of n))
      drain_shows id is shown n = elim (cases_Bool (nat_eq n id)) [
        | inl t ↦
            ap (λ (m : ℕ). shown_by new row m (key_of m)) (same_number n id t) ∙ ap (shown_by new row id) is
            ∙ ap (λ o. shown_at o id (row key)) (put_there key (Some drained) old new puts)
            ∙ shown id ∙ ap (λ b. cond b (Some (row key)) (shown_for streams id (row key))) (itself id)
            ∙ sym (ap (λ b. cond b (Some (row key)) (shown_by old row n (key_of n))) t)
        | inr f ↦ other n f (key_of n) ∙ sym (ap (λ b. cond b (Some (row key)) (shown_by old row n (key_of n))) f)
      ]
        where
          other : (n : ℕ) → nat_eq n id ≡ false → (o : Option Key) → shown_by new row n o ≡ shown_by old row n o
          other n f None = refl
          other n f (Some k) =
              shown_put key (Some drained) old new puts n k (shown_at (old k) n (row k))
              (λ same. shown n ∙ ap (λ b. cond b (Some (row key)) (shown_for streams n (row key))) f
              ∙ sym (ap (λ (j : Key). shown_at (old j) n (row j)) same ∙ ap (λ o. shown_at o n (row key)) there))
              (λ apart. refl)

  -- ---- the rows of some keys change

  module _ (encode : EndpointView → Option EndpointView → Option F) (was row : Key → EndpointView) (some : Key → Bool) (notes : Key → List Stood) (old new : Key → Option (KeyStreams F)) (key_of : ℕ → Option Key)
      (changes : ChangesAt cmp some notes old new) (stay : (k : Key) → some k ≡ false → is_some (old k) ≡ true → row k ≡ was k) (shared : AreShared cmp encode was old key_of) where
    same_there : (k : Key) (n : ℕ) (b : Bool) (before : List Stood) (o p : Option (KeyStreams F)) → ChangedAt b before o p → has_at p n ≡ has_at o n
    same_there k n false before o p is = ap (λ o. has_at o n) is
    same_there k n true before None None is = refl
    same_there k n true before None (Some p) is = absurd is
    same_there k n true before (Some o) None is = absurd is
    same_there k n true before (Some o) (Some p) is = is.ids n

    right_there : (k : Key) (b : Bool) (before : List Stood) (o p : Option (KeyStreams F)) → ChangedAt b before o p → (b ≡ false → is_some o ≡ true → row k ≡ was k)
        → AreRightAt (encode (was k)) (was k) o → AreRightAt (encode (row k)) (row k) p
    right_there k false before None p is same right = subst (λ (p : Option (KeyStreams F)). AreRightAt (encode (row k)) (row k) p) (sym is) tt
    right_there k false before (Some o) p is same right =
        subst (λ (p : Option (KeyStreams F)). AreRightAt (encode (row k)) (row k) p) (sym is)
        (subst (λ (view : EndpointView). AreRight (encode view) view o) (sym (same refl refl)) right)
    right_there k true before None None is same right = tt
    right_there k true before None (Some p) is same right = absurd is
    right_there k true before (Some o) None is same right = absurd is
    right_there k true before (Some o) (Some p) is same right = is.right (encode (row k)) (row k)

    pub change_shared : AreShared cmp encode row new key_of
    change_shared = record {
      tied = λ k n. same_there k n (some k) (notes k) (old k) (new k) (changes k) ∙ shared.tied k n;
      right = λ k. right_there k (some k) (notes k) (old k) (new k) (changes k) (stay k) (shared.right k);
    }

    shown_there : (k : Key) (n : ℕ) (b : Bool) (before : List Stood) (o p : Option (KeyStreams F)) → ChangedAt b before o p → (b ≡ false → is_some o ≡ true → row k ≡ was k)
        → (b ≡ true → is_some o ≡ true → earlier_rows before (row k).rows ≡ (was k).rows) → shown_at p n (row k) ≡ shown_at o n (was k)
    shown_there k n false before None p is same back = ap (λ p. shown_at p n (row k)) is
    shown_there k n false before (Some o) p is same back = ap (λ p. shown_at p n (row k)) is ∙ ap (shown_for o n) (same refl refl)
    shown_there k n true before None None is same back = refl
    shown_there k n true before None (Some p) is same back = absurd is
    shown_there k n true before (Some o) None is same back = absurd is
    shown_there k n true before (Some o) (Some p) is same back = is.shown (row k) (was k) (back refl refl) n

    pub change_shows : ((k : Key) → some k ≡ true → is_some (old k) ≡ true → earlier_rows (notes k) (row k).rows ≡ (was k).rows) → (n : ℕ) (o : Option Key) → shown_by new row n o ≡ shown_by old was n o
    change_shows back n None = refl
    change_shows back n (Some k) = shown_there k n (some k) (notes k) (old k) (new k) (changes k) (stay k) (back k)

    pub change_present : (k : Key) → is_some (new k) ≡ is_some (old k)
    change_present k = by (some k) (notes k) (old k) (new k) (changes k)
      where
        by : (b : Bool) (before : List Stood) (o p : Option (KeyStreams F)) → ChangedAt b before o p → is_some p ≡ is_some o
        by false before o p is = ap is_some is
        by true before None None is = refl
        by true before None (Some p) is = absurd is
        by true before (Some o) None is = absurd is
        by true before (Some o) (Some p) is = refl
