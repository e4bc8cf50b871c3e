-- A client is drained, or ends.
use Rattle.std.proofs.Common.{◌≡◌, ℕ, Bool, true, false, cond, eqb, List, [], ◌∷◌, ◌++◌, Option, Some, None, Ok, Err, refl, sym, ap, subst, ◌∙◌}
use Rattle.std.specs.Prelude.{Result, option_map}
use Rattle.std.specs.Option.{is_some}
use Rattle.view_types.specs.declared.view.View.{View}
use Rattle.view_rules.specs.Batch.{batch}
use Rattle.feed_history.specs.Drains.{frames_of, frames_unless, too_long}
use Rattle.feed_history.specs.Ids.{at_id, ended, in_place}
use Rattle.feed_history.proofs.Placed.{stays}
use Rattle.view_relay.specs.Accepted.{◌>>=◌, drain_call, live_client, sent_or_fault}
use Rattle.view_relay.specs.Answers.{Ends, Goes, after_called, frames_at, frames_for, next_of, next_to, sent_with}
use Rattle.view_relay.specs.ById.{id_of, put_in_place, value_at}
use Rattle.view_relay.specs.Relays.{Drains, RelayState, Served, drained, view_for}
use Rattle.view_relay.specs.declared.fault.RelayFault.{RelayFault}
use Rattle.view_relay.specs.declared.fault.RelayFault.TheVariants.{NoSuchId, Oversize}

-- ---- entries

module _ {S : Type 0} (id : ℕ) (f g : ℕ × S → List (ℕ × S)) where
  -- what stands under the id gives way to the same
  same_place : (entries : List (ℕ × S)) (entry : ℕ × S) → at_id id_of id entries ≡ Some entry → f entry ≡ g entry → in_place id_of id f entries ≡ in_place id_of id g entries
  same_place [] entry is same = refl
  same_place (e ∷ es) entry is same = by_test (same_place es entry) (eqb e.0 id) is
    where
      by_test : (at_id id_of id es ≡ Some entry → f entry ≡ g entry → in_place id_of id f es ≡ in_place id_of id g es) → (b : Bool) → cond b (Some e) (at_id id_of id es) ≡ Some entry → cond b (f e ++ es) (e ∷ in_place id_of id f es) ≡ cond b (g e ++ es) (e ∷ in_place id_of id g es)
      by_test later true is = let it : e ≡ entry = cc is in ap (λ one. one ++ es) (ap f it ∙ same ∙ ap g (sym it))
      by_test later false is = ap (λ rest. e ∷ rest) (later is same)

itself_in_place : {S : Type 0} (id : ℕ) (entries : List (ℕ × S)) → in_place id_of id (λ entry. entry ∷ []) entries ≡ entries
itself_in_place id [] = refl
itself_in_place id (e ∷ es) = by_test (itself_in_place id es) (eqb e.0 id)
  where
    by_test : in_place id_of id (λ entry. entry ∷ []) es ≡ es → (b : Bool) → cond b (e ∷ es) (e ∷ in_place id_of id (λ entry. entry ∷ []) es) ≡ e ∷ es
    by_test later true = refl
    by_test later false = ap (λ rest. e ∷ rest) later

none_there : {S : Type 0} (found : Option (ℕ × S)) → is_some (option_map (λ entry. entry.1) found) ≡ false → found ≡ None
none_there None is = refl
none_there (Some entry) is = absurd (cc is)

abbrev both_of : {A B : Type 0} → A → B → Result (Option (A × B)) RelayFault
both_of a b = Ok (Some (a, b))

pair_is : {A B : Type 0} (a c : A) (b d : B) → both_of a b ≡ both_of c d → (a ≡ c) × (b ≡ d)
pair_is {A} {B} a c b d is = let pairs : (a, b) ≡ (c, d) = cc is in (ap (λ (p : A × B). p.0) pairs, ap (λ (p : A × B). p.1) pairs)

-- ---- drains

module _ (now : RelayState) (going : now.spent ≡ false) (id : ℕ) where
  abbrev pub IsDrained : Result (List (List ℕ)) RelayFault → List (ℕ × Served) → Type 0
  IsDrained result clients = Goes now (frames_at now id) (after_called now (drain_call now id)) result (record now { clients = clients })

  -- a drain of a client that is there
  module _ (entry : ℕ × Served) (found : at_id id_of id now.clients ≡ Some entry) where
    live : live_client now id ≡ Ok entry.1
    live = rw found refl

    next_is : next_of now id ≡ next_to now entry.1 (view_for now entry.1)
    next_is = ap (λ (client : Result Served RelayFault). client >>= λ client. next_to now client (view_for now client)) live

    drained_to : (result : Result (List (List ℕ)) RelayFault) (clients : List (ℕ × Served)) → result ≡ frames_for now entry.1 → clients ≡ in_place id_of id (drained now) now.clients → IsDrained result clients
    drained_to result clients answer same = record {
      going = going;
      answer = answer ∙ sym (ap (λ (client : Result Served RelayFault). client >>= frames_for now) live);
      state = ap (λ (clients : List (ℕ × Served)). record now { clients = clients }) same ∙ sym (ap (after_called now) (ap (λ (client : Result Served RelayFault). client >>= λ client. Ok (Drains id)) live));
    }

    gives_way : (f : ℕ × Served → List (ℕ × Served)) → drained now entry ≡ f entry → in_place id_of id f now.clients ≡ in_place id_of id (drained now) now.clients
    gives_way f same = same_place id f (drained now) now.clients entry found (sym same)

    -- by the view of its stream
    none_is : (view : Option View) → view_for now entry.1 ≡ view → next_to now entry.1 view ≡ Ok None → IsDrained (Ok []) now.clients
    none_is None is none = drained_to (Ok []) now.clients (rw is refl) (sym (itself_in_place id now.clients) ∙ gives_way (λ entry. entry ∷ []) (rw is refl))
    none_is (Some view) is none = absurd (by_length (too_long now.limits.message (batch entry.1.shown view now.limits)) none)
      where
        by_length : (long : Option ℕ) → (sent_or_fault (frames_unless long (batch entry.1.shown view now.limits)) >>= sent_with entry.1 view) ≡ Ok None → ⊥
        by_length None is = cc is
        by_length (Some bytes) is = cc is

    some_is : (view : Option View) → view_for now entry.1 ≡ view → (client : Served) (frames : List (List ℕ)) → next_to now entry.1 view ≡ Ok (Some (client, frames)) → IsDrained (Ok frames) (in_place id_of id (put_in_place client) now.clients)
    some_is None is client frames some = absurd (cc some)
    some_is (Some view) is client frames some = by_length (too_long now.limits.message (batch entry.1.shown view now.limits)) refl some
      where
        by_length : (long : Option ℕ) → too_long now.limits.message (batch entry.1.shown view now.limits) ≡ long
            → (sent_or_fault (frames_unless long (batch entry.1.shown view now.limits)) >>= sent_with entry.1 view) ≡ Ok (Some (client, frames))
            → IsDrained (Ok frames) (in_place id_of id (put_in_place client) now.clients)
        by_length None short both =
            let same = pair_is (record entry.1 { shown = Some view }) client (frames_of (batch entry.1.shown view now.limits)) frames both in
            drained_to (Ok frames) (in_place id_of id (put_in_place client) now.clients)
            (ap Ok (sym same.1) ∙ rw (is, short) refl)
            (gives_way (put_in_place client) (rw (is, short) (ap (λ (client : Served). (entry.0, client) ∷ []) same.0)))
        by_length (Some bytes) long both = absurd (cc both)

    long_is : (view : Option View) → view_for now entry.1 ≡ view → (bytes : ℕ) → next_to now entry.1 view ≡ Err (Oversize bytes) → IsDrained (Err (Oversize bytes)) (in_place id_of id ended now.clients)
    long_is None is bytes fault = absurd (cc fault)
    long_is (Some view) is bytes fault = by_length (too_long now.limits.message (batch entry.1.shown view now.limits)) refl fault
      where
        by_length : (long : Option ℕ) → too_long now.limits.message (batch entry.1.shown view now.limits) ≡ long
            → (sent_or_fault (frames_unless long (batch entry.1.shown view now.limits)) >>= sent_with entry.1 view) ≡ Err (Oversize bytes)
            → IsDrained (Err (Oversize bytes)) (in_place id_of id ended now.clients)
        by_length None short fault = absurd (cc fault)
        by_length (Some n) long fault =
            let same : n ≡ bytes = cc fault in
            drained_to (Err (Oversize bytes)) (in_place id_of id ended now.clients)
            (ap (λ n. Err (Oversize n)) (sym same) ∙ rw (is, long) refl)
            (gives_way ended (rw (is, long) refl))

  -- whether there is a client or not
  abbrev Next : Type 0
  Next = Result (Option (Served × List (List ℕ))) RelayFault

  no_client : at_id id_of id now.clients ≡ None → next_of now id ≡ Err (NoSuchId id)
  no_client none = rw none refl

  pub shown_none : next_of now id ≡ Ok None → (frames : List (List ℕ)) → frames ≡ [] → IsDrained (Ok frames) now.clients
  shown_none is frames none = subst (λ (frames : List (List ℕ)). IsDrained (Ok frames) now.clients) (sym none) (by_found (at_id id_of id now.clients) refl)
    where
      by_found : (found : Option (ℕ × Served)) → at_id id_of id now.clients ≡ found → IsDrained (Ok []) now.clients
      by_found None none = absurd (let both : Err (NoSuchId id) ≡ Ok None = sym (no_client none) ∙ is in cc both)
      by_found (Some entry) found = none_is entry found (view_for now entry.1) refl (sym (next_is entry found) ∙ is)

  pub shown_some : (client : Served) (frames : List (List ℕ)) → next_of now id ≡ Ok (Some (client, frames)) → (clients : List (ℕ × Served)) → clients ≡ in_place id_of id (put_in_place client) now.clients → IsDrained (Ok frames) clients
  shown_some client frames is clients same = subst (IsDrained (Ok frames)) (sym same) (by_found (at_id id_of id now.clients) refl)
    where
      by_found : (found : Option (ℕ × Served)) → at_id id_of id now.clients ≡ found → IsDrained (Ok frames) (in_place id_of id (put_in_place client) now.clients)
      by_found None none = absurd (let both : Err (NoSuchId id) ≡ Ok (Some (client, frames)) = sym (no_client none) ∙ is in cc both)
      by_found (Some entry) found = some_is entry found (view_for now entry.1) refl client frames (sym (next_is entry found) ∙ is)

  pub was_long : (bytes : ℕ) → next_of now id ≡ Err (Oversize bytes) → (clients : List (ℕ × Served)) → clients ≡ in_place id_of id ended now.clients → IsDrained (Err (Oversize bytes)) clients
  was_long bytes is clients same = subst (IsDrained (Err (Oversize bytes))) (sym same) (by_found (at_id id_of id now.clients) refl)
    where
      by_found : (found : Option (ℕ × Served)) → at_id id_of id now.clients ≡ found → IsDrained (Err (Oversize bytes)) (in_place id_of id ended now.clients)
      by_found None none = absurd (let both : Err (NoSuchId id) ≡ Err (Oversize bytes) = sym (no_client none) ∙ is in cc both)
      by_found (Some entry) found = long_is entry found (view_for now entry.1) refl bytes (sym (next_is entry found) ∙ is)

-- ---- the end of a client

pub not_live : (old : RelayState) (id : ℕ) → is_some (value_at id old.clients) ≡ false → (clients : List (ℕ × Served)) → clients ≡ in_place id_of id ended old.clients
    → Ends id old (Err (NoSuchId id)) (record old { clients = clients })
not_live old id none clients same =
    let nothing = none_there (at_id id_of id old.clients) none in record {
      answer = rw nothing refl;
      state = ap (λ (clients : List (ℕ × Served)). record old { clients = clients }) (same ∙ stays id_of id ended old.clients nothing) ∙ rw nothing refl;
    }
