-- No message leads from a view to itself.
use Rattle.std.proofs.Common.{◌≡◌, ◌∷◌, ◌||◌, ℕ, Bool, true, false, not, List, [], Some, refl, ap}
use Rattle.std.specs.Prelude.{map}
use Rattle.std.specs.Bool.{Decides, beq}
use Rattle.std.specs.Cmp.{IsTotalOrder}
use Rattle.std.specs.List.{AllByRecursion, filter, list_any}
use Rattle.std.specs.Ordering.{eq_by_cmp, is_eq}
use Rattle.std.specs.declared.cmp.Ordering.{Ordering}
use Rattle.std.proofs.lemmas.Cmp.{tied_itself}
use Rattle.view_types.specs.declared.endpoint.EndpointRow.{EndpointRow}
use Rattle.view_types.specs.declared.message.Message.{Message}
use Rattle.view_types.specs.declared.message.Message.TheVariants as messages
use Rattle.view_types.specs.declared.server_view.ServerRow.{ServerRow}
use Rattle.view_types.specs.declared.server_view.ServerView.{ServerView}
use Rattle.view_types.specs.declared.server_view.ServerView.TheVariants.{Absent, Present}
use Rattle.view_types.specs.declared.view.View.TheVariants as views
use Rattle.view_rules.specs.AuthzOrder.{authz_key}
use Rattle.view_rules.specs.Batch.{messages_to, port_batch, whole_batch}
use Rattle.view_rules.specs.ByKey.{changed_from, gone_keys}
use Rattle.view_rules.specs.Endpoints.{pair_of}
use Rattle.view_rules.specs.Laws.{SameAuthzDecides, SameOutboundDecides, SameProfileDecides, SameRowDecides, SameServerDecides}
use Rattle.view_rules.specs.Same.{same_row}
use Rattle.view_rules.specs.SamePolicies.{same_authz, same_server_row}
use Rattle.view_rules.proofs.AuthzKeys.{authz_total}
use Rattle.view_rules.proofs.Pairs.{pairs_total}
use Rattle.batch_laws.specs.Laws.{SameViewSendsNothing}

-- ---- items that are all found

either_second : (a b : Bool) → b ≡ true → (a || b) ≡ true
either_second true b is = refl
either_second false b is = is

module _ {X Y : Type 0} (test : Y → X → Bool) where
  abbrev AreFound : List X → List Y → Type 0
  AreFound xs ys = AllByRecursion (λ y. list_any (test y) xs ≡ true) ys

  found_in_more : (x : X) (xs : List X) (ys : List Y) → AreFound xs ys → AreFound (x ∷ xs) ys
  found_in_more x xs [] all = tt
  found_in_more x xs (y ∷ ys) all = (either_second (test y x) (list_any (test y) xs) all.0, found_in_more x xs ys all.1)

  none_left : (xs : List X) (ys : List Y) → AreFound xs ys → filter (λ y. not (list_any (test y) xs)) ys ≡ []
  none_left xs [] all = refl
  none_left xs (y ∷ ys) all = rw all.0 (none_left xs ys all.1)

module _ {X K : Type 0} {R : K → K → Ordering} (o : IsTotalOrder R) (key : X → K) (same : X → X → Bool) (decides : (r s : X) → Decides (same r s) (r ≡ s)) where
  rows_found : (rows : List X) → AreFound same rows rows
  rows_found [] = tt
  rows_found (r ∷ rs) = (rw ((decides r r).1 refl) refl, found_in_more same r rs rs (rows_found rs))

  abbrev is_at : K → X → Bool
  is_at k row = eq_by_cmp R k (key row)

  keys_found : (rows : List X) → AreFound is_at rows (map key rows)
  keys_found [] = tt
  keys_found (r ∷ rs) = (rw (ap is_eq (tied_itself o (key r))) refl, found_in_more is_at r rs (map key rs) (keys_found rs))

  pub none_changed : (rows : List X) → changed_from same rows rows ≡ []
  none_changed rows = none_left same rows rows (rows_found rows)

  pub none_gone : (rows : List X) → gone_keys R key rows rows ≡ []
  none_gone rows = none_left is_at rows (map key rows) (keys_found rows)

-- ---- batches

whole_same : {X : Type 0} (same : X → X → Bool) → ((x y : X) → Decides (same x y) (x ≡ y)) → (message : X → Message) (x : X) → whole_batch same message (Some x) x ≡ []
whole_same same decides message x = rw ((decides x x).1 refl) refl

beq_same : (b : Bool) → beq b b ≡ true
beq_same true = refl
beq_same false = refl

-- nothing but the authorizations differs, as these do not either
row_itself : SameServerDecides → (row : ServerRow) → same_server_row row row ≡ true
row_itself servers_same row = (servers_same (Present row) (Present row)).1 refl

module _ (rows_same : SameRowDecides) (profiles_same : SameProfileDecides) (authz_same : SameAuthzDecides) (servers_same : SameServerDecides) (outbound_same : SameOutboundDecides) where
  rows_unsent : (size : ℕ) (exists : Bool) (rows : List EndpointRow) → messages_to size (Some (record { exists = exists; rows = rows })) exists rows ≡ []
  rows_unsent size exists [] = rw (beq_same exists) refl
  rows_unsent size exists (r ∷ rs) =
      rw (none_changed pairs_total pair_of same_row rows_same (r ∷ rs)) (rw (none_gone pairs_total pair_of same_row rows_same (r ∷ rs)) refl)

  port_unsent : (size : ℕ) (view : ServerView) → port_batch size (Some view) view ≡ []
  port_unsent size Absent = refl
  port_unsent size (Present row) =
      rw (row_itself servers_same row)
      (rw (none_changed authz_total authz_key same_authz authz_same row.authz) (rw (none_gone authz_total authz_key same_authz authz_same row.authz) refl))

  pub no_messages : SameViewSendsNothing
  no_messages (views.Endpoints view) limits = rows_unsent limits.frame_addrs view.exists view.rows
  no_messages (views.Profile view) limits = whole_same _ profiles_same messages.Profile view
  no_messages (views.Server view) limits = whole_same _ servers_same messages.Server view
  no_messages (views.Outbound view) limits = whole_same _ outbound_same messages.Outbound view
  no_messages (views.ServerRows view) limits = port_unsent limits.frame_addrs view
