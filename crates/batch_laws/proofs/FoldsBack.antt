-- The messages of endpoints, folded on top of those that were shown.
use Rattle.std.proofs.Common.{◌≡◌, ◌≢◌, ℕ, ◌≤◌, Bool, true, false, not, ◌||◌, ◌⊎◌, ◌==◌, List, [], ◌∷◌, length, Option, Some, None, if◌then◌else◌, inl, inr, refl, sym, ap, ◌∙◌}
use Rattle.std.specs.Bool.{beq}
use Rattle.std.specs.Cmp.{booleans_Decides}
use Rattle.std.specs.FinMap.{values}
use Rattle.std.proofs.lemmas.Bool.Decides.{eqb_tells}
use Rattle.std.proofs.lemmas.List.{nil_from_length}
use Rattle.view_rules.specs.Batch.{changed_rows, endpoints_in, gone_pairs, in_pieces, is_news, messages_to, messages_to_none, messages_to_rows, rows_before}
use Rattle.view_rules.specs.Endpoints.{no_endpoints, pair_of}
use Rattle.view_rules.specs.Fold.{IsOrderly, IsOrderlyIfShown, RowMap, folded_onto, put_rows, row_map, seen, shown_after, take_out}
use Rattle.view_rules.specs.Same.{same_row}
use Rattle.view_types.specs.declared.endpoint.EndpointRow.{EndpointRow}
use Rattle.view_types.specs.declared.endpoint.EndpointView.{EndpointView}
use Rattle.view_types.specs.declared.message.Message.TheVariants.{Add, Remove, NoEndpoints}
use Rattle.view_types.specs.declared.view.View.{View}
use Rattle.view_types.specs.declared.view.View.TheVariants.{Endpoints, Profile, Server, Outbound, ServerRows}
use Rattle.view_rules.proofs.Orderly.{none_is_orderly}
use Rattle.view_rules.proofs.RowMaps.{Pair, IsOwn, IsRising, is_there, keyed_rows, own_rows, rows_shown, shown}
use Rattle.view_rules.proofs.Pairs.{pairs_exact, pairs_total}
use Rattle.view_rules.proofs.SameRow.{row_decides}
use Rattle.batch_laws.proofs.Folding.{folds_rows}
use Rattle.batch_laws.proofs.PiecesFold.{messages_shown, told}

-- ---- one message after the other

abbrev showing : Bool → RowMap → Option View
showing exists m = Some (Endpoints (record { exists = exists; rows = values m }))

add_one : (exists : Bool) (m : RowMap) (rows : List EndpointRow) → IsOwn m → Some (shown_after (showing exists m) (Add rows)) ≡ showing true (put_rows rows m)
add_one exists m rows own = ap (λ n. showing true (put_rows rows n)) (shown m own)

remove_one : (exists : Bool) (m : RowMap) (ps : List Pair) → IsOwn m → Some (shown_after (showing exists m) (Remove ps)) ≡ showing exists (take_out ps m)
remove_one exists m ps own = ap (λ n. showing exists (take_out ps n)) (shown m own)

-- ---- whether the Service exists

told_some : (exists : Bool) (size : ℕ) (rows : List EndpointRow) → rows ≢ [] ⊎ (exists ≡ true) → told exists (in_pieces size rows) ≡ true
told_some exists size [] (inl some) = absurd (some refl)
told_some exists size [] (inr true_before) = true_before
told_some exists size (r ∷ rs) h = refl

-- a row that isn't sent was there before
sent_or_there : (old : List EndpointRow) (r : EndpointRow) (rs : List EndpointRow) → changed_rows old (r ∷ rs) ≢ [] ⊎ (old ≢ [])
sent_or_there [] r rs = inl (λ e. cc)
sent_or_there (w ∷ ws) r rs = inr (λ e. cc)

-- ---- the whole batch

rows_fold : (size : ℕ) (old : EndpointView) (r : EndpointRow) (rs : List EndpointRow) → 1 ≤ size → IsOrderly old → IsRising (r ∷ rs)
    → folded_onto (Some (Endpoints old)) (messages_to_rows size old.rows (r ∷ rs)) ≡ Some (Endpoints (record { exists = true; rows = r ∷ rs }))
rows_fold size old r rs one is rising =
    let changed = changed_rows old.rows (r ∷ rs) in
    let gone = gone_pairs old.rows (r ∷ rs) in
    let exists : told old.exists (in_pieces size changed) ≡ true = told_some old.exists size changed
    (elim (sent_or_there old.rows r rs) as (λ _. changed ≢ [] ⊎ (old.exists ≡ true)) [ inl some ↦ inl some | inr some ↦ inr (is_there old is some) ]) in
    ap (λ rows. folded_onto (Some (Endpoints (record { exists = old.exists; rows = rows }))) (messages_to_rows size old.rows (r ∷ rs))) (sym (rows_shown old.rows (keyed_rows old is)))
    ∙ messages_shown pairs_total pairs_exact pair_of showing Add Remove add_one remove_one old.exists size changed gone (row_map old.rows) one (own_rows old.rows)
    ∙ ap (λ b. showing b (take_out gone (put_rows changed (row_map old.rows)))) exists
    ∙ ap (showing true) (folds_rows pairs_total pairs_exact pair_of same_row row_decides old.rows (r ∷ rs) (keyed_rows old is) rising)
    ∙ ap (λ rows. Some (Endpoints (record { exists = true; rows = rows }))) (rows_shown (r ∷ rs) rising)

-- the first rows go on top of a view as on top of the endpoints that it shows, which are none if it is of another method
onto_seen : (old : Option View) (size : ℕ) (r : EndpointRow) (rs : List EndpointRow)
    → folded_onto old (messages_to_rows size [] (r ∷ rs)) ≡ folded_onto (Some (Endpoints (seen old))) (messages_to_rows size [] (r ∷ rs))
onto_seen old size r rs = refl

abbrev showing_rows : EndpointRow → List EndpointRow → Option View
showing_rows r rs = Some (Endpoints (record { exists = true; rows = r ∷ rs }))

onto_none : (old : Option View) → seen old ≡ no_endpoints → (size : ℕ) (r : EndpointRow) (rs : List EndpointRow) → 1 ≤ size → IsRising (r ∷ rs) → folded_onto old (messages_to_rows size [] (r ∷ rs)) ≡ showing_rows r rs
onto_none old none size r rs one rising =
    onto_seen old size r rs ∙ ap (λ v. folded_onto (Some (Endpoints v)) (messages_to_rows size [] (r ∷ rs))) none
    ∙ rows_fold size no_endpoints r rs one none_is_orderly rising

folds_to_rows : (size : ℕ) (old : Option View) (r : EndpointRow) (rs : List EndpointRow) → 1 ≤ size → IsOrderlyIfShown old → IsRising (r ∷ rs)
    → folded_onto old (messages_to_rows size (rows_before (endpoints_in old)) (r ∷ rs)) ≡ showing_rows r rs
folds_to_rows size None r rs one is rising = onto_none None refl size r rs one rising
folds_to_rows size (Some (Endpoints old)) r rs one is rising = rows_fold size old r rs one is rising
folds_to_rows size (Some (Profile old)) r rs one is rising = onto_none (Some (Profile old)) refl size r rs one rising
folds_to_rows size (Some (Server old)) r rs one is rising = onto_none (Some (Server old)) refl size r rs one rising
folds_to_rows size (Some (Outbound old)) r rs one is rising = onto_none (Some (Outbound old)) refl size r rs one rising
folds_to_rows size (Some (ServerRows old)) r rs one is rising = onto_none (Some (ServerRows old)) refl size r rs one rising

neither : (a b : Bool) → (not a || not b) ≡ false → (a ≡ true) × (b ≡ true)
neither true true e = (refl, refl)
neither true false e = cc
neither false b e = cc

empty_at : (rows : List EndpointRow) → (length rows == 0) ≡ true → rows ≡ []
empty_at rows e = elim (eqb_tells (length rows) 0) [
  | inl w ↦ nil_from_length rows w.1
  | inr w ↦ absurd (let no : true ≡ false = sym e ∙ w.0 in cc)
]

no_news : (old : EndpointView) (exists : Bool) → (not (beq old.exists exists) || not (length old.rows == 0)) ≡ false → old ≡ record { exists = exists; rows = [] }
no_news old exists e =
    let both = neither (beq old.exists exists) (length old.rows == 0) e in
    let same = (booleans_Decides old.exists exists).0 both.0 in
    let none = empty_at old.rows both.1 in
    λ i. record { exists = same i; rows = none i }

folds_to_none : (old : Option View) (exists : Bool) → folded_onto old (messages_to_none (endpoints_in old) exists) ≡ Some (Endpoints (record { exists = exists; rows = [] }))
folds_to_none (Some (Endpoints old)) exists =
    elim (is_news (Some old) exists) as (λ b. is_news (Some old) exists ≡ b → folded_onto (Some (Endpoints old)) (if b then NoEndpoints exists ∷ [] else []) ≡ Some (Endpoints (record { exists = exists; rows = [] }))) [
      | true ↦ λ t. refl
      | false ↦ λ t. ap (λ v. Some (Endpoints v)) (no_news old exists t)
    ] refl
folds_to_none _ exists = refl

pub endpoints_fold : (size : ℕ) (old : Option View) (exists : Bool) (rows : List EndpointRow) → 1 ≤ size → IsOrderlyIfShown old → IsOrderly (record { exists = exists; rows = rows })
    → folded_onto old (messages_to size (endpoints_in old) exists rows) ≡ Some (Endpoints (record { exists = exists; rows = rows }))
endpoints_fold size old exists [] one is_old is = folds_to_none old exists
endpoints_fold size old exists (r ∷ rs) one is_old is =
    folds_to_rows size old r rs one is_old (keyed_rows (record { exists = exists; rows = r ∷ rs }) is) ∙ ap (λ b. Some (Endpoints (record { exists = b; rows = r ∷ rs }))) (sym (is_there (record { exists = exists; rows = r ∷ rs }) is (λ e. cc)))
