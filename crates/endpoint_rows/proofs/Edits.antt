-- Edits of rows that rise.
use Rattle.std.proofs.Common.{◌≡◌, ℕ, true, false, cond, get_or, set, List, Option, Some, None, refl, sym, ap, ◌∙◌}
use Rattle.std.specs.FinMap.{get, get-insert, get-remove}
use Rattle.std.specs.List.{insert, remove}
use Rattle.mesh_base.proofs.Keyed.{get_gap, get_hit, inserted, inserted_sorted, removed, removed_sorted, set_is, set_sorted}
use Rattle.mesh_base.specs.Keyed.{keyed_map}
use Rattle.mesh_base.specs.Places.{IsHit, IsGap}
use Rattle.view_rules.proofs.Pairs.{pairs_exact, pairs_total}
use Rattle.view_rules.proofs.RowMaps.{at_pair}
use Rattle.view_rules.specs.Batch.{same_pair}
use Rattle.view_rules.specs.Endpoints.{pair_cmp, pair_of}
use Rattle.view_types.specs.declared.endpoint.EndpointRow.{EndpointRow}
use Rattle.row_places.specs.Rows.{row_at}
use Rattle.endpoint_rows.specs.Kept.{Pair, Replaces, Rises}
use Rattle.endpoint_rows.proofs.Found.{row_get}

module _ (rows : List EndpointRow) (h : Rises rows) where
  pub set_replaces : (row : EndpointRow) (i : ℕ) → IsHit (λ r. pair_cmp (pair_of r) (pair_of row)) rows i → Replaces (pair_of row) (Some row) rows (set rows i row)
  set_replaces row i hit =
      let rises = set_sorted pairs_total pairs_exact pair_of (λ r. r) rows h row i hit.within hit.level in
      record {
        rise = rises;
        rows = λ q. sym (row_get (set rows i row) rises q) ∙ ap (λ m. get m q) (set_is pairs_total pairs_exact pair_of (λ r. r) rows h row i hit.within hit.level)
            ∙ get-insert pairs_total (keyed_map pair_cmp pair_of (λ r. r) rows) (pair_of row) row q ∙ ap (cond (same_pair q (pair_of row)) (Some row)) (row_get rows h q);
      }

  pub insert_replaces : (row : EndpointRow) (i : ℕ) → IsGap (λ r. pair_cmp (pair_of r) (pair_of row)) rows i → Replaces (pair_of row) (Some row) rows (insert rows i row)
  insert_replaces row i gap =
      let rises = inserted_sorted pairs_total pairs_exact pair_of (λ r. r) rows h row i gap.within gap.parts in
      record {
        rise = rises;
        rows = λ q. sym (row_get (insert rows i row) rises q) ∙ ap (λ m. get m q) (inserted pairs_total pairs_exact pair_of (λ r. r) rows h row i gap.within gap.parts)
            ∙ get-insert pairs_total (keyed_map pair_cmp pair_of (λ r. r) rows) (pair_of row) row q ∙ ap (cond (same_pair q (pair_of row)) (Some row)) (row_get rows h q);
      }

  module _ (q : Pair) (i : ℕ) where
    pub found_hit : (d : EndpointRow) → IsHit (λ r. pair_cmp (pair_of r) q) rows i → row_at rows q ≡ Some (get_or rows i d)
    found_hit d hit = sym (row_get rows h q) ∙ get_hit pairs_total pairs_exact pair_of (λ r. r) rows h q i d hit

    pub found_gap : IsGap (λ r. pair_cmp (pair_of r) q) rows i → row_at rows q ≡ None
    found_gap gap = sym (row_get rows h q) ∙ get_gap pairs_total pairs_exact pair_of (λ r. r) rows h q i gap

    pub remove_replaces : IsHit (λ r. pair_cmp (pair_of r) q) rows i → Replaces q None rows (remove rows i)
    remove_replaces hit =
        let rises = removed_sorted pairs_total pairs_exact pair_of (λ r. r) rows h q i hit.within hit.level in
        record {
          rise = rises;
          rows = λ p. sym (row_get (remove rows i) rises p) ∙ ap (λ m. get m p) (removed pairs_total pairs_exact pair_of (λ r. r) rows h q i hit.within hit.level)
              ∙ get-remove pairs_total (keyed_map pair_cmp pair_of (λ r. r) rows) q p ∙ ap (cond (same_pair p q) None) (row_get rows h p);
        }

  -- what stands at a pair already
  pub same_replaces : (q : Pair) (row : Option EndpointRow) → row_at rows q ≡ row → Replaces q row rows rows
  same_replaces q row is = record {
    rise = h;
    rows = λ p. elim (same_pair p q) as (λ b. same_pair p q ≡ b → row_at rows p ≡ cond b row (row_at rows p)) [
      | true ↦ λ t. ap (λ p. row_at rows p) (at_pair p q t) ∙ is
      | false ↦ λ t. refl
    ] refl;
  }

  pub none_replaces : (q : Pair) (i : ℕ) → IsGap (λ r. pair_cmp (pair_of r) q) rows i → Replaces q None rows rows
  none_replaces q i gap = same_replaces q None (found_gap q i gap)
