-- The rows of slices and the keys at pairs agree.
use Rattle.std.proofs.Common.{◌≡◌, cond, not, ◌&&◌, ◌||◌, List, [], ◌∷◌, Some, None, sym, ap, subst, ◌∙◌}
use Rattle.std.specs.BTreeMap.{IsOrdered}
use Rattle.std.specs.List.{slice_get}
use Rattle.std.specs.Map.{lookup}
use Rattle.std.specs.Option.{is_some}
use Rattle.std.specs.Ordering.{is_eq}
use Rattle.key_lists.specs.Keys as keys
use Rattle.key_lists.specs.Keys.{has_key, is_key, key_at, keys_at, listed}
use Rattle.mesh_base.specs.KeyOrder.{key_cmp}
use Rattle.mesh_base.specs.declared.key.ObjKey.{ObjKey}
use Rattle.view_rules.specs.Batch.{has_pair}
use Rattle.view_rules.specs.Endpoints.{pair_cmp, pair_of}
use Rattle.view_types.specs.declared.endpoint.EndpointRow.{EndpointRow}
use Rattle.row_places.specs.Rows.{row_at}
use Rattle.endpoint_rows.specs.Kept.{Agree, Pair, all_rows, rows_given, rows_of}
use Rattle.endpoint_rows.specs.declared.slices.Slices.{Slices}
use Rattle.endpoint_rows.proofs.ByKey.{all_is_least, gives}
use Rattle.endpoint_rows.proofs.Found.{has_is}
use Rattle.endpoint_rows.proofs.KeysAt.{put_keys, taken_keys}
use Rattle.endpoint_rows.proofs.LeastKey.{IsLeast, first_key, no_key, one_least}

-- ---- none

pub none_agree : (s : Slices) → s.by_slice.entries ≡ [] → s.by_pair.entries ≡ [] → IsOrdered key_cmp s.by_slice → Agree s
none_agree s no_slice no_pair ordered = record {
  ordered = ordered;
  keys = λ p k. ap (λ es. has_key k (listed (lookup (λ j. is_eq (pair_cmp p j)) es))) no_pair
      ∙ sym (ap (λ es. has_pair (rows_given (lookup (λ j. is_eq (key_cmp k j)) es)) p) no_slice);
}

-- ---- one slice taken out, or put

module _ (s new : Slices) (agree : Agree s) (ordered : IsOrdered key_cmp new.by_slice) (key : ObjKey) where
  pub taken_agree : ((k : ObjKey) → rows_of new.by_slice k ≡ cond (is_key k key) [] (rows_of s.by_slice k))
      → ((p : Pair) (k : ObjKey) → key_at pair_cmp new.by_pair p k ≡ (not (has_pair (rows_of s.by_slice key) p && is_key k key) && key_at pair_cmp s.by_pair p k)) → Agree new
  taken_agree changed gone = record {
    ordered = ordered;
    keys = taken_keys pair_cmp pair_of (rows_of s.by_slice) (rows_of new.by_slice) (key_at pair_cmp s.by_pair) (key_at pair_cmp new.by_pair) agree.keys key changed gone;
  }

  pub put_agree : (rows : List EndpointRow) → rows_of s.by_slice key ≡ [] → ((k : ObjKey) → rows_of new.by_slice k ≡ cond (is_key k key) rows (rows_of s.by_slice k))
      → ((p : Pair) (k : ObjKey) → key_at pair_cmp new.by_pair p k ≡ ((has_pair rows p && is_key k key) || key_at pair_cmp s.by_pair p k)) → Agree new
  put_agree rows empty changed there = record {
    ordered = ordered;
    keys = put_keys pair_cmp pair_of (rows_of s.by_slice) (rows_of new.by_slice) (key_at pair_cmp s.by_pair) (key_at pair_cmp new.by_pair) agree.keys key rows empty changed there;
  }

-- ---- the first row at a pair

module _ (s : Slices) (agree : Agree s) (q : Pair) where
  giving : (k : ObjKey) → has_key k (keys_at pair_cmp s.by_pair q) ≡ is_some (gives s.by_slice q k)
  giving k = agree.keys q k ∙ has_is q (rows_of s.by_slice k)

  least_in : (ks : List ObjKey) (key : ObjKey) → keys.Rises ks → ((k : ObjKey) → has_key k ks ≡ is_some (gives s.by_slice q k)) → Some key ≡ slice_get ks 0 → IsLeast (gives s.by_slice q) (gives s.by_slice q key)
  least_in [] key rises has first = absurd (cc first)
  least_in (k ∷ ks) key rises has first = let is : key ≡ k = cc first in subst (λ k. IsLeast (gives s.by_slice q) (gives s.by_slice q k)) (sym is) (first_key (gives s.by_slice q) k ks rises has)

  none_in : (ks : List ObjKey) → ((k : ObjKey) → has_key k ks ≡ is_some (gives s.by_slice q k)) → None ≡ slice_get ks 0 → IsLeast (gives s.by_slice q) None
  none_in [] has first = no_key (gives s.by_slice q) has
  none_in (k ∷ ks) has first = absurd (cc first)

  pub first_given : (key : ObjKey) → keys.Rises (keys_at pair_cmp s.by_pair q) → Some key ≡ slice_get (keys_at pair_cmp s.by_pair q) 0 → row_at (rows_of s.by_slice key) q ≡ row_at (all_rows s.by_slice) q
  first_given key rises first =
      one_least (gives s.by_slice q) _ _ (least_in (keys_at pair_cmp s.by_pair q) key rises giving first) (all_is_least s.by_slice agree.ordered q)

  pub none_first : None ≡ slice_get (keys_at pair_cmp s.by_pair q) 0 → None ≡ row_at (all_rows s.by_slice) q
  none_first first = one_least (gives s.by_slice q) None _ (none_in (keys_at pair_cmp s.by_pair q) giving first) (all_is_least s.by_slice agree.ordered q)
