-- How many ids have each group, once an id has another.
use Rattle.std.proofs.Common.{◌≡◌, ℕ, ◌+◌, ◌<◌, Bool, true, false, cond, nat_eq, List, [], ◌∷◌, length, Some, None, refl, sym, ap, subst, ◌∙◌, arith, inl, inr, eq-eqb}
use Rattle.std.proofs.lemmas.Bool.{false≢true}
use Rattle.std.proofs.lemmas.Bool.Decides.{eqb_tells}
use Rattle.std.proofs.Math.Logic.{◌↔◌}
use Rattle.std.proofs.lemmas.Map.Entries.{sum_by-insert_entry, sum_by-remove_entry, sum_by-set_value}
use Rattle.std.specs.BTreeMap as tree
use Rattle.std.specs.BTreeMap.{BTreeMap, Updates, UpdatesBy, WritesThrough, insert_entry, is_at}
use Rattle.std.specs.Bool.{IsTrue}
use Rattle.std.specs.Cmp.{nat_cmp_total, unsigned_tied}
use Rattle.std.specs.List.{sum_by}
use Rattle.std.specs.Map.{lookup, remove_entry, set_value, values_of}
use Rattle.std.specs.Option.{IsSome, is_some}
use Rattle.std.specs.Ordering.{is_eq, nat_cmp}
use Rattle.endpoint_groups.specs.Members.{one_if}
use Rattle.endpoint_groups.proofs.Entering.{itself}
use Rattle.key_streams.specs.Members.{SetsMember, count_if, count_in, group_of}

back : (a b : ℕ) → nat_eq a b ≡ nat_eq b a
back a b = elim (eqb_tells a b) [
  | inl same ↦ same.0 ∙ sym (eq-eqb b a (sym same.1))
  | inr apart ↦ elim (eqb_tells b a) [
    | inl other ↦ absurd (apart.1 (sym other.1))
    | inr other ↦ apart.0 ∙ sym other.0
  ]
]

pub at_id : (id q : ℕ) → is_eq (nat_cmp id q) ≡ nat_eq q id
at_id id q = unsigned_tied id q ∙ back id q

abbrev weight : ℕ → ℕ → ℕ
weight n k = one_if (nat_eq n k)

-- an id that has a group counts there
pub has_some : (members : BTreeMap ℕ ℕ) (id n : ℕ) → group_of members id ≡ Some n → 0 < count_in n members
has_some members id n is =
    let less = sum_by-remove_entry (weight n) (is_at (nat_cmp id)) members.entries in
    let one : count_if n (group_of members id) ≡ 1 = ap (count_if n) is ∙ ap one_if (itself n) in
    omega (arith, less, one)

-- a map that isn't empty has an id
pub first_of : (members : BTreeMap ℕ ℕ) (empty : Bool) → (IsTrue empty ↔ (tree.btree_map_len members ≡ 0)) → empty ≡ false → (id : ℕ) × (is_some (group_of members id) ≡ true)
first_of members empty tells some = by members.entries refl
  where
    by : (es : List (ℕ × ℕ)) → members.entries ≡ es → (id : ℕ) × (is_some (group_of members id) ≡ true)
    by [] is = absurd (false≢true (sym some ∙ tells.1 (ap length is)))
    by (e ∷ es) is = (
      e.0,
      ap (λ (es : List (ℕ × ℕ)). is_some (lookup (is_at (nat_cmp e.0)) es)) is
          ∙ ap (λ b. is_some (cond b (Some e.1) (lookup (is_at (nat_cmp e.0)) es))) (at_id e.0 e.0 ∙ itself e.0),
    )

pub put_at : (id number : ℕ) (old new : BTreeMap ℕ ℕ) → tree.IsOrdered nat_cmp old → Updates nat_cmp old new id (Some number) → new.entries ≡ insert_entry nat_cmp old.entries id number → SetsMember id (Some number) old new
put_at id number old new ordered updates entries = record {
  at = λ n. updates.0 n ∙ ap (λ b. cond b (Some number) (group_of old n)) (at_id id n);
  counts = λ n.
      ap (λ (es : List (ℕ × ℕ)). sum_by (weight n) (values_of es) + count_if n (group_of old id)) entries
      ∙ sum_by-insert_entry (weight n) nat_cmp_total old.entries id number ordered;
}

pub gone_at : (id : ℕ) (old new : BTreeMap ℕ ℕ) → UpdatesBy nat_cmp (nat_cmp id) old new None → new.entries ≡ remove_entry (is_at (nat_cmp id)) old.entries → SetsMember id None old new
gone_at id old new updates entries = record {
  at = λ n. updates.0 n ∙ ap (λ b. cond b None (group_of old n)) (at_id id n);
  counts = λ n.
      ap (λ (es : List (ℕ × ℕ)). sum_by (weight n) (values_of es) + count_if n (group_of old id)) entries
      ∙ sum_by-remove_entry (weight n) (is_at (nat_cmp id)) old.entries
      ∙ omega arith;
}

pub change_at : (id number : ℕ) (old new : BTreeMap ℕ ℕ) → is_some (group_of old id) ≡ true → WritesThrough nat_cmp (nat_cmp id) old number new → SetsMember id (Some number) old new
change_at id number old new has writes =
    elim (group_of old id) as (λ o. group_of old id ≡ o → is_some o ≡ true → SetsMember id (Some number) old new) [
      | None ↦ λ is none. absurd cc
      | Some was ↦ λ is some. record {
        at = λ n. (writes.3 (subst IsSome (sym is) refl)).0 n ∙ ap (λ b. cond b (Some number) (group_of old n)) (at_id id n);
        counts = λ n.
            ap (λ (es : List (ℕ × ℕ)). sum_by (weight n) (values_of es) + count_if n (group_of old id)) writes.0
            ∙ ap (λ o. sum_by (weight n) (values_of (set_value (is_at (nat_cmp id)) old.entries number)) + count_if n o) is
            ∙ sum_by-set_value (weight n) (is_at (nat_cmp id)) old.entries was number is;
      }
    ] refl has
