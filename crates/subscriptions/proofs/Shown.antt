-- What stands in a map by ids once a subscriber was shown a view.
use Rattle.std.proofs.Common.{◌≡◌, ℕ, true, false, cond, nat_eq, List, [], ◌∷◌, Option, Some, None, refl, sym, ap, subst, ◌∙◌, inl, inr}
use Rattle.std.specs.Prelude.{option_map}
use Rattle.std.proofs.lemmas.Bool.Decides.{eqb_tells}
use Rattle.std.specs.BTreeMap as tree
use Rattle.std.specs.BTreeMap.{BTreeMap}
use Rattle.std.specs.Cmp.{unsigned_tied}
use Rattle.std.specs.Map.{lookup, values_of}
use Rattle.std.specs.Ordering.{is_eq, nat_cmp}
use Rattle.view_types.specs.declared.view.View.{View}
use Rattle.feed_history.specs.Ids.{in_place}
use Rattle.feed_history.proofs.Placed.{stays}
use Rattle.subscriptions.specs.ById.{AreByIds, ShowsAt, ShowsOne}
use Rattle.subscriptions.specs.Live.{LiveSubscription, id_of, shown_in_place, showing, sub_at}
use Rattle.subscriptions.proofs.ById.{found, puts, replaced, replaced_by, tied_ids}

-- it has the id under which it stands
has_id : (id : ℕ) (entries : List (ℕ × LiveSubscription)) (sub : LiveSubscription) → AreByIds entries → lookup (λ k. is_eq (nat_cmp id k)) entries ≡ Some sub → id_of sub ≡ id
has_id id [] sub by is = absurd (cc is)
has_id id (e ∷ es) sub by is = elim (is_eq (nat_cmp id e.0)) as (λ b. is_eq (nat_cmp id e.0) ≡ b → cond b (Some e.1) (lookup (λ k. is_eq (nat_cmp id k)) es) ≡ Some sub → id_of sub ≡ id) [
  | true ↦ λ here same. let it : e.1 ≡ sub = cc same in ap id_of (sym it) ∙ by.0.0 ∙ sym (tied_ids id e.0 (sym (unsigned_tied id e.0) ∙ here))
  | false ↦ λ here rest. has_id id es sub by.1 rest
] refl is

nothing_at : (q id : ℕ) (subs : List LiveSubscription) → sub_at id subs ≡ None → sub_at q subs ≡ cond (nat_eq q id) None (sub_at q subs)
nothing_at q id subs none = elim (eqb_tells q id) [
  | inl same ↦ rw same.0 (ap (λ n. sub_at n subs) same.1 ∙ none)
  | inr apart ↦ rw apart.0 refl
]

pub record AreShown (id : ℕ) (view : View) (old new : List (ℕ × LiveSubscription)) : Type 0 where
  pub by : AreByIds new
  pub placed : values_of new ≡ in_place id_of id (shown_in_place view) (values_of old)
  pub at : (q : ℕ) → sub_at q (values_of new) ≡ cond (nat_eq q id) (option_map (showing view) (sub_at id (values_of old))) (sub_at q (values_of old))

module _ (id : ℕ) (view : View) (old new : BTreeMap ℕ LiveSubscription) (by : AreByIds old.entries) where
  by_found : (there : Option LiveSubscription) → tree.get nat_cmp old id ≡ there → ShowsOne id view old new there → AreShown id view old.entries new.entries
  by_found None is shows =
      let none : sub_at id (values_of old.entries) ≡ None = sym (found id_of id old.entries by) ∙ is in
      record {
        by = subst AreByIds (sym shows) by;
        placed = ap values_of shows ∙ sym (stays id_of id (shown_in_place view) (values_of old.entries) none);
        at = λ q. ap (λ es. sub_at q (values_of es)) shows ∙ nothing_at q id (values_of old.entries) none
            ∙ ap (λ one. cond (nat_eq q id) (option_map (showing view) one) (sub_at q (values_of old.entries))) (sym none);
      }
  by_found (Some sub) is shows =
      let some : sub_at id (values_of old.entries) ≡ Some sub = sym (found id_of id old.entries by) ∙ is in
      let kept : AreByIds new.entries = subst AreByIds (sym shows.0) (replaced_by id_of id old.entries (showing view sub) by (has_id id old.entries sub by is)) in
      record {
        by = kept;
        placed = ap values_of shows.0 ∙ replaced id_of id old.entries (showing view) (showing view sub) by (λ s there. let it : s ≡ sub = cc (sym there ∙ is) in ap (showing view) it);
        at = λ q. puts id_of id (Some (showing view sub)) old.entries new.entries by kept shows.1.0 q
            ∙ ap (λ one. cond (nat_eq q id) (option_map (showing view) one) (sub_at q (values_of old.entries))) (sym some);
      }

  pub are_shown : ShowsAt id view old new → AreShown id view old.entries new.entries
  are_shown shows = by_found (tree.get nat_cmp old id) refl shows
