-- Strings in the order of their bytes are those of the list.
use Rattle.std.proofs.Common.{◌≡◌, ℕ, List, [], ◌∷◌, map, refl, ap, subst}
use Rattle.std.specs.Cmp.Lexicographic.{nat_list_cmp_total, slice_cmp}
use Rattle.std.specs.List.Sorted.{IsStrictlySortedBy}
use Rattle.std.specs.Ordering.{nat_cmp}
use Rattle.std.proofs.lemmas.Map.Lookups.{exact_bytes}
use Rattle.view_rules.specs.InOrder.{in_byte_order}
use Rattle.view_rules.specs.PolicyLaws.{StringsAreInOrder}
use Rattle.view_rules.proofs.Among.{Among, among_from, contained}
use Rattle.view_rules.proofs.KeptOnce.{order_has, order_keeps, order_rises}

map_itself : (strings : List (List ℕ)) → map (λ string. string) strings ≡ strings
map_itself [] = refl
map_itself (x ∷ xs) = ap (λ ys. x ∷ ys) (map_itself xs)

pub strings_are_in_order : StringsAreInOrder
strings_are_in_order strings = record {
  rise = subst (IsStrictlySortedBy (slice_cmp nat_cmp)) (map_itself (in_byte_order strings)) (order_rises nat_list_cmp_total exact_bytes (λ s. s) strings);
  same = λ s. (
    λ h. contained strings s (order_has nat_list_cmp_total exact_bytes (λ s. s) strings s (among_from (in_byte_order strings) s h)),
    λ h. contained (in_byte_order strings) s
        (subst (λ (kept : List (List ℕ)). Among s kept) (map_itself (in_byte_order strings)) (order_keeps nat_list_cmp_total exact_bytes (λ s. s) strings s (among_from strings s h))),
  );
}
