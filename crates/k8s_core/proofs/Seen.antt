-- Adding an address to the set and to the list.
use Rattle.std.proofs.Common.{◌≡◌, ℕ, ◌==◌, ◌++◌, ◌∷◌, ◌||◌, [], List, Bool, true, false, cond, refl, sym, ap, ◌∙◌, arith}
use Rattle.std.proofs.lemmas.Bool.Decides.{nat_tests}
use Rattle.std.proofs.lemmas.Grind.{common_steps}
use Rattle.std.specs.BTreeSet.{BTreeSet, Updates}
use Rattle.std.specs.List.{list_any}
use Rattle.std.specs.Ordering.{is_eq, nat_cmp}
use Rattle.std.specs.declared.cmp.Ordering.{Ordering}
use Rattle.net_cidr.specs.Address.{ip_cmp}
use Rattle.net_cidr.specs.declared.ip.Ip.{Ip}
use Rattle.net_cidr.specs.declared.ip.Ip.TheVariants.{V4, V6}
use Rattle.k8s_core.specs.Addresses.{has, same_ip}
use Rattle.k8s_core.specs.SeenIps.{AreSeen}

same_numbers : (n m : ℕ) → is_eq (nat_cmp n m) ≡ (n == m)
same_numbers n m = grind (arith, nat_tests, common_steps)

turned : (n m : ℕ) → (n == m) ≡ (m == n)
turned n m = grind (arith, nat_tests, common_steps)

same_by_order : (ip q : Ip) → is_eq (ip_cmp ip q) ≡ same_ip ip q
same_by_order (V4 n) (V4 m) = same_numbers n m
same_by_order (V4 n) (V6 m) = refl
same_by_order (V6 n) (V4 m) = refl
same_by_order (V6 n) (V6 m) = same_numbers n m

same_turned : (ip q : Ip) → same_ip ip q ≡ same_ip q ip
same_turned (V4 n) (V4 m) = turned n m
same_turned (V4 n) (V6 m) = refl
same_turned (V6 n) (V4 m) = refl
same_turned (V6 n) (V6 m) = turned n m

at_end : (p : Ip → Bool) (ips : List Ip) (ip : Ip) → list_any p (ips ++ ip ∷ []) ≡ cond (p ip) true (list_any p ips)
at_end p [] ip = cases (p ip)
  where
    cases : (b : Bool) → (b || false) ≡ cond b true false
    cases true = refl
    cases false = refl
at_end p (x ∷ xs) ip = ap (λ r. p x || r) (at_end p xs ip) ∙ cases (p x) (p ip) (list_any p xs)
  where
    cases : (a b c : Bool) → (a || cond b true c) ≡ cond b true (a || c)
    cases true true c = refl
    cases true false c = refl
    cases false true c = refl
    cases false false c = refl

abbrev pub AsIps : (Ip → Ip → Ordering) → Type 0
AsIps cmp = (a b : Ip) → cmp a b ≡ ip_cmp a b

pub has_by : (cmp : Ip → Ip → Ordering) → AsIps cmp → (q : Ip) (ks : List Ip) → list_any (λ k. is_eq (cmp q k)) ks ≡ has ks q
has_by cmp level q [] = refl
has_by cmp level q (k ∷ ks) = rw (level q k, same_by_order q k, has_by cmp level q ks) refl

pub seen_more : (cmp : Ip → Ip → Ordering) (seen new : BTreeSet Ip) (ips : List Ip) (ip : Ip) → AsIps cmp → Updates cmp seen new ip true → AreSeen seen ips → AreSeen new (ips ++ ip ∷ [])
seen_more cmp seen new ips ip level updates are q =
    sym (has_by cmp level q new.keys) ∙ updates.0 q ∙ rw (level ip q, same_by_order ip q, same_turned ip q, has_by cmp level q seen.keys, are q) (sym (at_end (same_ip q) ips ip))
