-- A network that is read is round.
use Rattle.std.proofs.Common.{◌≡◌, ◌≤◌, ◌<◌, ◌*◌, ◌/◌, ◌-◌, ◌&&◌, ℕ, List, [], ◌∷◌, Bool, true, false, Option, Some, None, cond, refl, sym, ap, subst, arith, nat_le}
use Rattle.std.specs.Prelude.{◌^◌}
use Rattle.std.proofs.Math.Nat.{div-eq_of_eq-mul_left}
use Rattle.std.proofs.lemmas.Option.{none-some, cond_some}
use Rattle.std.proofs.lemmas.Nat.{pow_pos}
use Rattle.std.proofs.lemmas.Bool.Decides.{nat_tests}
use Rattle.mesh_base.specs.Numeral.{plain_up_to, number_up_to, is_numeral, leads_with_zero}
use Rattle.mesh_base.specs.Pieces.{pieces}
use Rattle.net_cidr.specs.declared.ip.Ip.{Ip}
use Rattle.net_cidr.specs.declared.ip.Ip.TheVariants.{V4, V6}
use Rattle.net_cidr.specs.declared.net.Net.{Net}
use Rattle.net_cidr.specs.Address.{ip_of}
use Rattle.net_cidr.specs.Network.{width, net_round, sized, net_of, net_of_pieces, net_of_address, net_of_length, IsRound, EachNetIsRound}

within_by : (a b : Bool) (v most n : ℕ) → cond a None (cond (b && nat_le v most) (Some v) None) ≡ Some n → n ≤ most
within_by true b v most n e = absurd (none-some _ e)
within_by false b v most n e = let h = cond_some _ v n e in grind (arith, nat_tests)

pub plain_within : (most : ℕ) (text : List ℕ) (n : ℕ) → plain_up_to most text ≡ Some n → n ≤ most
unfolding plain_up_to number_up_to
plain_within most text n e = within_by (leads_with_zero text) (is_numeral 10 text) _ most n e

pub number_within : (radix most : ℕ) (text : List ℕ) (n : ℕ) → number_up_to radix most text ≡ Some n → n ≤ most
unfolding number_up_to
number_within radix most text n e = within_by false (is_numeral radix text) _ most n e

-- a number whose last bits are 0 stays when they are set to 0
settled : (n p : ℕ) → 0 < p → n / p * p ≡ (n / p * p) / p * p
settled n p h = ap (λ q. q * p) (sym (div-eq_of_eq-mul_left {n = p} {m = n / p * p} {k = n / p} h refl))

round_is : (ip : Ip) (bits : ℕ) → bits ≤ width ip → IsRound (net_round ip bits)
round_is (V4 n) bits h = record { sized = h; round = ap (λ m. record { base = V4 m; bits = bits }) (settled n (2 ^ (32 - bits)) (pow_pos (32 - bits))) }
round_is (V6 n) bits h = record { sized = h; round = ap (λ m. record { base = V6 m; bits = bits }) (settled n (2 ^ (128 - bits)) (pow_pos (128 - bits))) }

sized_round : (ip : Ip) (o : Option ℕ) (net : Net) → ((n : ℕ) → o ≡ Some n → n ≤ width ip) → sized ip o ≡ Some net → IsRound net
sized_round ip None net within e = absurd (none-some _ e)
sized_round ip (Some bits) net within e = subst IsRound (cond_some true _ net e).1 (round_is ip bits (within bits refl))

bare_round : (o : Option Ip) (net : Net) → net_of_address o ≡ Some net → IsRound net
bare_round None net e = absurd (none-some _ e)
bare_round (Some ip) net e = subst IsRound (cond_some true _ net e).1 (round_is ip (width ip) (omega arith))

length_round : (o : Option Ip) (text : List ℕ) (net : Net) → net_of_length o text ≡ Some net → IsRound net
length_round None text net e = absurd (none-some _ e)
length_round (Some ip) text net e = sized_round ip (plain_up_to (width ip) text) net (plain_within (width ip) text) e

by_pieces : (pieces : List (List ℕ)) (net : Net) → net_of_pieces pieces ≡ Some net → IsRound net
by_pieces [] net e = absurd (none-some _ e)
by_pieces (address ∷ []) net e = bare_round (ip_of address) net e
by_pieces (address ∷ bits ∷ []) net e = length_round (ip_of address) bits net e
by_pieces (address ∷ bits ∷ more ∷ others) net e = absurd (none-some _ e)

pub each_round : EachNetIsRound
unfolding net_of
each_round text net e = by_pieces (pieces 47 text) net e
