-- An address that is read fits its family, and so does the base of a network.
use Rattle.std.proofs.Common.{◌≡◌, ◌≤◌, ◌<◌, ◌+◌, ◌*◌, ◌-◌, ◌^◌, ◌==◌, ℕ, suc, zero, List, [], ◌∷◌, ◌++◌, Bool, true, false, Option, Some, None, cond, refl, ap, ◌∙◌, subst, arith, length, length-append, replicate, nat_le}
use Rattle.std.specs.List.{AllByRecursion}
use Rattle.std.proofs.Math.Nat.{div-mul-le_self}
use Rattle.std.proofs.lemmas.Option.{none-some}
use Rattle.std.proofs.lemmas.List.{length-replicate}
use Rattle.std.proofs.lemmas.Bool.Decides.{nat_tests}
use Rattle.mesh_base.specs.Numeral.{plain_up_to, number_up_to}
use Rattle.mesh_base.specs.Pieces.{pieces}
use Rattle.net_cidr.specs.declared.ip.Ip.{Ip}
use Rattle.net_cidr.specs.declared.ip.Ip.TheVariants.{V4, V6}
use Rattle.net_cidr.specs.declared.net.Net.{Net}
use Rattle.net_cidr.specs.Address.{either_of, eight, filled, four_bytes, group_of, groups_of, halves, ip_of, last_groups, number_after, put, side_of, two_groups, v4_of, v4_of_pieces, v6_of, v6_of_halves}
use Rattle.net_cidr.specs.Network.{net_of, net_of_address, net_of_length, net_of_pieces, net_round, sized, width}
use Rattle.net_cidr.specs.Texts.{FitsIp}
use Rattle.net_cidr.proofs.GroupSteps.{grown}
use Rattle.net_cidr.proofs.Rounds.{number_within, plain_within}

abbrev some : {A : Type 0} → A → Option A
some x = Some x

same : {A : Type 0} (x y : A) → some x ≡ some y → x ≡ y
same x y e = cc

-- ---- four bytes

abbrev IsWithin : ℕ → Option ℕ → Type 0
IsWithin most None = Unit {0}
IsWithin most (Some n) = n ≤ most

within : (most : ℕ) (o : Option ℕ) → ((n : ℕ) → o ≡ Some n → n ≤ most) → IsWithin most o
within most None each = tt
within most (Some n) each = each n refl

byte : (text : List ℕ) → IsWithin 255 (plain_up_to 255 text)
byte text = within 255 (plain_up_to 255 text) (plain_within 255 text)

four_fit : (a b c d : Option ℕ) (n : ℕ) → IsWithin 255 a → IsWithin 255 b → IsWithin 255 c → IsWithin 255 d → four_bytes a b c d ≡ Some n → n < 2 ^ 32
four_fit None b c d n i j k l e = absurd (none-some n e)
four_fit (Some a) None c d n i j k l e = absurd (none-some n e)
four_fit (Some a) (Some b) None d n i j k l e = absurd (none-some n e)
four_fit (Some a) (Some b) (Some c) None n i j k l e = absurd (none-some n e)
four_fit (Some a) (Some b) (Some c) (Some d) n i j k l e = let is : ((a * 256 + b) * 256 + c) * 256 + d ≡ n = same _ n e in omega (arith, is)

pieces_fit : (ps : List (List ℕ)) (n : ℕ) → v4_of_pieces ps ≡ Some n → n < 2 ^ 32
pieces_fit [] n e = absurd (none-some n e)
pieces_fit (a ∷ []) n e = absurd (none-some n e)
pieces_fit (a ∷ b ∷ []) n e = absurd (none-some n e)
pieces_fit (a ∷ b ∷ c ∷ []) n e = absurd (none-some n e)
pieces_fit (a ∷ b ∷ c ∷ d ∷ []) n e = four_fit (plain_up_to 255 a) (plain_up_to 255 b) (plain_up_to 255 c) (plain_up_to 255 d) n (byte a) (byte b) (byte c) (byte d) e
pieces_fit (a ∷ b ∷ c ∷ d ∷ f ∷ fs) n e = absurd (none-some n e)

v4_fits : (text : List ℕ) (n : ℕ) → v4_of text ≡ Some n → n < 2 ^ 32
unfolding v4_of
v4_fits text n e = pieces_fit (pieces 46 text) n e

-- ---- groups

abbrev AreGroups : List ℕ → Type 0
AreGroups gs = AllByRecursion (λ (g : ℕ). g < 65536) gs

groups-append : (gs hs : List ℕ) → AreGroups gs → AreGroups hs → AreGroups (gs ++ hs)
groups-append [] hs all others = others
groups-append (g ∷ gs) hs (here, all) others = (here, groups-append gs hs all others)

zeros : (k : ℕ) → AreGroups (replicate k 0)
zeros zero = tt
zeros (suc k) = (omega arith, zeros k)

group_fits : (text : List ℕ) (g : ℕ) → group_of text ≡ Some g → g < 65536
unfolding group_of
group_fits text g e = cases (nat_le (length text) 4) e
  where
    cases : (b : Bool) → cond b (number_up_to 16 65535 text) None ≡ Some g → g < 65536
    cases true f = let h = number_within 16 65535 text g f in omega (arith, h)
    cases false f = absurd (none-some g f)

two_fit : (o : Option ℕ) (gs : List ℕ) → ((n : ℕ) → o ≡ Some n → n < 2 ^ 32) → two_groups o ≡ Some gs → AreGroups gs
two_fit None gs each e = absurd (none-some gs e)
two_fit (Some n) gs each e = let h = each n refl in subst AreGroups (same _ gs e) (omega (arith, h), (omega arith, tt))

last_fit : (at_end : Bool) (text : List ℕ) (o : Option ℕ) (gs : List ℕ) → ((g : ℕ) → o ≡ Some g → g < 65536) → last_groups at_end text o ≡ Some gs → AreGroups gs
last_fit at_end text (Some g) gs each e = subst AreGroups (same (g ∷ []) gs e) (each g refl, tt)
last_fit true text None gs each e = two_fit (v4_of text) gs (v4_fits text) e
last_fit false text None gs each e = absurd (none-some gs e)

put_fit : (o : Option ℕ) (p : Option (List ℕ)) (gs : List ℕ) → ((g : ℕ) → o ≡ Some g → g < 65536) → ((hs : List ℕ) → p ≡ Some hs → AreGroups hs) → put o p ≡ Some gs → AreGroups gs
put_fit None p gs each all e = absurd (none-some gs e)
put_fit (Some g) None gs each all e = absurd (none-some gs e)
put_fit (Some g) (Some hs) gs each all e = subst AreGroups (same (g ∷ hs) gs e) (each g refl, all hs refl)

groups_fit : (at_end : Bool) (texts : List (List ℕ)) (gs : List ℕ) → groups_of at_end texts ≡ Some gs → AreGroups gs
groups_fit at_end [] gs e = subst AreGroups (same [] gs e) tt
groups_fit at_end (text ∷ []) gs e = last_fit at_end text (group_of text) gs (group_fits text) e
groups_fit at_end (text ∷ next ∷ more) gs e = put_fit (group_of text) (groups_of at_end (next ∷ more)) gs (group_fits text) (groups_fit at_end (next ∷ more)) e

side_fit : (at_end : Bool) (text : List ℕ) (gs : List ℕ) → side_of at_end text ≡ Some gs → AreGroups gs
side_fit at_end [] gs e = subst AreGroups (same [] gs e) tt
side_fit at_end (c ∷ cs) gs e = groups_fit at_end (pieces 58 (c ∷ cs)) gs e

number_fits : (n k : ℕ) (gs : List ℕ) → n < 65536 ^ k → AreGroups gs → number_after n gs < 65536 ^ (k + length gs)
number_fits n k [] h all = subst (λ i. n < 65536 ^ i) (omega arith) h
number_fits n k (g ∷ gs) h (here, all) =
    let rest = number_fits (n * 65536 + g) (k + 1) gs (grown n g k h here) all in
    let is : k + 1 + length gs ≡ k + suc (length gs) = omega arith in
    subst (λ i. number_after (n * 65536 + g) gs < 65536 ^ i) is rest

of_eight : (gs : List ℕ) → length gs ≡ 8 → AreGroups gs → number_after 0 gs < 2 ^ 128
of_eight gs e all = let h = number_fits 0 0 gs (omega arith) all in let is : 0 + length gs ≡ 8 = omega (arith, e) in subst (λ i. number_after 0 gs < 65536 ^ i) is h

eight_fits : (o : Option (List ℕ)) (n : ℕ) → ((gs : List ℕ) → o ≡ Some gs → AreGroups gs) → eight o ≡ Some n → n < 2 ^ 128
eight_fits None n all e = absurd (none-some n e)
eight_fits (Some gs) n all e = cases (length gs == 8) refl e
  where
    cases : (b : Bool) → (length gs == 8) ≡ b → cond b (Some (number_after 0 gs)) None ≡ Some n → n < 2 ^ 128
    cases true is f = subst (λ m. m < 2 ^ 128) (same (number_after 0 gs) n f) (of_eight gs (grind (arith, nat_tests)) (all gs refl))
    cases false is f = absurd (none-some n f)

abbrev filled_up_to : List ℕ → List ℕ → List ℕ
filled_up_to ls rs = ls ++ (replicate (8 - length ls - length rs) 0 ++ rs)

filled_fits : (o p : Option (List ℕ)) (n : ℕ) → ((gs : List ℕ) → o ≡ Some gs → AreGroups gs) → ((gs : List ℕ) → p ≡ Some gs → AreGroups gs) → filled o p ≡ Some n → n < 2 ^ 128
filled_fits None p n left right e = absurd (none-some n e)
filled_fits (Some ls) None n left right e = absurd (none-some n e)
filled_fits (Some ls) (Some rs) n left right e = cases (nat_le (length ls + length rs) 7) refl e
  where
    long : length ls + length rs ≤ 7 → length (filled_up_to ls rs) ≡ 8
    long le = length-append ls _ ∙ ap (λ k. length ls + k) (length-append (replicate (8 - length ls - length rs) 0) rs ∙ ap (λ k. k + length rs) (length-replicate (8 - length ls - length rs) 0)) ∙ omega arith

    cases : (b : Bool) → nat_le (length ls + length rs) 7 ≡ b → cond b (Some (number_after 0 (filled_up_to ls rs))) None ≡ Some n → n < 2 ^ 128
    cases true is f = subst (λ m. m < 2 ^ 128) (same (number_after 0 (filled_up_to ls rs)) n f) (of_eight (filled_up_to ls rs) (long (grind (arith, nat_tests)))
        (groups-append ls _ (left ls refl) (groups-append (replicate (8 - length ls - length rs) 0) rs (zeros (8 - length ls - length rs)) (right rs refl))))
    cases false is f = absurd (none-some n f)

halves_fit : (text : List ℕ) (o : Option (List ℕ × List ℕ)) (n : ℕ) → v6_of_halves text o ≡ Some n → n < 2 ^ 128
halves_fit text (Some (left, right)) n e = filled_fits (side_of false left) (side_of true right) n (side_fit false left) (side_fit true right) e
halves_fit text None n e = eight_fits (groups_of true (pieces 58 text)) n (groups_fit true (pieces 58 text)) e

v6_fits : (text : List ℕ) (n : ℕ) → v6_of text ≡ Some n → n < 2 ^ 128
unfolding v6_of
v6_fits text n e = halves_fit text (halves text) n e

-- ---- addresses and networks

either_fits : (o p : Option ℕ) (ip : Ip) → ((n : ℕ) → o ≡ Some n → n < 2 ^ 32) → ((n : ℕ) → p ≡ Some n → n < 2 ^ 128) → either_of o p ≡ Some ip → FitsIp ip
either_fits (Some n) p ip four six e = subst FitsIp (same (V4 n) ip e) (four n refl)
either_fits None (Some n) ip four six e = subst FitsIp (same (V6 n) ip e) (six n refl)
either_fits None None ip four six e = absurd (none-some ip e)

pub each_fits : (text : List ℕ) (ip : Ip) → ip_of text ≡ Some ip → FitsIp ip
unfolding ip_of
each_fits text ip e = either_fits (v4_of text) (v6_of text) ip (v4_fits text) (v6_fits text) e

base_fits : (ip : Ip) (bits : ℕ) → FitsIp ip → FitsIp (net_round ip bits).base
base_fits (V4 n) bits fits = let less = div-mul-le_self n (2 ^ (32 - bits)) in omega (arith, less)
base_fits (V6 n) bits fits = let less = div-mul-le_self n (2 ^ (128 - bits)) in omega (arith, less)

sized_fits : (ip : Ip) (o : Option ℕ) (net : Net) → FitsIp ip → sized ip o ≡ Some net → FitsIp net.base
sized_fits ip None net fits e = absurd (none-some net e)
sized_fits ip (Some bits) net fits e = subst (λ (n : Net). FitsIp n.base) (same _ net e) (base_fits ip bits fits)

address_fits : (o : Option Ip) (net : Net) → ((ip : Ip) → o ≡ Some ip → FitsIp ip) → net_of_address o ≡ Some net → FitsIp net.base
address_fits None net each e = absurd (none-some net e)
address_fits (Some ip) net each e = subst (λ (n : Net). FitsIp n.base) (same _ net e) (base_fits ip (width ip) (each ip refl))

length_fits : (o : Option Ip) (text : List ℕ) (net : Net) → ((ip : Ip) → o ≡ Some ip → FitsIp ip) → net_of_length o text ≡ Some net → FitsIp net.base
length_fits None text net each e = absurd (none-some net e)
length_fits (Some ip) text net each e = sized_fits ip (plain_up_to (width ip) text) net (each ip refl) e

by_pieces : (ps : List (List ℕ)) (net : Net) → net_of_pieces ps ≡ Some net → FitsIp net.base
by_pieces [] net e = absurd (none-some net e)
by_pieces (address ∷ []) net e = address_fits (ip_of address) net (each_fits address) e
by_pieces (address ∷ bits ∷ []) net e = length_fits (ip_of address) bits net (each_fits address) e
by_pieces (address ∷ bits ∷ more ∷ others) net e = absurd (none-some net e)

pub each_base_fits : (text : List ℕ) (net : Net) → net_of text ≡ Some net → FitsIp net.base
unfolding net_of
each_base_fits text net e = by_pieces (pieces 47 text) net e
