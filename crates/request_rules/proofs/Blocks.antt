-- The test of a block tells whether it holds the address.
use Rattle.std.proofs.Common.{◌≡◌, ℕ, ◌-◌, ◌/◌, ◌^◌, Bool, true, false, not, ◌&&◌, ◌||◌, refl}
use Rattle.std.specs.Bool.{Decides}
use Rattle.std.specs.List.{list_any}
use Rattle.std.proofs.lemmas.Bool.Decides.{Decides-and, Decides-by_and, Decides-eqb, Decides-not}
use Rattle.net_cidr.specs.Network.{AgreeIn, NetHolds}
use Rattle.net_cidr.specs.declared.ip.Ip.{Ip}
use Rattle.net_cidr.specs.declared.ip.Ip.TheVariants.{V4, V6}
use Rattle.net_cidr.specs.declared.net.Net.{Net}
use Rattle.request_rules.specs.Laws.{BlockHoldsDecides}
use Rattle.request_rules.specs.Networks.{agree_in, net_holds}

agree_decides : (bits : ℕ) (base ip : Ip) → Decides (agree_in bits base ip) (AgreeIn bits base ip)
agree_decides bits (V4 n) (V4 m) = Decides-eqb (n / 2 ^ (32 - bits)) (m / 2 ^ (32 - bits))
agree_decides bits (V6 n) (V6 m) = Decides-eqb (n / 2 ^ (128 - bits)) (m / 2 ^ (128 - bits))
agree_decides bits (V4 n) (V6 m) = (λ e. absurd (cc e), λ h. absurd h)
agree_decides bits (V6 n) (V4 m) = (λ e. absurd (cc e), λ h. absurd h)

pub net_decides : (ip : Ip) (net : Net) → Decides (net_holds ip net) (NetHolds net ip)
net_decides ip net = agree_decides net.bits net.base ip

neither : (a b : Bool) → not (a || b) ≡ (not a && not b)
neither true b = refl
neither false b = refl

pub block_holds_decides : BlockHoldsDecides
block_holds_decides block ip =
    let outside = Decides-by_and (λ (net : Net). not (net_holds ip net)) (λ net. ¬ NetHolds net ip) (λ nets. not (list_any (net_holds ip) nets))
    (λ net. Decides-not (net_holds ip net) (net_decides ip net)) refl (λ net nets. neither (net_holds ip net) (list_any (net_holds ip) nets)) block.except in
    Decides-and (net_holds ip block.net) (not (list_any (net_holds ip) block.except)) (net_decides ip block.net) outside
