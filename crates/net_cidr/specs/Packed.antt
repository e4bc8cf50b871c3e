-- An address as parts that are aligned to eight bytes.
use Rattle.std.specs.Prelude.{◌≡◌, ◌+◌, ◌*◌, ◌/◌, ◌%◌, ◌^◌, ◌<◌, refl}
use Rattle.std.proofs.Common.{ap₂}
use Rattle.std.proofs.lemmas.Nat.{div-mul-add, mod-mul-add}
use Rattle.net_cidr.specs.declared.ip.Ip.{Ip}
use Rattle.net_cidr.specs.declared.ip.Ip.TheVariants.{V4, V6}
use Rattle.net_cidr.specs.declared.packed_ip.Parts.{Parts}
use Rattle.net_cidr.specs.declared.packed_ip.Parts.TheVariants.{Whole, Halves}

-- the address of the parts
abbrev pub joined : Parts → Ip
joined (Whole n) = V4 n
joined (Halves high low) = V6 (high * 2 ^ 64 + low)

-- the parts of the address
abbrev pub parted : Ip → Parts
parted (V4 n) = Whole n
parted (V6 n) = Halves (n / 2 ^ 64) (n % 2 ^ 64)

-- the lower half has 64 bits
abbrev pub AreParts : Parts → Type 0
AreParts (Whole n) = Unit {0}
AreParts (Halves high low) = low < 2 ^ 64

pub parted_again : (parts : Parts) → AreParts parts → parted (joined parts) ≡ parts
parted_again (Whole n) _ = refl
parted_again (Halves high low) below = ap₂ Halves (div-mul-add high (2 ^ 64) low below) (mod-mul-add high (2 ^ 64) low below)
