-- The test whether a network contains an address. A law says that it is true exactly if a block of networks contains the address.
use Rattle.std.specs.Prelude.{◌&&◌, ◌-◌, ◌/◌, ◌^◌, ◌==◌, ℕ, Bool, false, not}
use Rattle.std.specs.List.{list_any}
use Rattle.net_cidr.specs.declared.block.Block.{Block}
use Rattle.net_cidr.specs.declared.ip.Ip.{Ip}
use Rattle.net_cidr.specs.declared.ip.Ip.TheVariants.{V4, V6}
use Rattle.net_cidr.specs.declared.net.Net.{Net}

abbrev pub agree_in : ℕ → Ip → Ip → Bool
agree_in bits (V4 n) (V4 m) = n / 2 ^ (32 - bits) == m / 2 ^ (32 - bits)
agree_in bits (V6 n) (V6 m) = n / 2 ^ (128 - bits) == m / 2 ^ (128 - bits)
agree_in bits _ _ = false

abbrev pub net_holds : Ip → Net → Bool
net_holds ip net = agree_in net.bits net.base ip

-- the network of the block contains the address, and no exception does
abbrev pub block_holds : Ip → Block → Bool
block_holds ip block = net_holds ip block.net && not (list_any (net_holds ip) block.except)
