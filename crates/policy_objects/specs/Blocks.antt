-- Networks with exceptions.
use Rattle.std.specs.Prelude.{◌==◌, List, [], ◌∷◌, Result, Ok, length, if◌then◌else◌}
use Rattle.net_cidr.specs.declared.block.Block.{Block}
use Rattle.net_cidr.specs.declared.ip.Ip.{Ip}
use Rattle.net_cidr.specs.declared.ip.Ip.TheVariants.{V4, V6}
use Rattle.k8s_meta.specs.Lists.{each}
use Rattle.k8s_meta.specs.Scalars.{net}
use Rattle.k8s_meta.specs.Spots.{Spot, ◌·◌, ◌>>=◌}
use Rattle.k8s_meta.specs.Words.{object, required}
use Rattle.k8s_meta.specs.declared.fault.ReadFault.{ReadFault}
use Rattle.k8s_meta.specs.declared.key.Key.TheVariants as keys

unfoldable pub block_at : Spot → Result Block ReadFault
block_at b = do
  b ← object b
  whole ← required net (b · keys.Cidr)
  except ← each net (b · keys.Except)
  Ok (record { net = whole; except = except })

-- all addresses of a family
abbrev pub family_block : Ip → Block
family_block first = record { net = record { base = first; bits = 0 }; except = [] }

-- 0.0.0.0/0 and ::/0
abbrev pub all_blocks : List Block
all_blocks = family_block (V4 0) ∷ family_block (V6 0) ∷ []

-- all addresses if no network is named
unfoldable pub blocks_or_all : List Block → List Block
blocks_or_all blocks = if length blocks == 0 then all_blocks else blocks
