-- The tests of networks tell what they hold.
use Rattle.std.proofs.Common.{◌≡◌, ◌↔◌, Bool}
use Rattle.std.specs.Prelude.{IsTrue}
use Rattle.std.proofs.lemmas.Bool.Decides.{same_from_decides}
use Rattle.net_cidr.specs.Network.{BlockHolds, NetHolds}
use Rattle.net_cidr.specs.declared.block.Block.{Block}
use Rattle.net_cidr.specs.declared.ip.Ip.{Ip}
use Rattle.net_cidr.specs.declared.net.Net.{Net}
use Rattle.request_rules.specs.Laws.{BlockHoldsDecides}
use Rattle.request_rules.specs.Networks.{block_holds, net_holds}
use Rattle.request_rules.proofs.Blocks.{net_decides}

-- what the call `Net::holds` answers
pub net_holds_is : (answer : Bool) (net : Net) (ip : Ip) → IsTrue answer ↔ NetHolds net ip → answer ≡ net_holds ip net
net_holds_is answer net ip tells = same_from_decides answer (net_holds ip net) tells (net_decides ip net)

-- what the call `Block::holds` answers
pub block_holds_is : BlockHoldsDecides → (answer : Bool) (block : Block) (ip : Ip) → IsTrue answer ↔ BlockHolds block ip → answer ≡ block_holds ip block
block_holds_is decides answer block ip tells = same_from_decides answer (block_holds ip block) tells (decides block ip)
