-- Addresses that were read fit their families, and networks are round.
use Rattle.net_cidr.specs.Address.{ip_of}
use Rattle.net_cidr.specs.Network.{IsRound, net_of}
use Rattle.net_cidr.specs.Texts.{FitsIp}
use Rattle.net_cidr.specs.declared.net.Net.{Net}
use Rattle.net_cidr.proofs.Fits.{each_base_fits, each_fits}
use Rattle.net_cidr.proofs.Rounds.{each_round}
use Rattle.k8s_meta.specs.Given.{GivesOnly}
use Rattle.k8s_meta.specs.Scalars.{ip, net}
use Rattle.k8s_meta.proofs.Given.{after, valid_value}

pub ip_gives : GivesOnly FitsIp ip
unfolding ip
ip_gives s = after FitsIp _ _ (λ t _ n e. each_fits t n (valid_value _ _ (ip_of t) n e))

pub net_gives : GivesOnly IsRound net
unfolding net
net_gives s = after IsRound _ _ (λ t _ n e. each_round t n (valid_value _ _ (net_of t) n e))

pub base_gives : GivesOnly (λ (n : Net). FitsIp n.base) net
unfolding net
base_gives s = after (λ (n : Net). FitsIp n.base) _ _ (λ t _ n e. each_base_fits t n (valid_value _ _ (net_of t) n e))
