-- The default configuration.
use Rattle.std.specs.Prelude.{ℕ, ◌+◌, ◌*◌, List, [], ◌∷◌, codes}
use Rattle.net_cidr.specs.declared.ip.Ip.TheVariants.{V4}
use Rattle.net_cidr.specs.declared.net.Net.{Net}
use Rattle.view_types.specs.declared.config.Config.{Config}
use Rattle.view_types.specs.declared.policy.Policy.TheVariants.{AllUnauthenticated}

-- the IPv4 network a.b.0.0/bits
abbrev pub v4_net : ℕ → ℕ → ℕ → Net
v4_net a b bits = record { base = V4 ((a * 256 + b) * 65536); bits = bits }

-- the private networks, and the shared address space of providers
abbrev pub usual_nets : List Net
usual_nets = v4_net 10 0 8 ∷ v4_net 100 64 10 ∷ v4_net 172 16 12 ∷ v4_net 192 168 16 ∷ []

abbrev pub usual_config : Config
usual_config = record {
  cluster_domain = codes "cluster.local";
  trust_domain = codes "cluster.local";
  control_ns = codes "linkerd";
  cluster_nets = usual_nets;
  default_policy = AllUnauthenticated;
}
