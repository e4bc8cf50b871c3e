-- The configuration that the words give.
use Rattle.std.specs.Prelude.{ℕ, List, [], ◌∷◌, Option, Some, None, if◌then◌else◌}
use Rattle.clap.specs.Words.{Row}
use Rattle.k8s_meta.specs.Scalars.{is_name}
use Rattle.mesh_base.specs.Pieces.{pieces}
use Rattle.mesh_text.specs.PolicyWords.{policy_of}
use Rattle.net_cidr.specs.Network.{net_of}
use Rattle.net_cidr.specs.declared.net.Net.{Net}
use Rattle.view_types.specs.Defaults.{usual_config}
use Rattle.view_types.specs.declared.config.Config.{Config}
use Rattle.command_words.specs.Arguments.{text_at}
use Rattle.command_words.specs.Gives.{◌>>=◌, defaulted}
use Rattle.command_words.specs.declared.argument.Argument.TheVariants as arguments

abbrev pub named : List ℕ → Option (List ℕ)
named text = if is_name text then Some text else None

abbrev pub put : Option Net → Option (List Net) → Option (List Net)
put (Some net) (Some nets) = Some (net ∷ nets)
put _ _ = None

abbrev pub nets_of_pieces : List (List ℕ) → Option (List Net)
nets_of_pieces [] = Some []
nets_of_pieces (piece ∷ more) = put (net_of piece) (nets_of_pieces more)

-- the networks of a list separated by commas
unfoldable pub nets_of : List ℕ → Option (List Net)
nets_of text = nets_of_pieces (pieces 44 text)

-- the default configuration, with the settings that are given
unfoldable pub config_in : List Row → Option Config
config_in rows = do
  cluster_domain ← defaulted usual_config.cluster_domain named (text_at arguments.ClusterDomain rows)
  trust_domain ← defaulted usual_config.trust_domain named (text_at arguments.TrustDomain rows)
  control_ns ← defaulted usual_config.control_ns named (text_at arguments.ControlPlaneNamespace rows)
  cluster_nets ← defaulted usual_config.cluster_nets nets_of (text_at arguments.ClusterNetworks rows)
  default_policy ← defaulted usual_config.default_policy policy_of (text_at arguments.DefaultPolicy rows)
  Some (record {
    cluster_domain = cluster_domain;
    trust_domain = trust_domain;
    control_ns = control_ns;
    cluster_nets = cluster_nets;
    default_policy = default_policy;
  })
