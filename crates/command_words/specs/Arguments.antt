-- The names of arguments, and their values in the matches.
use Rattle.std.specs.Prelude.{ℕ, List, Option, codes}
use Rattle.clap.specs.Words.{Row, first_of, found_of, rows_of}
use Rattle.clap.specs.declared.parser.matches.ArgMatches.{ArgMatches}
use Rattle.command_words.specs.declared.argument.Argument.{Argument}
use Rattle.command_words.specs.declared.argument.Argument.TheVariants.{Id, Method, Path, Workload, Port, Token, ClusterDomain, TrustDomain, ControlPlaneNamespace, ClusterNetworks, DefaultPolicy, Bind, Number}

unfoldable pub argument_text : Argument → List ℕ
argument_text Id = codes "id"
argument_text Method = codes "method"
argument_text Path = codes "path"
argument_text Workload = codes "workload"
argument_text Port = codes "port"
argument_text Token = codes "token"
argument_text ClusterDomain = codes "cluster-domain"
argument_text TrustDomain = codes "trust-domain"
argument_text ControlPlaneNamespace = codes "control-plane-namespace"
argument_text ClusterNetworks = codes "cluster-networks"
argument_text DefaultPolicy = codes "default-policy"
argument_text Bind = codes "bind"
argument_text Number = codes "n"

-- the rows of the matches
abbrev pub rows_in : ArgMatches → List Row
rows_in m = rows_of (found_of m)

-- the value that is given for an argument
abbrev pub text_at : Argument → List Row → Option (List ℕ)
text_at argument rows = first_of (argument_text argument) rows
