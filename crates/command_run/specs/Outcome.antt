-- The outcome of a call of the program.
use Rattle.std.specs.Prelude.{◌≡◌, ℕ, Bool, List, [], Some, ⊤}
use Rattle.std.specs.declared.option.Option.{Option}
use Rattle.mesh_base.specs.declared.sub_id.SubId.{SubId}
use Rattle.view_types.specs.declared.config.Config.{Config}
use Rattle.view_types.specs.declared.query.Method.{Method}
use Rattle.view_types.specs.declared.query.Query.{Query}
use Rattle.command_words.specs.Commands.{command_in}
use Rattle.command_words.specs.declared.command.Command.{Command}
use Rattle.command_words.specs.declared.command.Command.TheVariants.{Replay, Diagnose, Fold, Sample, Serve}
use Rattle.gen_cluster.specs.Generated.{generated}
use Rattle.line_run.specs.Run.{OnEnd, OnStop}
use Rattle.line_run.specs.declared.status.Status.{Status}
use Rattle.line_run.specs.declared.status.Status.TheVariants as statuses
use Rattle.mesh_base.specs.declared.limits.Limits.{Limits}
use Rattle.serve_config.specs.declared.ServeConfig.{ServeConfig}
use Rattle.command_run.specs.declared.top.Outcome.{Outcome}
use Rattle.command_run.specs.declared.top.Outcome.TheVariants as outcomes

-- P of the command that the words give
abbrev pub OfCommand : List (List ℕ) → (Command → Type 0) → Type 0
OfCommand words P = (command : Command) → command_in words ≡ Some command → P command

-- P of the configuration, if the words give a replay
abbrev pub OfReplay : List (List ℕ) → (Config → Type 0) → Type 0
OfReplay words P = (config : Config) → command_in words ≡ Some (Replay config) → P config

-- P of the id, the query and the configuration, if the words give a diagnosis
abbrev pub OfDiagnose : List (List ℕ) → (SubId → Query → Config → Type 0) → Type 0
OfDiagnose words P = (id : SubId) (query : Query) (config : Config) → command_in words ≡ Some (Diagnose id query config) → P id query config

-- P of the id and the method, if the words give a fold
abbrev pub OfFold : List (List ℕ) → (SubId → Method → Type 0) → Type 0
OfFold words P = (id : SubId) (method : Method) → command_in words ≡ Some (Fold id method) → P id method

-- P of the number and the configuration, if the words give a sample
abbrev pub OfSample : List (List ℕ) → (ℕ → Config → Type 0) → Type 0
OfSample words P = (n : ℕ) (config : Config) → command_in words ≡ Some (Sample n config) → P n config

-- P of the address and the configuration, if the words give a server
abbrev pub OfServe : List (List ℕ) → (List ℕ → Config → Type 0) → Type 0
OfServe words P = (address : List ℕ) (config : Config) → command_in words ≡ Some (Serve address config) → P address config

-- P of the status, if the call has ended with one
abbrev pub EndsWith : Outcome → (Status → Type 0) → Type 0
EndsWith (outcomes.Ended status) P = P status
EndsWith (outcomes.Serve server) P = ⊤

-- P of the configuration of the server, if the caller is to run one
abbrev pub ServesBy : Outcome → (ServeConfig → Type 0) → Type 0
ServesBy (outcomes.Ended status) P = ⊤
ServesBy (outcomes.Serve server) P = P server

-- the caller is to run a server with this configuration, or memory ran out
abbrev pub IsServed : ServeConfig → Outcome → Type 0
IsServed expected (outcomes.Ended status) = status ≡ statuses.Memory
IsServed expected (outcomes.Serve server) = server ≡ expected

-- the configuration of a server
abbrev pub server_of : List ℕ → Config → Limits → ServeConfig
server_of address config limits = record { address = address; config = config; limits = limits }

-- P of whether a line was refused, if all lines were read
abbrev pub AtEnd : Outcome → (Bool → Type 0) → Type 0
AtEnd (outcomes.Ended status) P = OnEnd status P
AtEnd (outcomes.Serve server) P = ⊤

-- P, if the call ended early
abbrev pub AtStop : Outcome → Type 0 → Type 0
AtStop (outcomes.Ended status) P = OnStop status P
AtStop (outcomes.Serve server) P = ⊤

-- the bytes that a command reads: the input, the lines of the generated cluster, or none
abbrev pub read_by : Command → Option (List ℕ) → Option (List ℕ)
read_by (Replay config) input = input
read_by (Diagnose id query config) input = input
read_by (Fold id method) input = input
read_by (Sample n config) input = Some (generated n)
read_by (Serve address config) input = Some []

-- the words give no command, or memory ran out
abbrev pub IsUnread : Status → Type 0
IsUnread statuses.Usage = ⊤
IsUnread statuses.Memory = ⊤
IsUnread _ = ⊥

-- P of the bytes that a command reads, if they are known
abbrev pub OfBytes : Command → Option (List ℕ) → (List ℕ → Type 0) → Type 0
OfBytes command input P = (bytes : List ℕ) → read_by command input ≡ Some bytes → P bytes
