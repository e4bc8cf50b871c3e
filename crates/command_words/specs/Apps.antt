-- The commands and their options, as definitions of clap.
use Rattle.std.specs.Prelude.{ℕ, Bool, List, [], ◌∷◌, Option, Some, None, true, false, bytes_eq, codes, if◌then◌else◌}
use Rattle.clap.specs.Words.{App, Kinds, Row, Rule, Text, fault_of, matches_of, new_app, new_rule, with_rule}
use Rattle.clap.specs.declared.builder.ArgAction.TheVariants.{Set}
use Rattle.command_words.specs.Arguments.{argument_text}
use Rattle.command_words.specs.declared.argument.Argument.{Argument}
use Rattle.command_words.specs.declared.argument.Argument.TheVariants.{Id, Method, Path, Workload, Port, Token, ClusterDomain, TrustDomain, ControlPlaneNamespace, ClusterNetworks, DefaultPolicy, Bind, Number}
use Rattle.command_words.specs.declared.command.Name.{Name}
use Rattle.command_words.specs.declared.command.Name.TheVariants as names

-- no help or version flag, and the words begin after the program's name
abbrev pub plain : Text → App
plain name = let a = new_app name in record a { top = record a.top { no_binary_name = true; disable_help_flag = true; disable_version_flag = true } }

-- `--name VALUE`
abbrev pub option_rule : Text → Rule
option_rule name = record (new_rule name) { long = Some name; action = Some Set }

-- a positional argument
abbrev pub word_rule : Text → Rule
word_rule name = record (new_rule name) { action = Some Set }

-- a command with these options added
unfoldable pub with_options : App → List Argument → App
with_options app [] = app
with_options app (argument ∷ more) = with_options (with_rule app (option_rule (argument_text argument))) more

abbrev pub settings : List Argument
settings = ClusterDomain ∷ TrustDomain ∷ ControlPlaneNamespace ∷ ClusterNetworks ∷ DefaultPolicy ∷ []

abbrev pub subscription : List Argument
subscription = Id ∷ Method ∷ []

abbrev pub query : List Argument
query = Path ∷ Workload ∷ Port ∷ Token ∷ []

-- the arguments that a command accepts
unfoldable pub app_for : Name → App
app_for names.Replay = with_options (plain (codes "replay")) settings
app_for names.Diagnose = with_options (with_options (with_options (plain (codes "diagnose")) subscription) query) settings
app_for names.Fold = with_options (plain (codes "fold")) subscription
app_for names.Sample = with_options (with_rule (plain (codes "sample")) (word_rule (argument_text Number))) settings
app_for names.Serve = with_options (with_rule (plain (codes "serve")) (option_rule (argument_text Bind))) settings

-- the command that the first word names
unfoldable pub name_of : List ℕ → Option Name
name_of word =
    if bytes_eq word (codes "replay") then Some names.Replay else
    if bytes_eq word (codes "diagnose") then Some names.Diagnose else
    if bytes_eq word (codes "fold") then Some names.Fold else
    if bytes_eq word (codes "sample") then Some names.Sample else
    if bytes_eq word (codes "serve") then Some names.Serve else None

abbrev pub are_none : Kinds → Bool
are_none [] = true
are_none (kind ∷ more) = false

-- clap finds no fault in the words after the command's name
unfoldable pub accepts : Name → List Text → Bool
accepts name words = are_none (fault_of (app_for name) words)

-- the matches of these words
unfoldable pub matched : Name → List Text → Option (List Row)
matched name words = if accepts name words then Some (matches_of (app_for name) words) else None

abbrev pub accepts_named : Option Name → List Text → Bool
accepts_named (Some name) words = accepts name words
accepts_named None words = false

-- The first word names a command, and clap accepts the other words as its arguments.
abbrev pub are_accepted : List Text → Bool
are_accepted [] = false
are_accepted (first ∷ rest) = accepts_named (name_of first) rest
