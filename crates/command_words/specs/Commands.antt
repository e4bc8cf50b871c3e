-- The command that the words give, from clap's matches.
use Rattle.std.specs.Prelude.{ℕ, List, [], ◌∷◌, Option, Some, None}
use Rattle.clap.specs.Words.{Row}
use Rattle.mesh_base.specs.declared.sub_id.SubId.{SubId}
use Rattle.watch_events.specs.Queries.{method_of}
use Rattle.command_words.specs.Apps.{matched, name_of}
use Rattle.command_words.specs.Arguments.{text_at}
use Rattle.command_words.specs.Diagnosed.{query_in}
use Rattle.command_words.specs.Gives.{◌>>=◌, needed}
use Rattle.command_words.specs.Numbers.{number_within}
use Rattle.command_words.specs.Settings.{config_in}
use Rattle.command_words.specs.Sockets.{socket_of}
use Rattle.command_words.specs.declared.argument.Argument.TheVariants as arguments
use Rattle.command_words.specs.declared.command.Command.{Command}
use Rattle.command_words.specs.declared.command.Command.TheVariants as commands
use Rattle.command_words.specs.declared.command.Name.{Name}
use Rattle.command_words.specs.declared.command.Name.TheVariants as names

unfoldable pub id_in : List Row → Option SubId
id_in rows = do
  id ← needed (number_within 0 4294967295) (text_at arguments.Id rows)
  Some (record { 0 = id })

unfoldable pub replay_in : List Row → Option Command
replay_in rows = do
  config ← config_in rows
  Some (commands.Replay config)

unfoldable pub diagnose_in : List Row → Option Command
diagnose_in rows = do
  id ← id_in rows
  method ← needed method_of (text_at arguments.Method rows)
  config ← config_in rows
  query ← query_in config rows method
  Some (commands.Diagnose id query config)

unfoldable pub fold_in : List Row → Option Command
fold_in rows = do
  id ← id_in rows
  method ← needed method_of (text_at arguments.Method rows)
  Some (commands.Fold id method)

unfoldable pub sample_in : List Row → Option Command
sample_in rows = do
  n ← needed (number_within 0 1000) (text_at arguments.Number rows)
  config ← config_in rows
  Some (commands.Sample n config)

unfoldable pub serve_in : List Row → Option Command
serve_in rows = do
  address ← needed socket_of (text_at arguments.Bind rows)
  config ← config_in rows
  Some (commands.Serve address config)

unfoldable pub command_of : Name → List Row → Option Command
command_of names.Replay rows = replay_in rows
command_of names.Diagnose rows = diagnose_in rows
command_of names.Fold rows = fold_in rows
command_of names.Sample rows = sample_in rows
command_of names.Serve rows = serve_in rows

abbrev pub command_named : Option Name → List (List ℕ) → Option Command
command_named (Some name) words = matched name words >>= command_of name
command_named None words = None

-- the command that the first word names, if clap accepts the other words and all values that the command needs can be read from their
-- matches
abbrev pub command_in : List (List ℕ) → Option Command
command_in [] = None
command_in (first ∷ rest) = command_named (name_of first) rest
