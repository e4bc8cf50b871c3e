-- Words that are written out.
use Rattle.std.proofs.Common.{◌≡◌, [], ◌∷◌, None, Some, codes, refl}
use Rattle.clap.proofs.OnLiterals.{clap_on_literals}
use Rattle.mesh_base.specs.Numeral.{is_numeral, number_up_to}
use Rattle.view_types.specs.Defaults.{usual_config}
use Rattle.view_types.specs.declared.query.Method.TheVariants as methods
use Rattle.watch_events.specs.Queries.{method_of}
use Rattle.command_words.specs.Apps.{accepts, app_for, matched, name_of, with_options}
use Rattle.command_words.specs.Arguments.{argument_text}
use Rattle.command_words.specs.Commands.{command_in, command_of, fold_in, id_in, replay_in}
use Rattle.command_words.specs.Gives.{then}
use Rattle.command_words.specs.Written.{fold_words, repeated_words}
use Rattle.command_words.specs.Numbers.{number_within}
use Rattle.command_words.specs.Settings.{config_in}
use Rattle.command_words.specs.declared.command.Command.TheVariants as commands

pub replay_is_usual : command_in (codes "replay" ∷ []) ≡ Some (commands.Replay usual_config)
unfolding clap_on_literals name_of accepts app_for with_options argument_text matched command_of replay_in config_in then
replay_is_usual = refl

pub fold_is_asked : command_in fold_words ≡ Some (commands.Fold (record { 0 = 7 }) methods.Get)
unfolding clap_on_literals name_of accepts app_for with_options argument_text matched command_of fold_in id_in then number_within number_up_to is_numeral method_of
fold_is_asked = refl

pub repeated_is_none : command_in repeated_words ≡ None
unfolding clap_on_literals name_of accepts app_for with_options argument_text matched then
repeated_is_none = refl
