-- The commands' tables of options.
use Rattle.std.proofs.Common.{◌≡◌, ℕ, ◌+◌, ◌<◌, suc, List, [], ◌∷◌, ◌++◌, length, take, get_or, slice_index_or, true, refl, ap, sym, ◌∙◌, arith}
use Rattle.std.proofs.Math.Seq.{take-suc}
use Rattle.clap.specs.Words.{App, is_simple, is_simple_and_free, with_rule}
use Rattle.command_words.specs.Apps.{app_for, option_rule, with_options}
use Rattle.command_words.specs.Arguments.{argument_text}
use Rattle.command_words.specs.declared.argument.Argument.{Argument}
use Rattle.command_words.specs.declared.command.Name.{Name}
use Rattle.command_words.specs.declared.command.Name.TheVariants as names

pub with_options_none : (app : App) → with_options app [] ≡ app
unfolding with_options
with_options_none app = refl

-- an option more at the end
pub with_options_snoc : (app : App) (xs : List Argument) (x : Argument) → with_options app (xs ++ x ∷ []) ≡ with_rule (with_options app xs) (option_rule (argument_text x))
unfolding with_options
with_options_snoc app [] x = refl
with_options_snoc app (y ∷ xs) x = with_options_snoc (with_rule app (option_rule (argument_text y))) xs x

-- the option at the next place
pub with_options_next : (app : App) (options : List Argument) (i : ℕ) (d : Argument) → i < length options → with_options app (take (i + 1) options) ≡ with_rule (with_options app (take i options)) (option_rule (argument_text (get_or options i d)))
with_options_next app options i d within =
    let next : i + 1 ≡ suc i = omega arith in
    ap (with_options app) (ap (λ (k : ℕ). take k options) next ∙ take-suc options i d within) ∙ with_options_snoc app (take i options) (get_or options i d)

pub with_options_added : (app made next : App) (options : List Argument) (i : ℕ) (d : Argument) → i < length options → made ≡ with_options app (take i options)
    → next ≡ with_rule made (option_rule (argument_text (slice_index_or options i d))) → next ≡ with_options app (take (i + 1) options)
with_options_added app made next options i d within so_far added =
    added ∙ ap (λ (a : App). with_rule a (option_rule (argument_text (slice_index_or options i d)))) so_far ∙ sym (with_options_next app options i d within)

-- clap's definitions tell of each command what it matches, and which faults it finds
pub all_are_simple : (name : Name) → is_simple (app_for name) ≡ true
unfolding app_for with_options argument_text
all_are_simple names.Replay = refl
all_are_simple names.Diagnose = refl
all_are_simple names.Fold = refl
all_are_simple names.Sample = refl
all_are_simple names.Serve = refl

pub all_are_free : (name : Name) → is_simple_and_free (app_for name) ≡ true
unfolding app_for with_options argument_text
all_are_free names.Replay = refl
all_are_free names.Diagnose = refl
all_are_free names.Fold = refl
all_are_free names.Sample = refl
all_are_free names.Serve = refl
