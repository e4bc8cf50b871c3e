-- What clap finds of the words of a command.
use Rattle.std.proofs.Common.{◌≡◌, ◌↔◌, Bool, cond, true, false, List, [], ◌∷◌, Option, Some, None, inl, inr, refl, ap, sym, ◌∙◌, subst}
use Rattle.std.specs.Prelude.{IsSome}
use Rattle.clap.specs.Words.{App, HasKind, IsAmong, Kinds, Row, Text, fault_of, is_simple, is_simple_and_free, kind_of, matches_of}
use Rattle.clap.specs.declared.error.Error.{Error}
use Rattle.clap.specs.declared.error.kind.ErrorKind.{ErrorKind}
use Rattle.clap.specs.declared.error.kind.ErrorKind.TheVariants as kinds
use Rattle.command_words.specs.Apps.{accepts, accepts_named, app_for, are_accepted, are_none, matched, name_of}
use Rattle.command_words.specs.Commands.{command_in, command_named, command_of}
use Rattle.command_words.specs.Gives.{then}
use Rattle.command_words.specs.declared.command.Command.{Command}
use Rattle.command_words.specs.declared.command.Name.{Name}
use Rattle.command_words.specs.declared.fault.WordsFault.TheVariants as faults
use Rattle.command_words.proofs.Tables.{all_are_free, all_are_simple}

-- the words are accepted where no fault is found
pub matched_found : (app : App) (name : Name) (words : List Text) (rows : List Row) → app ≡ app_for name
    → (is_simple_and_free app ≡ true → fault_of app words ≡ [])
    → (is_simple app ≡ true → rows ≡ matches_of app words)
    → matched name words ≡ Some rows
unfolding matched accepts
matched_found app name words rows is free found =
    let none : fault_of (app_for name) words ≡ [] = subst (λ (a : App). fault_of a words ≡ []) is (free (ap is_simple_and_free is ∙ all_are_free name)) in
    let same : rows ≡ matches_of (app_for name) words = subst (λ (a : App). rows ≡ matches_of a words) is (found (ap is_simple is ∙ all_are_simple name)) in
    ap (λ (faults : Kinds). cond (are_none faults) (Some (matches_of (app_for name) words)) None) none ∙ ap (λ (r : List Row). Some r) (sym same)

among_some : (kind : ErrorKind) (faults : Kinds) → IsAmong kind faults → are_none faults ≡ false
among_some kind [] among = absurd among
among_some kind (x ∷ xs) among = refl

-- they aren't where an error has one of the kinds, and isn't that memory ran out
pub matched_refused : (app : App) (name : Name) (words : List Text) (e : Error) → app ≡ app_for name
    → (is_simple_and_free app ≡ true → HasKind (fault_of app words) e) → ((faults.Usage ≡ faults.Memory) ↔ (kind_of e ≡ kinds.OutOfMemory))
    → matched name words ≡ None
unfolding matched accepts
matched_refused app name words e is free memory =
    let has : HasKind (fault_of (app_for name) words) e = subst (λ (a : App). HasKind (fault_of a words) e) is (free (ap is_simple_and_free is ∙ all_are_free name)) in
    elim has as (λ _. matched name words ≡ None) [
      | inl out ↦ let isnt : faults.Usage ≡ faults.Memory = memory.1 out in absurd (cc)
      | inr among ↦ ap (λ (none : Bool). cond none (Some (matches_of (app_for name) words)) None) (among_some (kind_of e) (fault_of (app_for name) words) among)
    ]

-- ---- only words that are accepted are a command

by_accepted : (accepted : Bool) (rows : List Row) (f : List Row → Option Command) → IsSome (then (cond accepted (Some rows) None) f) → accepted ≡ true
unfolding then
by_accepted true rows f some = refl
by_accepted false rows f some = some

named_is_accepted : (name : Option Name) (words : List Text) → IsSome (command_named name words) → accepts_named name words ≡ true
unfolding matched
named_is_accepted None words some = some
named_is_accepted (Some name) words some = by_accepted (accepts name words) (matches_of (app_for name) words) (command_of name) some

pub command_is_accepted : (words : List Text) → IsSome (command_in words) → are_accepted words ≡ true
command_is_accepted [] some = some
command_is_accepted (first ∷ rest) some = named_is_accepted (name_of first) rest some
