use Rattle.clap.specs.Words.{app_of}
use Rattle.command_words.proofs.Matched.{matched_found, matched_refused}
use Rattle.command_words.proofs.parse.parse.Goals as goal

pub returns-in_err-try_get_matches_from-clause-refused : goal.returns-in_err-try_get_matches_from-clause-refused
returns-in_err-try_get_matches_from-clause-refused c = λ usage.
    let gives = rw usage at c.from_residual-in_err-try_get_matches_from.ensures in
    matched_refused (app_of c.in_ok-command.command) c.args.name _ c.in_err-try_get_matches_from.field-0.0 c.in_ok-command.ensures c.in_err-try_get_matches_from.ensures.kinds gives.1

pub returns-clause-found : goal.returns-clause-found
returns-clause-found c =
    let found = c.in_ok-try_get_matches_from in
    matched_found (app_of c.in_ok-command.command) c.args.name _ _ c.in_ok-command.ensures found.ensures.kinds (λ simple. (found.ensures.matches simple).0)
