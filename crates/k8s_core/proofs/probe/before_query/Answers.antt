use Rattle.std.proofs.Common.{◌≡◌, ◌≤◌, None, Some, length, sym, arith, lit<, take_all}
use Rattle.std.proofs.lemmas.Str.Pattern.{split_once_first}
use Rattle.std.specs.List.{position_or_len}
use Rattle.k8s_core.specs.Probes.{is_question_mark}
use Rattle.k8s_core.proofs.probe.before_query.Goals as goal

pub returns-in-Some : goal.returns-in-Some
returns-in-Some c = (split_once_first 63 c.args.target.now (Some c.in-Some.parts) c.in-Some.ensures.cases (lit< tt)).1

pub returns-in-None : goal.returns-in-None
returns-in-None c =
    let target = c.args.target.now in
    let whole : position_or_len is_question_mark target ≡ length target = split_once_first 63 target None c.in-None.ensures.cases (lit< tt) in
    let all : length target ≤ position_or_len is_question_mark target = omega (arith, whole) in
    sym (take_all (position_or_len is_question_mark target) target all)
