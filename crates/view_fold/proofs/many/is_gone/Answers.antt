use Rattle.std.proofs.Common.{rules, ◌∙◌}
use Rattle.std.proofs.lemmas.Fn.{always_returns_same}
use Rattle.view_fold.proofs.Searched.{by_result}
use Rattle.view_fold.proofs.many.is_gone.Goals as goal

pub returns : goal.returns
returns g c = λ sorted.
    let facts = c.binary_search_by.ensures in
    let key = g.T.KeyedRow.key_of c.args.row.now in
    let by_key = facts.position (λ other. g.T.KeyedRow.cmp other key) (always_returns_same _ _ _ (λ a r h called. (search rules, search rules))) in
    c.is_ok.ensures.value ∙ by_result g.met.T.KeyedRow.total key c.args.gone.now c.binary_search_by.result sorted facts.bound by_key
