use Rattle.std.proofs.Common.{◌++◌, map, sym, ◌∙◌}
use Rattle.std.proofs.lemmas.Result.{IfOk-weaker}
use Rattle.view_rules.specs.Batch.{in_pieces}
use Rattle.view_types.specs.declared.message.Message.TheVariants.{Add, Remove}
use Rattle.view_diff.proofs.PutBack.{changed_since, gone_since}
use Rattle.view_diff.proofs.since.to_rows.Goals as goal

pub returns : goal.returns
returns c =
    let changed = c.in_ok-found.ensures.changed ∙ sym (changed_since c.args.before.now c.args.rows.now c.requires.before c.requires.rows) in
    let gone = c.in_ok-found.ensures.gone ∙ sym (gone_since c.args.before.now c.args.rows.now c.requires.before c.requires.rows) in
    IfOk-weaker c.messages_of.result _ _ (λ messages is. is ∙ (λ i. map Add (in_pieces c.args.size (changed i)) ++ map Remove (in_pieces c.args.size (gone i)))) c.messages_of.ensures
