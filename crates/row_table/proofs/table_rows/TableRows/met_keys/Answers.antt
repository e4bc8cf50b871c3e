use Rattle.std.proofs.Common.{ℕ, ◌++◌, option_to_list, sym, ◌∙◌}
use Rattle.row_table.specs.TableRows.{kept_at, key_in}
use Rattle.row_table.proofs.Gathered.{one_more}
use Rattle.row_table.proofs.table_rows.TableRows.met_keys.Goals as goal

pub loop-number-preserved : goal.loop-number-preserved
loop-number-preserved g c =
    let key = λ (n : ℕ). key_in (kept_at c.args.self.now.rows n) in
    c.in_ok-add_key.ensures
    ∙ (λ i. c.loop-number.invariant i ++ option_to_list (key_in (c.get.ensures i)))
    ∙ sym (one_more key c.as_slice-number-items.result.now c.loop-number.number-index 0 c.loop-number-test.true)
