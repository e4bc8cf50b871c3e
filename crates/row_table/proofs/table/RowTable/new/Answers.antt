use Rattle.std.proofs.Common.{Option, refl, sym, subst}
use Rattle.row_table.specs.KeyNumbers.{number_in}
use Rattle.row_table.specs.TableRows.{StandsAt, row_of}
use Rattle.row_table.specs.declared.key_numbers.UsedKey.{UsedKey}
use Rattle.row_table.proofs.table.RowTable.new.Goals as goal

pub returns-clause-stands : goal.returns-clause-stands
returns-clause-stands g c = λ held key.
    subst (λ (used : Option UsedKey). StandsAt (g.F.RowRule.keeps c.args.rule) held key used (row_of c.new.result.rows (number_in used))) (sym (c.new.ensures.none key)) refl
