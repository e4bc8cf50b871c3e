use Rattle.key_lists.proofs.Lists.{filled}
use Rattle.key_lists.proofs.Parts.{on_ok}
use Rattle.key_lists.proofs.key_list.KeyList.put_all.Goals as goal

pub returns-then-stand_before-clause-filled : goal.returns-then-stand_before-clause-filled
returns-then-stand_before-clause-filled c = λ some. on_ok c.append.result (λ has. filled c.append.new.self c.args.self.now c.args.other has some) c.append.ensures

pub returns-else-stand_before-clause-filled : goal.returns-else-stand_before-clause-filled
returns-else-stand_before-clause-filled c = λ some. on_ok c.put_each.result (λ has. filled c.put_each.new.self c.args.self.now c.args.other has some) c.put_each.ensures
