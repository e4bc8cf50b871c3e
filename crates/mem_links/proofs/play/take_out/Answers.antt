use Rattle.std.proofs.Common.{rules, length, sym, subst, ◌<◌, arith}
use Rattle.std.proofs.lemmas.Fn.{filter_same}
use Rattle.mem_links.proofs.OpenLists.{fewer}
use Rattle.mem_links.proofs.play.take_out.Goals as goal

pub returns-clause-items : goal.returns-clause-items
returns-clause-items c = filter_same _ _ _ (λ x b f' k. search rules) _ _ c.retain.ensures.filtered

pub returns-clause-fewer : goal.returns-clause-fewer
returns-clause-fewer c = λ e.
    let less : length c.retain.new.self.items < length c.args.links.now.items = subst (λ links. length links < length c.args.links.now.items) (sym (returns-clause-items c)) (fewer c.args.number c.args.links.now.items e) in
    let before = c.args.links.now.ok.0 in
    let after = c.retain.new.self.ok.0 in
    omega (arith, less, before, after)
