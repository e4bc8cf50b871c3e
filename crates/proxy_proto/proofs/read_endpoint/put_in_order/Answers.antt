use Rattle.std.proofs.Common.{rules}
use Rattle.std.proofs.lemmas.Cmp.{nat_list_cmp_total}
use Rattle.std.proofs.lemmas.List.Sorted.{answers_always, ranks_by}
use Rattle.proxy_proto.proofs.LabelMaps.{in_order}
use Rattle.proxy_proto.proofs.read_endpoint.put_in_order.Goals as goal

pub returns : goal.returns
returns c = in_order c.args.pairs.now.items c.sort_by.new.self.items (c.sort_by.ensures.stable _ (ranks_by nat_list_cmp_total (λ p. p.0)) (answers_always _ _ _ (λ f a r g called. search rules)))
