use Rattle.std.proofs.Common.{◌&&◌, ◌||◌, nat_eq, ap, ◌∙◌}
use Rattle.std.specs.BTreeSet.{contains}
use Rattle.std.specs.Ordering.{eq_by_cmp, nat_cmp}
use Rattle.row_views.proofs.IdSets.{ok_then, put_in, read_at}
use Rattle.row_views.proofs.numbered_ids.NumberedIds.put.Goals as goal

pub returns : goal.returns
returns c =
    let number = c.args.number in
    let id = c.args.id in
    let sets = c.extend.new.self.sets.items in
    let there = c.in_ok-extend.ensures.there in
    let was = read_at sets number c.index_mut.result.now there c.index_mut.ensures.value in
    ok_then c.insert.result c.insert.ensures.put (λ put n r.
    put_in sets number c.insert.new.self there id (λ r. put r ∙ ap (λ s. eq_by_cmp nat_cmp id r || contains nat_cmp s r) was) n r
    ∙ ap (λ b. (eq_by_cmp nat_cmp number n && nat_eq r id) || b) (c.in_ok-extend.ensures.same n r))
