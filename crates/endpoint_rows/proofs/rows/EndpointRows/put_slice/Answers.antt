use Rattle.std.proofs.Common.{◌≡◌, cond, ◌++◌, [], map, ap, ◌∙◌}
use Rattle.row_places.specs.Rows.{row_at}
use Rattle.view_rules.specs.Endpoints.{pair_of}
use Rattle.endpoint_rows.specs.Kept.{rows_of}
use Rattle.endpoint_rows.proofs.KeysAt.{own_key}
use Rattle.endpoint_rows.proofs.Found.{none_at}
use Rattle.endpoint_rows.proofs.Orders.{both_ok}
use Rattle.endpoint_rows.proofs.Showing.{change_shows}
use Rattle.endpoint_rows.proofs.rows.EndpointRows.put_slice.Goals as goal

pub returns-clause-keeps : goal.returns-clause-keeps
returns-clause-keeps c = λ keeps.
    let s = c.take_slice.new.self in
    let mid = c.in_ok-take_slice.ensures.keeps keeps in
    let empty : rows_of s.slices.by_slice c.args.key ≡ [] = c.in_ok-take_slice.ensures.taken c.args.key ∙ ap (λ b. cond b [] (rows_of c.args.self.now.slices.by_slice c.args.key)) (own_key c.args.key) in
    both_ok c.put.result (c.put.ensures.agree mid.agree empty) c.put.ensures.put (λ agree put. record {
      agree = agree;
      shows = change_shows s.slices.by_slice c.put.new.self.by_slice mid.agree.ordered agree.ordered c.args.key _ put s.touched _ c.in_ok-rows.rows s.view.rows mid.shows
          (c.in_ok-add_pairs.ensures ∙ ap (λ rows. s.touched ++ map pair_of rows) c.as_slice.ensures.value)
          (λ q none. (ap (λ rows. row_at rows q) empty, none_at q _ none));
    })
