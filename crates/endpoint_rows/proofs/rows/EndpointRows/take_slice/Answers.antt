use Rattle.std.proofs.Common.{◌++◌, map, sym, ap, refl, ◌∙◌}
use Rattle.view_rules.specs.Batch.{has_pair}
use Rattle.view_rules.specs.Endpoints.{pair_of}
use Rattle.endpoint_rows.proofs.Found.{none_at}
use Rattle.endpoint_rows.proofs.Orders.{on_ok}
use Rattle.endpoint_rows.proofs.Showing.{change_shows}
use Rattle.endpoint_rows.proofs.rows.EndpointRows.take_slice.Goals as goal

pub returns-clause-keeps : goal.returns-clause-keeps
returns-clause-keeps c = λ keeps.
    let s = c.args.self.now in
    let agree = c.take-rows.ensures.agree keeps.agree in
    on_ok c.add_pairs.result (λ e. record {
      agree = agree;
      shows = change_shows s.slices.by_slice c.take-rows.new.self.by_slice keeps.agree.ordered agree.ordered c.args.key.now _ c.take-rows.ensures.taken s.touched _ c.take-rows.result s.view.rows keeps.shows
          (e ∙ ap (λ rows. s.touched ++ map pair_of rows) c.as_slice.ensures.value)
          (λ q none. (none_at q _ (ap (λ rows. has_pair rows q) (sym c.take-rows.ensures.rows) ∙ none), refl));
    }) c.add_pairs.ensures
