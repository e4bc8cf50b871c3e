use Rattle.std.proofs.Common.{◌++◌, map, ap, ◌∙◌}
use Rattle.view_rules.specs.Endpoints.{pair_of}
use Rattle.endpoint_rows.proofs.Orders.{on_ok}
use Rattle.endpoint_rows.proofs.Showing.{restart_shows}
use Rattle.endpoint_rows.proofs.rows.EndpointRows.restart.Goals as goal

pub returns-clause-keeps : goal.returns-clause-keeps
returns-clause-keeps c = λ keeps.
    let s = c.args.self.now in
    on_ok c.add_pairs.result (λ e. record {
      agree = c.new.ensures.agree;
      shows = restart_shows s.touched _ _ s.view.rows keeps.shows.rise (e ∙ ap (λ rows. s.touched ++ map pair_of rows) c.as_slice.ensures) c.new.ensures.all;
    }) c.add_pairs.ensures
