use Rattle.std.proofs.Common.{Option, sym, ap, ◌∙◌}
use Rattle.std.specs.Prelude.{option_map}
use Rattle.mark_rules.specs.declared.keys.ServerKey.{ServerKey}
use Rattle.row_views.proofs.Standing.{moved_kept}
use Rattle.inbound_views.specs.PortRows.{authz_keys, query_for, route_keys}
use Rattle.inbound_views.proofs.Opening.{kept_sets}
use Rattle.inbound_views.proofs.views.InboundViews.new.Goals as goal

pub returns-clause-queries : goal.returns-clause-queries
returns-clause-queries c = λ id. ap (option_map query_for) (c.new.ensures.keys id)

pub returns-clause-stands : goal.returns-clause-stands
returns-clause-stands c = λ held. ∣ record {
  kept = record {
    servers = moved_kept c.new.ensures.index (c.new.ensures.stands held (c.in_ok-servers.ensures.stands held)) c.in_ok-servers.ensures.filter;
    routes = kept_sets c.new-2.ensures.index (c.new-2.ensures.stands held (c.new_index-routes.ensures.stands held)) c.new_index-routes.ensures.filter;
    authz = kept_sets c.new-3.ensures.index (c.new-3.ensures.stands held (c.in_ok-authz.ensures.stands held)) c.in_ok-authz.ensures.filter;
  };
  routes = λ id. c.new-2.ensures.keys id ∙ sym (ap (λ (asked : Option ServerKey). route_keys c.args.config.now held (option_map query_for asked)) (c.new.ensures.keys id));
  authz = λ id. c.new-3.ensures.keys id ∙ sym (ap (λ (asked : Option ServerKey). authz_keys c.args.config.now held (option_map query_for asked)) (c.new.ensures.keys id));
} ∣₁
