use Rattle.kept_views.proofs.Parts.{apart_none}
use Rattle.kept_views.proofs.views.KeptViews.new.Goals as goal

pub returns-clause-stands : goal.returns-clause-stands
returns-clause-stands c = λ held. record {
  profiles = c.new-2.ensures.stands c.args.config.now held c.in_ok-profiles.ensures.filter (c.in_ok-profiles.ensures.stands held);
  ports = c.in_ok-ports.ensures.stands held;
  outbound = c.new-3.ensures.stands c.args.config.now held c.in_ok-outbound.ensures.filter (c.in_ok-outbound.ensures.stands held);
  profiles_apart = apart_none _ _ c.new-2.ensures.queries;
  ports_apart = apart_none _ _ c.in_ok-ports.ensures.queries;
}
