use Rattle.std.proofs.Common.{◌≤◌, ◌+◌, Option, Some, sym, ap, subst, ◌∙◌}
use Rattle.std.proofs.Math.Bridge.{le_prop}
use Rattle.std.proofs.Math.Logic.{∥∥₁_elim}
use Rattle.std.proofs.lemmas.Result.{on_err_weaker, on_ok_weaker}
use Rattle.std.specs.Prelude.{option_map}
use Rattle.view_types.specs.declared.query.Query.{Query}
use Rattle.row_views.specs.Costs.{open_cost}
use Rattle.row_views.specs.Ids.{key_at}
use Rattle.row_views.proofs.Truncated.{map_truncated}
use Rattle.inbound_views.specs.PortRows.{query_for}
use Rattle.inbound_views.proofs.Opening.{no_key, query_set_as, unset}
use Rattle.inbound_views.proofs.views.InboundViewsQueryViews.open.Goals as goal

pub open_port-requires : goal.open_port-requires
open_port-requires g c = record { free = no_key (key_at c.args.self.now.servers.by_id c.args.id) c.requires.free }

pub returns-in-Some-clause-queries : goal.returns-in-Some-clause-queries
returns-in-Some-clause-queries g c =
    on_ok_weaker c.open_port.result
    (λ keys. query_set_as c.args.id (Some c.in-Some.key) c.args.self.now c.open_port.new.self _ (sym (ap (option_map query_for) c.in-Some.is) ∙ c.in_ok-key.ensures) keys)
    c.open_port.ensures.keys

pub returns-in-Some-clause-stands : goal.returns-in-Some-clause-stands
returns-in-Some-clause-stands g c = on_ok_weaker c.open_port.result (λ joined config old. map_truncated old (joined config)) c.open_port.ensures.joined

pub returns-in-Some-clause-kept : goal.returns-in-Some-clause-kept
returns-in-Some-clause-kept g c = on_err_weaker c.open_port.result (λ keeps n. ap (option_map query_for) (keeps n)) c.open_port.ensures.kept

pub returns-in-None-clause-queries : goal.returns-in-None-clause-queries
returns-in-None-clause-queries g c = unset c.args.id c.args.self.now _ (sym (ap (option_map query_for) c.in-None.is) ∙ c.in_ok-key.ensures) c.requires.free

pub returns-in-Some-clause-steps : goal.returns-in-Some-clause-steps
returns-in-Some-clause-steps g c = λ config old.
    ∥∥₁_elim old le_prop (λ joined. subst (λ (query : Option Query). c.open_port.new.steps ≤ c.args.steps.now + open_cost config c.args.store.now.objects query) (sym (ap (option_map query_for) c.in-Some.is) ∙ c.in_ok-key.ensures) (c.open_port.ensures.steps config joined))
