use Rattle.std.proofs.Common.{List, subst, ◌∙◌}
use Rattle.std.proofs.lemmas.Result.{on_ok_weaker}
use Rattle.mesh_base.specs.declared.key.ObjKey.{ObjKey}
use Rattle.row_views.specs.Ids.{SetsAt}
use Rattle.row_sets.specs.Standing.{keys_at}
use Rattle.inbound_views.specs.PortRows.{authz_keys}
use Rattle.inbound_views.specs.Standing.{authz_of, query_at, uses_authz}
use Rattle.inbound_views.proofs.Entering.{enters_as, set_cost}
use Rattle.inbound_views.proofs.Joined.{key_cmp}
use Rattle.inbound_views.proofs.SetKeys.{authz_put}
use Rattle.inbound_views.proofs.views.InboundViews.set_authz.Goals as goal

pub returns-clause-stand : goal.returns-clause-stand
returns-clause-stand g c =
    on_ok_weaker c.set.result (λ stands config kept. record { servers = kept.servers; routes = kept.routes; authz = record { rows = stands kept.authz.rows; filtered = c.set.ensures.filter ∙ kept.authz.filtered } })
    c.set.ensures.stands

pub returns-clause-set : goal.returns-clause-set
returns-clause-set g c =
    let old = c.args.self.now in
    let id = c.args.id in
    let held = c.args.store.now.objects in
    on_ok_weaker c.set.result (λ sets config kept used.
    subst (λ (keys : List ObjKey). SetsAt id keys (authz_of old) (keys_at c.set.new.self.by_id))
    (authz_put old config held id c.args.earlier _ _ _ _ used (c.in_ok-authz.ensures config held kept) c.in_ok-authz-2.ensures c.keys.ensures) sets)
    c.set.ensures.keys

pub returns-clause-entered : goal.returns-clause-entered
returns-clause-entered g c =
    let old = c.args.self.now in
    let id = c.args.id in
    let held = c.args.store.now.objects in
    on_ok_weaker c.set.result (λ entered config kept used.
    enters_as _ _ kept.authz.filtered held key_cmp (uses_authz old) _ _
    (authz_put old config held id c.args.earlier _ _ _ _ used (c.in_ok-authz.ensures config held kept) c.in_ok-authz-2.ensures c.keys.ensures) c.args.steps.now c.set.new.steps (entered kept.authz.rows))
    c.set.ensures.entered

pub returns-clause-steps : goal.returns-clause-steps
returns-clause-steps g c = λ config leave kept used.
    let old = c.args.self.now in
    let id = c.args.id in
    let held = c.args.store.now.objects in
    set_cost held (uses_authz old) _ _ kept.authz.filtered c.args.earlier _ (authz_keys config held (query_at old id)) _
    (authz_put old config held id c.args.earlier _ _ _ _ used (c.in_ok-authz.ensures config held kept) c.in_ok-authz-2.ensures c.keys.ensures) leave c.args.steps.now c.set.new.steps (c.set.ensures.steps kept.authz.rows)
