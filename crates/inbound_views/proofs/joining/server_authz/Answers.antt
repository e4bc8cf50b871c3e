use Rattle.std.proofs.Common.{◌≡◌, ◌≤◌, ◌+◌, ◌∷◌, [], ℕ, List, Option, sym, ap, subst, arith}
use Rattle.std.specs.Option.{option_copied}
use Rattle.mesh_base.specs.declared.key.ObjKey.{ObjKey}
use Rattle.mark_rules.specs.Reads.{authz_reads, cost}
use Rattle.view_rules.specs.PolicyLaws.{server_key}
use Rattle.inbound_views.specs.Costs.{cost_of_authz}
use Rattle.inbound_views.specs.PortRows.{own_authz}
use Rattle.inbound_views.proofs.Costs.{more_authz}
use Rattle.inbound_views.proofs.joining.server_authz.Goals as goal

pub returns-in_ok-server_key-in-Some-clause-steps : goal.returns-in_ok-server_key-in-Some-clause-steps
returns-in_ok-server_key-in-Some-clause-steps g c = λ config held stand.
    let ns = c.args.ns.now in
    let name = c.in-Some.name.now in
    let read : c.authz.new.steps ≤ c.args.steps.now + cost held (authz_reads held (server_key ns name)) =
    subst (λ (key : ObjKey). c.authz.new.steps ≤ c.args.steps.now + cost held (authz_reads held key)) c.in_ok-server_key-in-Some.ensures (c.authz.ensures.steps config held stand) in
    let one : cost_of_authz held (server_key ns name ∷ []) ≡ cost held (authz_reads held (server_key ns name)) + 0 = more_authz held (server_key ns name) [] in
    subst (λ (server : Option (List ℕ)). c.authz.new.steps ≤ c.args.steps.now + cost_of_authz held (own_authz ns server)) (sym (ap option_copied c.in-Some.is)) (omega (arith, read, one))
