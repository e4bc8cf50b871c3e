use Rattle.std.proofs.Common.{◌≤◌, ◌+◌, refl, ap, subst, ◌∙◌}
use Rattle.std.proofs.Math.Bridge.{le_prop}
use Rattle.std.proofs.Math.Logic.{∥∥₁_elim}
use Rattle.std.proofs.lemmas.Result.{IfOk-weaker}
use Rattle.mesh_base.specs.declared.key.ObjKey.{ObjKey}
use Rattle.mark_rules.specs.Reads.{authz_reads, cost}
use Rattle.mark_rules.specs.Rows.{authz_row}
use Rattle.inbound_views.proofs.Bare.{same_authz}
use Rattle.inbound_views.proofs.views.InboundViews.peek_authz.Goals as goal

pub returns-clause-rows : goal.returns-clause-rows
returns-clause-rows g c =
    IfOk-weaker c.authz.result _ _
    (λ rows is config stand.
    let held = c.args.store.now.objects in
    same_authz _ _ stand (λ joined. is config held (joined.kept, refl) ∙ ap (authz_row config held) c.in_ok-key.ensures))
    c.authz.ensures.rows

pub returns-clause-steps : goal.returns-clause-steps
returns-clause-steps g c = λ config stand.
    let held = c.args.store.now.objects in
    ∥∥₁_elim stand le_prop (λ joined.
    subst (λ (key : ObjKey). c.authz.new.steps ≤ c.args.steps.now + cost held (authz_reads held key)) c.in_ok-key.ensures (c.authz.ensures.steps config held (joined.kept, refl)))
