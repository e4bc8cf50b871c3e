use Rattle.std.proofs.Common.{None, ap, cond, nat_eq, ◌∙◌}
use Rattle.shared_endpoints.proofs.ByKey.{ok_if, ok_then}
use Rattle.row_views.proofs.Truncated.{map_truncated}
use Rattle.shared_endpoints.proofs.Truncated.{same_views}
use Rattle.shared_endpoints.proofs.shared.SharedEndpointsEndpointStreams.open.Goals as goal

pub returns-clause-stands : goal.returns-clause-stands
returns-clause-stands g c =
    ok_if c.add.result c.add.ensures.stands c.add.ensures.each (λ stands each config limits old.
    map_truncated old (λ s.
    record {
      stands = stands config limits c.args.store.now.objects (c.in_ok-enter.ensures.stands config limits s.stands);
      each = each (c.in_ok-enter.ensures.others s.each);
    }))

pub returns-clause-shown : goal.returns-clause-shown
returns-clause-shown g c =
    ok_then c.add.result c.add.ensures.shown (λ shown config limits old n.
    same_views _ _ old (λ s.
    shown config limits c.args.store.now.objects (c.in_ok-enter.ensures.stands config limits s.stands) n
    ∙ ap (cond (nat_eq n c.args.id) None) (c.in_ok-enter.ensures.shown config limits s.stands n)))
