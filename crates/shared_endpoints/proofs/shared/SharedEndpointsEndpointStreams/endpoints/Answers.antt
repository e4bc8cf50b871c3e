use Rattle.std.proofs.Common.{◌≡◌, Some, ap, sym, ◌∙◌}
use Rattle.endpoint_streams.specs.Streams.{endpoints_at}
use Rattle.row_views.specs.Ids.{key_at}
use Rattle.shared_endpoints.proofs.Standing.{row_there}
use Rattle.shared_endpoints.proofs.Truncated.{same_views}
use Rattle.shared_endpoints.proofs.shared.SharedEndpointsEndpointStreams.endpoints.Goals as goal

pub returns-in-Some : goal.returns-in-Some
returns-in-Some c = λ config limits held old.
    let self = c.args.self.now in
    let key = c.in-Some.key.now in
    let is : key_at self.by_id c.args.id ≡ Some key = sym c.in-Some.ensures.value in
    same_views _ _ old (λ s.
    c.row.ensures ∙ row_there config limits held self.index self.by_key self.by_id self.limits s.stands c.args.id key is ∙ sym (ap (endpoints_at config held) is))
