use Rattle.std.proofs.Common.{◌≡◌, List, nat_eq, subst}
use Rattle.std.specs.List.{list_any}
use Rattle.mark_rules.specs.declared.keys.EndpointKey.{EndpointKey}
use Rattle.row_table.specs.IndexRows.{has_key}
use Rattle.endpoint_index.specs.Told.{notes_at}
use Rattle.shared_endpoints.specs.ByKey.{key_cmp, streams_at}
use Rattle.shared_endpoints.specs.Sharing.{ChangesAt, has_at}
use Rattle.shared_endpoints.proofs.ByKey.{if_then, key_exact, key_total, ok_then}
use Rattle.shared_endpoints.proofs.Sharing.{changed_have}
use Rattle.shared_endpoints.proofs.Standing.{follow_keeps, follow_stands, follow_touches}
use Rattle.row_views.proofs.Standing.{on_any}
use Rattle.row_views.proofs.Truncated.{map_truncated, same_tests}
use Rattle.shared_endpoints.proofs.Costs.{rows_followed}
use Rattle.shared_endpoints.proofs.Truncated.{same_views}
use Rattle.shared_endpoints.proofs.shared.SharedEndpointsEndpointStreams.follow.Goals as goal

pub returns-clause-stands : goal.returns-clause-stands
returns-clause-stands g c =
    let self = c.args.self.now in
    let keys = c.in_ok-keys.keys in
    let next = c.follow_change.new.self in
    let new = c.change_all.new.by_key in
    ok_then c.change_all.result c.change_all.ensures.changed (λ listed config limits held old leads.
    let changes : ChangesAt key_cmp (has_key key_cmp keys) (notes_at next) (streams_at self.by_key) (streams_at new) = subst (λ (ks : List EndpointKey). ChangesAt key_cmp (has_key key_cmp ks) (notes_at next) (streams_at self.by_key) (streams_at new)) c.as_slice.ensures listed in
    map_truncated old (λ s.
    record {
      stands = follow_stands c.endpoints_stay.ensures c.endpoints_are_orderly.ensures config limits held c.args.store.now.objects c.args.change.now.marks self.index next self.by_key new self.by_id self.limits keys leads s.stands
          c.in_ok-keys.ensures.keys c.in_ok-keys.ensures.users (c.in_ok-keys.ensures.stands held s.stands.indexed.stands leads) c.in_ok-keys.ensures.filter (c.in_ok-keys.ensures.before held s.stands.indexed.stands leads) changes;
      each = changed_have key_cmp key_total key_exact (has_key key_cmp keys) (notes_at next) (streams_at self.by_key) (streams_at new) changes s.each;
    }))

pub returns-clause-shown : goal.returns-clause-shown
returns-clause-shown g c =
    let self = c.args.self.now in
    let keys = c.in_ok-keys.keys in
    let next = c.follow_change.new.self in
    let new = c.change_all.new.by_key in
    ok_then c.change_all.result c.change_all.ensures.changed (λ changes config limits held old leads n.
    same_views _ _ old (λ s.
    follow_keeps c.endpoints_stay.ensures c.endpoints_are_orderly.ensures config limits held c.args.store.now.objects c.args.change.now.marks self.index next self.by_key new self.by_id self.limits keys leads s.stands
    c.in_ok-keys.ensures.keys c.in_ok-keys.ensures.users (c.in_ok-keys.ensures.stands held s.stands.indexed.stands leads) c.in_ok-keys.ensures.filter (c.in_ok-keys.ensures.before held s.stands.indexed.stands leads)
    (subst (λ (ks : List EndpointKey). ChangesAt key_cmp (has_key key_cmp ks) (notes_at next) (streams_at self.by_key) (streams_at new)) c.as_slice.ensures changes) n))

pub returns-clause-touched : goal.returns-clause-touched
returns-clause-touched g c =
    let self = c.args.self.now in
    let keys = c.in_ok-keys.keys in
    let next = c.follow_change.new.self in
    let new = c.change_all.new.by_key in
    if_then c.change_all.result c.change_all.ensures.ids c.change_all.ensures.changed (λ ids are changes config limits held old leads n.
    same_tests _ _ old (λ s.
    follow_touches c.endpoints_stay.ensures c.endpoints_are_orderly.ensures config limits held c.args.store.now.objects c.args.change.now.marks self.index next self.by_key new self.by_id self.limits keys leads s.stands
    c.in_ok-keys.ensures.keys c.in_ok-keys.ensures.users (c.in_ok-keys.ensures.stands held s.stands.indexed.stands leads) c.in_ok-keys.ensures.filter (c.in_ok-keys.ensures.before held s.stands.indexed.stands leads)
    (subst (λ (ks : List EndpointKey). ChangesAt key_cmp (has_key key_cmp ks) (notes_at next) (streams_at self.by_key) (streams_at new)) c.as_slice.ensures changes)
    ids (λ m. subst (λ (ks : List EndpointKey). list_any (nat_eq m) ids ≡ list_any (λ key. has_at (streams_at self.by_key key) m) ks) c.as_slice.ensures (are m)) n))

pub returns-clause-steps : goal.returns-clause-steps
returns-clause-steps g c = on_any c.change_all.result (λ config limits held old leads. map_truncated old (λ s.
    rows_followed config limits held c.args.store.now.objects c.args.change.now.marks c.args.self.now s c.in_ok-keys.keys c.in_ok-keys.ensures.keys c.args.steps.now c.follow_change.new.steps c.in_ok-keys.ensures.steps))
