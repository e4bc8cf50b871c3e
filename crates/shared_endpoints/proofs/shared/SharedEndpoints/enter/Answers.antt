use Rattle.std.proofs.Common.{◌≡◌, ◌≤◌, ◌+◌, ℕ, Bool, true, false, cond, nat_lt, None, Some, arith, subst, sym, ◌∙◌}
use Rattle.mark_rules.specs.Reads.{cost, endpoint_reads}
use Rattle.mark_rules.specs.declared.keys.EndpointKey.{EndpointKey}
use Rattle.row_table.specs.IndexRows.{OneMore}
use Rattle.shared_endpoints.specs.ByKey.{SetsAt, key_cmp, streams_at}
use Rattle.shared_endpoints.specs.Standing.{users}
use Rattle.shared_endpoints.proofs.ByKey.{key_exact, key_total, none_where, turned_puts}
use Rattle.shared_endpoints.proofs.Sharing.{others_have}
use Rattle.shared_endpoints.proofs.Standing.{enter_keeps, enter_stands}
use Rattle.shared_endpoints.proofs.shared.SharedEndpoints.enter.Goals as goal

pub returns-clause-others : goal.returns-clause-others
returns-clause-others g c = λ each.
    let self = c.args.self.now in
    let key = c.args.key.now in
    let fresh = c.in_ok-streams.streams in
    let new = c.insert.new.self in
    let puts : SetsAt key (Some fresh) self.by_key new = subst (λ (k : EndpointKey). SetsAt k (Some fresh) self.by_key new) c.in_ok-own.ensures (turned_puts c.in_ok-own.own (Some fresh) self.by_key new c.in_ok-insert.ensures.updates.0) in
    others_have key_cmp key_total key_exact key (Some fresh) (streams_at self.by_key) (streams_at new) puts each

pub returns-clause-stands : goal.returns-clause-stands
returns-clause-stands g c = λ config limits standing.
    let self = c.args.self.now in
    let key = c.args.key.now in
    let fresh = c.in_ok-streams.streams in
    let next = c.enter.new.self in
    let new = c.insert.new.self in
    let absent : streams_at self.by_key key ≡ None = none_where (streams_at self.by_key key) (sym c.contains_key.ensures ∙ c.if-contains_key.false) in
    let puts : SetsAt key (Some fresh) self.by_key new = subst (λ (k : EndpointKey). SetsAt k (Some fresh) self.by_key new) c.in_ok-own.ensures (turned_puts c.in_ok-own.own (Some fresh) self.by_key new c.in_ok-insert.ensures.updates.0) in
    let more : OneMore key_cmp key (users self.index) (users next) = subst (λ (k : EndpointKey). OneMore key_cmp k (users self.index) (users next)) c.in_ok-copy.ensures c.in_ok-enter.ensures.users in
    enter_stands config limits c.args.store.now.objects self.index next self.by_key new self.by_id self.limits key fresh absent puts c.in_ok-streams.ensures.none c.in_ok-streams.ensures.right more c.in_ok-enter.ensures.stands c.in_ok-enter.ensures.filter standing

pub returns-clause-shown : goal.returns-clause-shown
returns-clause-shown g c = λ config limits standing id.
    let self = c.args.self.now in
    let key = c.args.key.now in
    let fresh = c.in_ok-streams.streams in
    let next = c.enter.new.self in
    let new = c.insert.new.self in
    let absent : streams_at self.by_key key ≡ None = none_where (streams_at self.by_key key) (sym c.contains_key.ensures ∙ c.if-contains_key.false) in
    let puts : SetsAt key (Some fresh) self.by_key new = subst (λ (k : EndpointKey). SetsAt k (Some fresh) self.by_key new) c.in_ok-own.ensures (turned_puts c.in_ok-own.own (Some fresh) self.by_key new c.in_ok-insert.ensures.updates.0) in
    let more : OneMore key_cmp key (users self.index) (users next) = subst (λ (k : EndpointKey). OneMore key_cmp k (users self.index) (users next)) c.in_ok-copy.ensures c.in_ok-enter.ensures.users in
    enter_keeps config limits c.args.store.now.objects self.index next self.by_key new self.by_id self.limits key fresh absent puts c.in_ok-streams.ensures.none c.in_ok-streams.ensures.right more c.in_ok-enter.ensures.stands c.in_ok-enter.ensures.filter standing id

-- what costs nothing where it is there costs at most as much as where it isn't
at_most : (there : Bool) (now before more : ℕ) → now ≤ before + cond there 0 more → now ≤ before + more
at_most true now before more le = omega (arith, le)
at_most false now before more le = le

pub returns-in_err-insert-clause-steps : goal.returns-in_err-insert-clause-steps
returns-in_err-insert-clause-steps g c =
    let held = c.args.store.now.objects in
    let own = c.in_ok-copy.field-0 in
    subst (λ (k : EndpointKey). c.enter.new.steps ≤ c.args.steps.now + cost held (endpoint_reads held k)) c.in_ok-copy.ensures
    (at_most (nat_lt 0 (users c.args.self.now.index own)) c.enter.new.steps c.args.steps.now (cost held (endpoint_reads held own)) c.enter.ensures.steps)

pub returns-clause-steps : goal.returns-clause-steps
returns-clause-steps g c =
    let held = c.args.store.now.objects in
    let own = c.in_ok-copy.field-0 in
    subst (λ (k : EndpointKey). c.enter.new.steps ≤ c.args.steps.now + cost held (endpoint_reads held k)) c.in_ok-copy.ensures
    (at_most (nat_lt 0 (users c.args.self.now.index own)) c.enter.new.steps c.args.steps.now (cost held (endpoint_reads held own)) c.enter.ensures.steps)
