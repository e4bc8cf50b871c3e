use Rattle.std.proofs.Common.{◌≡◌, None, Some, ap, cond, rules, sym, ◌∙◌}
use Rattle.key_streams.proofs.Counts.{at_id}
use Rattle.row_views.specs.Ids.{key_at}
use Rattle.shared_endpoints.specs.ByKey.{SetsAt}
use Rattle.shared_endpoints.proofs.ByKey.{turned_puts}
use Rattle.shared_endpoints.proofs.Standing.{last_each, last_keeps, last_stands, leave_each, leave_keeps, leave_stands, unset_keeps, unset_stands}
use Rattle.row_views.proofs.Truncated.{map_truncated}
use Rattle.shared_endpoints.proofs.Truncated.{same_views}
use Rattle.shared_endpoints.proofs.shared.SharedEndpointsEndpointStreams.close.Goals as goal

pub returns-in_default-clause-stands : goal.returns-in_default-clause-stands
returns-in_default-clause-stands c = λ config limits held old.
    let self = c.args.self.now in
    let id = c.args.id in
    let none : key_at self.by_id id ≡ None = search rules in
    map_truncated old (λ s.
    record {
      stands = unset_stands self.index self.by_key self.by_id c.remove.new.self id (λ n. c.remove.ensures.updates.0 n ∙ ap (λ b. cond b None (key_at self.by_id n)) (at_id id n)) config limits held self.limits none s.stands;
      each = s.each;
    })

pub returns-in_default-clause-shown : goal.returns-in_default-clause-shown
returns-in_default-clause-shown c = λ config limits held old n.
    let self = c.args.self.now in
    let id = c.args.id in
    unset_keeps self.index self.by_key self.by_id c.remove.new.self id (λ n. c.remove.ensures.updates.0 n ∙ ap (λ b. cond b None (key_at self.by_id n)) (at_id id n)) n

pub returns-then-close_at-clause-stands : goal.returns-then-close_at-clause-stands
returns-then-close_at-clause-stands c = λ config limits held old.
    let self = c.args.self.now in
    let id = c.args.id in
    let key = c.in-Some.key in
    let is : key_at self.by_id id ≡ Some key = sym c.in-Some.ensures.value in
    let rest = c.remove-then-close_at.new.self in
    let gone : SetsAt key None c.close_at.new.by_key rest = turned_puts key None c.close_at.new.by_key rest c.remove-then-close_at.ensures.updates.0 in
    map_truncated old (λ s.
    record {
      stands = last_stands config limits held self.index self.by_key c.close_at.new.by_key self.by_id c.remove.new.self self.limits id key is c.close_at.ensures.left
          (λ n. c.remove.ensures.updates.0 n ∙ ap (λ b. cond b None (key_at self.by_id n)) (at_id id n)) s.stands (c.close_at.ensures.last c.if-close_at.true)
          rest gone c.leave.new.self c.leave.ensures.users (c.leave.ensures.stands held) c.leave.ensures.filter;
      each = last_each key self.by_key c.close_at.new.by_key id c.close_at.ensures.left rest gone s.each;
    })

pub returns-then-close_at-clause-shown : goal.returns-then-close_at-clause-shown
returns-then-close_at-clause-shown c = λ config limits held old n.
    let self = c.args.self.now in
    let id = c.args.id in
    let key = c.in-Some.key in
    let is : key_at self.by_id id ≡ Some key = sym c.in-Some.ensures.value in
    same_views _ _ old (λ s.
    last_keeps config limits held self.index self.by_key c.close_at.new.by_key self.by_id c.remove.new.self self.limits id key is c.close_at.ensures.left
    (λ n. c.remove.ensures.updates.0 n ∙ ap (λ b. cond b None (key_at self.by_id n)) (at_id id n)) s.stands (c.close_at.ensures.last c.if-close_at.true)
    c.remove-then-close_at.new.self (turned_puts key None c.close_at.new.by_key c.remove-then-close_at.new.self c.remove-then-close_at.ensures.updates.0) c.leave.new.self c.leave.ensures.users (c.leave.ensures.stands held) c.leave.ensures.filter n)

pub returns-clause-stands : goal.returns-clause-stands
returns-clause-stands c = λ config limits held old.
    let self = c.args.self.now in
    let id = c.args.id in
    let key = c.in-Some.key in
    let is : key_at self.by_id id ≡ Some key = sym c.in-Some.ensures.value in
    map_truncated old (λ s.
    record {
      stands = leave_stands config limits held self.index self.by_key c.close_at.new.by_key self.by_id c.remove.new.self self.limits id key is c.close_at.ensures.left
          (λ n. c.remove.ensures.updates.0 n ∙ ap (λ b. cond b None (key_at self.by_id n)) (at_id id n)) s.stands;
      each = leave_each key self.by_key c.close_at.new.by_key id c.close_at.ensures.left (c.close_at.ensures.more c.if-close_at.false) s.each;
    })

pub returns-clause-shown : goal.returns-clause-shown
returns-clause-shown c = λ config limits held old n.
    let self = c.args.self.now in
    let id = c.args.id in
    let key = c.in-Some.key in
    let is : key_at self.by_id id ≡ Some key = sym c.in-Some.ensures.value in
    same_views _ _ old (λ s.
    leave_keeps config limits held self.index self.by_key c.close_at.new.by_key self.by_id c.remove.new.self self.limits id key is c.close_at.ensures.left
    (λ n. c.remove.ensures.updates.0 n ∙ ap (λ b. cond b None (key_at self.by_id n)) (at_id id n)) s.stands n)
