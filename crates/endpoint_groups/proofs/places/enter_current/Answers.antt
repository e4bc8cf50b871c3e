use Rattle.std.proofs.Common.{sym, ◌∙◌}
use Rattle.endpoint_groups.proofs.Entering.{joins, opening_enters}
use Rattle.endpoint_groups.proofs.places.enter_current.Goals as goal

pub returns-then-is_current_at-clause-entry : goal.returns-then-is_current_at-clause-entry
returns-then-is_current_at-clause-entry g c =
    let is = rw c.as_slice.ensures.value at (sym c.is_current_at.ensures.current ∙ c.if-is_current_at.true) in
    joins c.args.exists c.args.current c.args.groups.now.items c.enter_at.new.groups.items is c.in_ok-enter_at.ensures.ok

pub returns-clause-entry : goal.returns-clause-entry
returns-clause-entry g c =
    let is = rw c.as_slice.ensures.value at (sym c.is_current_at.ensures.current ∙ c.if-is_current_at.false) in
    opening_enters c.args.exists c.args.current c.args.groups.now.items _ c.of_one.result is c.of_one.ensures.current c.of_one.ensures.members c.of_one.ensures.encoding c.open.result c.open.ensures.free c.open.ensures.put
