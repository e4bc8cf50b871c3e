use Rattle.std.proofs.Common.{Bool, true, ◌||◌, subst}
use Rattle.link_sessions.specs.Entries.{entries_of, passes_at}
use Rattle.link_sessions.specs.Roles.{is_to_read, is_to_write}
use Rattle.link_sessions.specs.Sets.{IsAnyOf}
use Rattle.serve_core.specs.LinkTurns.{drains_due}
use Rattle.serve_core.proofs.DueDrains.{any_first, any_second}
use Rattle.serve_core.proofs.Works.{works_at}
use Rattle.serve_core.proofs.turning.Turning.has_work.Goals as goal

pub returns-then-has_work : goal.returns-then-has_work
returns-then-has_work c = λ config limits pat fed links trace at.
    let now = c.args.self.now in
    let entries = entries_of now.kept in
    works_at config limits pat fed links trace now at true
    (any_first (λ link. is_to_read link || is_to_write link) (drains_due now.hub) entries
    (subst (λ (some : Bool). IsAnyOf (passes_at (λ link. is_to_read link || is_to_write link) entries) some) c.if-has_work.true (c.has_work.ensures at.keeps.settled)))

pub returns : goal.returns
returns c = λ config limits pat fed links trace at.
    let now = c.args.self.now in
    let entries = entries_of now.kept in
    works_at config limits pat fed links trace now at c.has_drain.result
    (any_second (λ link. is_to_read link || is_to_write link) (drains_due now.hub) entries c.has_drain.result
    (subst (λ (some : Bool). IsAnyOf (passes_at (λ link. is_to_read link || is_to_write link) entries) some) c.if-has_work.false (c.has_work.ensures at.keeps.settled)) (c.has_drain.ensures at.keeps.settled))
