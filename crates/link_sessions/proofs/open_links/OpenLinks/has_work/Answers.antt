use Rattle.link_sessions.proofs.Work.{reads_by, writes_by}
use Rattle.link_sessions.proofs.open_links.OpenLinks.has_work.Goals as goal

pub returns-then-not-is_empty : goal.returns-then-not-is_empty
returns-then-not-is_empty c = λ settled. reads_by c.args.self.now settled c.is_empty.result c.is_empty.ensures c.if-not-is_empty.true

pub returns-else-not-is_empty : goal.returns-else-not-is_empty
returns-else-not-is_empty c = λ settled. writes_by c.args.self.now settled c.is_empty-else-not-is_empty.result c.is_empty-else-not-is_empty.ensures (c.is_empty.ensures.0 c.if-not-is_empty.false)
