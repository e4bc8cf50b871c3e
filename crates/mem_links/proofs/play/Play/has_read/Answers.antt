use Rattle.mem_links.proofs.OpenLists.{numbers_set}
use Rattle.mem_links.proofs.play.Play.has_read.Goals as goal

pub returns-in-Some-clause-open_links : goal.returns-in-Some-clause-open_links
returns-in-Some-clause-open_links c = numbers_set _ _ _ _ c.has_read.ensures c.index_mut.ensures.value
