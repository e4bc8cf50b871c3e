use Rattle.std.proofs.Common.{◌∙◌, ap}
use Rattle.mem_links.specs.OpenNumbers.{numbers_of}
use Rattle.mem_links.proofs.OpenLists.{numbers_filter}
use Rattle.mem_links.proofs.play.Play.close.Goals as goal

pub returns-clause-open_links : goal.returns-clause-open_links
returns-clause-open_links c = ap numbers_of c.take_out.ensures.items ∙ numbers_filter c.args.number c.args.self.now.links.items
