use Rattle.std.proofs.Common.{◌≡◌, ◌==◌, ◌∙◌, ap, is_some}
use Rattle.std.specs.List.{position_from}
use Rattle.mem_links.specs.OpenNumbers.{is_among, numbers_of}
use Rattle.mem_links.proofs.OpenLists.{found}
use Rattle.mem_links.proofs.play.Play.at.Goals as goal

pub returns-clause-there : goal.returns-clause-there
returns-clause-there c =
    let first : c.first_of.result ≡ position_from (λ link. link.number == c.args.number) 0 c.as_slice.result.now = c.first_of.ensures.first in
    ap is_some first ∙ found c.args.number 0 c.as_slice.result.now ∙ ap (λ links. is_among c.args.number (numbers_of links)) c.as_slice.ensures.value
