use Rattle.serve_rules.specs.FedLines.{serve_of}
use Rattle.serve_core.specs.Served.{serving_of}
use Rattle.serve_core.proofs.ChangedViews.{changes_touch}
use Rattle.serve_core.proofs.RunLaws.{waits_for_none}
use Rattle.serve_core.proofs.laws.no_poll_waits_for_what_is_owed.Goals as goal

pub returns : goal.returns
returns c config limits pat known status trace run before r after is waited k s found owed =
    let program = serve_of config limits pat in
    let reads = c.replays_read_lawfully.ensures config limits pat in
    let touch = changes_touch config limits pat c.untouched_queries_stay.ensures reads (c.held_are_lawful.ensures program reads) (c.held_at_their_keys.ensures program) in
    waits_for_none (serving_of config limits pat) known status trace run c.what_is_owed_is_work.ensures touch before r after is waited k s found owed
