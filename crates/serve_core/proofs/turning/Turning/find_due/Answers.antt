use Rattle.mesh_hub.specs.Due.{is_due}
use Rattle.serve_core.proofs.DueDrains.{found_due}
use Rattle.serve_core.proofs.turning.Turning.find_due.Goals as goal

pub returns-clause-ready : goal.returns-clause-ready
returns-clause-ready c =
    let now = c.args.self.now in
    found_due c.find_drains.result now.kept c.due.result.now (is_due now.hub.hub) c.clear.new.self c.find_drains.new.numbers c.clear.ensures.empty c.due.ensures.each c.find_drains.ensures
