use Rattle.std.proofs.Common.{sym, ap, ◌∙◌}
use Rattle.std.specs.Option.{is_some}
use Rattle.mesh_hub.proofs.LiveSubs.{copied_some, some_live}
use Rattle.mesh_hub.proofs.hub.Hub.is_live.Goals as goal

pub returns : goal.returns
returns c = c.is_some.ensures ∙ sym (copied_some c.get.result) ∙ ap is_some c.get.ensures ∙ sym (some_live c.args.self.now.spent c.args.self.now.subscribers c.args.id.0)
