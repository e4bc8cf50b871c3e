use Rattle.std.proofs.Common.{Some, ap, ◌∙◌}
use Rattle.view_rules.specs.Same.{same_option}
use Rattle.view_rules.specs.SamePolicies.{same_server}
use Rattle.mesh_hub.proofs.frames.is_shown.Goals as goal

pub returns : goal.returns
returns c = c.is_same.ensures ∙ ap (λ shown. same_option same_server shown (Some c.args.server.now)) c.server_in.ensures
