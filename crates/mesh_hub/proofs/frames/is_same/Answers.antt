use Rattle.std.proofs.Common.{Some, sym, ap, ◌∙◌}
use Rattle.std.specs.Option.{option_copied}
use Rattle.std.proofs.lemmas.Bool.Decides.{same_from_decides}
use Rattle.view_rules.proofs.SamePolicies.{server_decides}
use Rattle.view_rules.specs.Same.{same_option}
use Rattle.view_rules.specs.SamePolicies.{same_server}
use Rattle.mesh_hub.proofs.frames.is_same.Goals as goal

pub returns-in-Some : goal.returns-in-Some
returns-in-Some c =
    same_from_decides _ _ c.is_same.ensures (server_decides c.in-Some.shown.now c.args.server.now)
    ∙ ap (λ shown. same_option same_server (option_copied shown) (Some c.args.server.now)) (sym c.in-Some.is)
