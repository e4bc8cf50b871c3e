use Rattle.std.proofs.Common.{◌≡◌, Some, sym, ap, ◌∙◌}
use Rattle.std.proofs.lemmas.Bool.Decides.{same_from_decides}
use Rattle.std.specs.Option.{option_copied}
use Rattle.view_types.specs.declared.server_view.ServerView.TheVariants.{Present}
use Rattle.view_rules.specs.Batch.{differ_in_authz}
use Rattle.view_rules.proofs.SamePolicies.{server_row_decides}
use Rattle.view_diff.proofs.port.differ_in_authz.Goals as goal

pub returns-in-Present : goal.returns-in-Present
returns-in-Present c =
    let old = c.in-Some-Present.old in
    let new = c.in-Present.new in
    let there : c.in-Some-Present.field-0.now ≡ Present old = rw c.in-Some-Present.is at c.in-Some-Present.field-0-is in
    let shown = ap option_copied c.in-Some-Present.is ∙ ap Some there in
    same_from_decides _ _ c.is_same_but_authz.ensures (server_row_decides (record old { authz = new.authz }) new)
    ∙ (λ i. differ_in_authz (sym shown i) (sym c.in-Present.is i))
