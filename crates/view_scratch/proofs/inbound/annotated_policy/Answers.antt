use Rattle.std.proofs.Common.{option_and_then, sym, ap, ◌∙◌}
use Rattle.std.specs.Option.{option_copied}
use Rattle.mesh_text.specs.PolicyWords.{policy_of}
use Rattle.view_scratch.proofs.inbound.annotated_policy.Goals as goal

pub returns-in-Some : goal.returns-in-Some
returns-in-Some c =
    c.meaning_of.ensures ∙ ap policy_of c.as_str.ensures
    ∙ ap (λ word. option_and_then policy_of (option_copied word)) (sym c.in-Some.is)
    ∙ ap (option_and_then policy_of) c.get.ensures

pub returns-in-None : goal.returns-in-None
returns-in-None c = ap (λ word. option_and_then policy_of (option_copied word)) (sym c.in-None.is) ∙ ap (option_and_then policy_of) c.get.ensures
