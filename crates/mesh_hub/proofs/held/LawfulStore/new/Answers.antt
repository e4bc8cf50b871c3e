use Rattle.std.proofs.Common.{sym, ap, ◌∙◌}
use Rattle.std.specs.FinMap.{get, get-empty}
use Rattle.mesh_base.specs.KeyOrder.{key_cmp}
use Rattle.mesh_hub.proofs.held.LawfulStore.new.Goals as goal

pub invariant_of-result : goal.invariant_of-result
invariant_of-result c = λ going key o is. absurd (cc (sym (ap (λ held. get held.objects key) c.new.ensures ∙ get-empty key_cmp key) ∙ is))
