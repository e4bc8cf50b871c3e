-- The laws of the parts, in the words of their contracts.
use Rattle.std.proofs.Common.{Option, Some, None, IfSome}
use Rattle.k8s_meta.proofs.Given.{weaker}
use Rattle.k8s_meta.proofs.GivenLists.{IfThere}
use Rattle.route_objects.specs.Parents.{parent_at}
use Rattle.route_objects.specs.Laws.{ParentsAreLawful}
use Rattle.route_objects.proofs.Parts.{parent_gives}
use Rattle.view_types.specs.Lawful.{IsLawfulParent}
use Rattle.view_types.specs.declared.route.Parent.{Parent}

if_some : (o : Option Parent) → IfThere IsLawfulParent o → IfSome o IsLawfulParent
if_some None is = tt
if_some (Some parent) is = is

pub parents : ParentsAreLawful
parents own = weaker (IfThere IsLawfulParent) (λ o. IfSome o IsLawfulParent) (parent_at own) if_some (parent_gives own)
