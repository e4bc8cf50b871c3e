-- The items of a list of few. No public clause cites this module.
use Rattle.std.specs.Prelude.{List, take}
use Rattle.mark_graph.specs.declared.few_items.FewItems.{FewItems}
use Rattle.mark_graph.specs.declared.few_items.FewItems.TheVariants.{InPlace, InMemory}

abbrev pub items_of : {T : Type 0} → FewItems T → List T
items_of (InPlace alloc one) = take 1 one
items_of (InMemory items) = items.items
