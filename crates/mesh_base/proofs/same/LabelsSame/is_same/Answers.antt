-- maps with the same entries are the same
use Rattle.std.proofs.Common.{ap, sym, ◌∙◌}
use Rattle.std.specs.FinMap.{entries, same_entries_map}
use Rattle.mesh_base.proofs.same.LabelsSame.is_same.Goals as goal

pub returns : goal.returns
returns c = (
  λ h. same_entries_map c.args.self.now c.args.other.now (sym c.entries.ensures ∙ c.same_items.ensures.0 h ∙ c.entries-2.ensures),
  λ e. c.same_items.ensures.1 (c.entries.ensures ∙ ap entries e ∙ sym c.entries-2.ensures),
)
