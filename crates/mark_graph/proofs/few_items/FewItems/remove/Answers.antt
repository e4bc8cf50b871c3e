use Rattle.std.proofs.Common.{sym, ◌∙◌}
use Rattle.mark_graph.proofs.Items.{none_left}
use Rattle.mark_graph.proofs.few_items.FewItems.remove.Goals as goal

pub returns-in-InPlace : goal.returns-in-InPlace
returns-in-InPlace g c =
    let within = rw c.in-InPlace.is at c.requires in
    rw c.in-InPlace.is (c.new.ensures ∙ sym (none_left c.in-InPlace.field-1 c.args.at within))
