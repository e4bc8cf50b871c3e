use Rattle.server_index.proofs.Listing.{all_listed, one_mark_more}
use Rattle.server_index.proofs.change_notes.concerns_of.Goals as goal

pub loop-mark-preserved : goal.loop-mark-preserved
loop-mark-preserved c = λ held right.
    one_mark_more held c.args.changed.now c.loop-mark.mark-index c.mark-item.result c.loop-mark.listed.items c.add_mark.new.listed.items c.loop-mark-test.true c.mark-item.is
    (c.loop-mark.invariant held right) (c.in_ok-add_mark.ensures c.if-not-branch.false held right)

pub returns : goal.returns
returns c = λ held right. all_listed held c.args.changed.now c.loop-mark.mark-index c.loop-mark.listed.items c.loop-mark-test.false (c.loop-mark.invariant held right)
