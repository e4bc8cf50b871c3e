use Rattle.mark_rules.specs.Reads.{reads}
use Rattle.mark_tests.proofs.QueryMarks.{one_row_more}
use Rattle.mark_tests.proofs.queries.add_rows.Goals as goal

pub loop-row-preserved : goal.loop-row-preserved
loop-row-preserved g c live =
    one_row_more (reads c.args.reader.now.config.now c.args.reader.now.store.now.objects) c.args.rows.now c.loop-row.row-index c.row-item.result c.args.marks.now.items c.loop-row.marks.items c.add_row.new.marks.items
    c.loop-row-test.true c.row-item.is (c.loop-row.invariant live) (c.in_ok-add_row.ensures live)
