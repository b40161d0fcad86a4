use Rattle.lp_rows.specs.Meeting.{touched_by}
use Rattle.lp_rows.proofs.ListsBehind.{all_values, one_value_more}
use Rattle.lp_rows.proofs.meeting.all_touched.Goals as goal

pub loop-column-preserved : goal.loop-column-preserved
loop-column-preserved c =
    one_value_more (touched_by c.args.tables.now) c.args.columns.now _ c.loop-column.touched.items c.push.new.self.items c.loop-column.column-index c.touched_by.result c.loop-column-test.true
    c.loop-column.invariant c.in_ok-push.ensures.items c.touched_by.ensures

pub returns : goal.returns
returns c = all_values (touched_by c.args.tables.now) c.args.columns.now c.loop-column.touched.items c.loop-column.column-index c.loop-column-test.false c.loop-column.invariant
