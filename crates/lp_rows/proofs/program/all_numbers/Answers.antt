use Rattle.std.proofs.Common.{◌∙◌}
use Rattle.lp_rows.specs.Layout.{starts_in}
use Rattle.lp_rows.specs.Program.{line_numbers}
use Rattle.lp_rows.proofs.ListsBehind.{all_values, one_value_more}
use Rattle.lp_rows.proofs.program.all_numbers.Goals as goal

pub loop-line-preserved : goal.loop-line-preserved
loop-line-preserved c = (
  one_value_more (line_numbers c.args.tables.now (starts_in c.args.network.now) c.args.columns.now) c.args.lines.now _ c.loop-line.rows.items c.push.new.self.items c.loop-line.line-index _ c.loop-line-test.true
      c.loop-line.invariant.0 c.in_ok-push.ensures.items (c.from_row.ensures ∙ c.in_ok-numbers.ensures),
  c.in_ok-met-2.ensures.columns,
)

pub returns : goal.returns
returns c =
    c.from_vec.ensures ∙ all_values (line_numbers c.args.tables.now (starts_in c.args.network.now) c.args.columns.now) c.args.lines.now c.loop-line.rows.items c.loop-line.line-index c.loop-line-test.false c.loop-line.invariant.0
