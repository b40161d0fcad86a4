use Rattle.std.proofs.Common.{length, ap, arith}
use Rattle.fleet_model.specs.Kept.{kept_by}
use Rattle.lp_rows.specs.Layout.{starts_in}
use Rattle.lp_rows.proofs.Outlines.{are_rows, columns_are, columns_known, lines_known}
use Rattle.lp_rows.proofs.Totals.{few_columns}
use Rattle.lp_rows.proofs.Problems.{is_problem}
use Rattle.lp_rows.proofs.Together.{are_lines}
use Rattle.lp_rows.proofs.program.Program.new.Goals as goal

pub outlined_rows-requires-clause-columns : goal.outlined_rows-requires-clause-columns
outlined_rows-requires-clause-columns c = columns_known c.args.tables.now (kept_by c.args.kept.now) _ c.in_ok-outline.ensures

pub outlined_rows-requires-clause-lines : goal.outlined_rows-requires-clause-lines
outlined_rows-requires-clause-lines c = lines_known c.args.tables.now (kept_by c.args.kept.now) _ c.in_ok-outline.ensures

pub returns-clause-rows : goal.returns-clause-rows
returns-clause-rows c = are_rows c.args.tables.now (kept_by c.args.kept.now) _ c.in_ok-outline.ensures _ c.in_ok-rows.ensures

pub returns-clause-lines : goal.returns-clause-lines
returns-clause-lines c = are_lines c.args.tables.now (kept_by c.args.kept.now) (starts_in c.in_ok-outline.outline.network) _ (returns-clause-rows c)

pub returns-clause-problem : goal.returns-clause-problem
returns-clause-problem c =
    is_problem c.args.tables.now (kept_by c.args.kept.now) (starts_in c.in_ok-outline.outline.network) _ (returns-clause-rows c) (record { each = c.in_ok-outline.ensures.over.shape.few })

pub outlined_rows-requires-clause-few : goal.outlined_rows-requires-clause-few
outlined_rows-requires-clause-few c =
    let same = ap length (columns_are c.args.tables.now (kept_by c.args.kept.now) _ c.in_ok-outline.ensures) in
    omega (arith, same, few_columns c.args.tables.now (kept_by c.args.kept.now) (starts_in c.in_ok-outline.outline.network) (record { each = c.in_ok-outline.ensures.over.shape.few }))
