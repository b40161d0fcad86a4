use Rattle.std.proofs.Common.{◌≡◌, ◌<◌, rules, arith}
use Rattle.fleet_model.specs.Kept.{kept_by}
use Rattle.fleet_model.specs.Schedule.{fleets_in}
use Rattle.presolve.specs.Choices.{all_busy_alone}
use Rattle.presolve.specs.declared.cells.TheConstants.{CELL_WIDTH}
use Rattle.presolve.proofs.AloneLaws.{few_alone}
use Rattle.presolve.proofs.CellLaws.{few_minutes, within_cells}
use Rattle.presolve.proofs.first_rule.alone.Goals as goal

pub cell-requires-clause-within : goal.cell-requires-clause-within
cell-requires-clause-within c =
    let early : c.args.minute < CELL_WIDTH = omega (arith, few_minutes c.args.tables.now, c.requires.minute) in
    omega (arith, within_cells (fleets_in c.args.tables.now) c.args.fleet c.args.minute c.requires.fleet early, c.requires.choices.busy_width)

pub returns-clause-few : goal.returns-clause-few
returns-clause-few c =
    let value : c.cell.result ≡ all_busy_alone c.args.tables.now (kept_by c.args.choices.now.kept) c.args.fleet c.args.minute = search rules in
    omega (arith, value, few_alone c.args.tables.now (kept_by c.args.choices.now.kept) c.args.fleet c.args.minute)
