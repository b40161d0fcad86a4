use Rattle.std.proofs.Common.{◌∙◌, ◌*◌, ap, replicate}
use Rattle.fleet_model.specs.Schedule.{fleets_in}
use Rattle.presolve.specs.declared.cells.TheConstants.{CELL_WIDTH}
use Rattle.presolve.proofs.CellLaws.{zeros_are}
use Rattle.presolve.proofs.cells.zeros.Goals as goal

pub returns : goal.returns
returns c = zeros_are _ (fleets_in c.args.tables.now) (c.in_ok-vec.ensures.items_if_clones_equal (λ y h. h) ∙ ap (λ n. replicate (n * CELL_WIDTH) 0) c.fleet_count.ensures)
