use Rattle.std.proofs.Common.{◌≡◌, map, take}
use Rattle.lp_rows.specs.Entries.{column_cost}
use Rattle.lp_rows.proofs.program.all_costs.Given as goal

abbrev pub invariant-loop-column : goal.invariant-loop-column
invariant-loop-column l = l.costs.items ≡ map (column_cost l.tables) (take l.column-index l.columns)
