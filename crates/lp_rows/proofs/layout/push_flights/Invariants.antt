use Rattle.std.proofs.Common.{◌≡◌, ◌++◌, map, take}
use Rattle.lp_rows.specs.declared.kinds.Column.TheVariants.{Flight}
use Rattle.lp_rows.proofs.layout.push_flights.Given as goal

abbrev pub invariant-loop-pair : goal.invariant-loop-pair
invariant-loop-pair l = l.columns.items ≡ l.fn.columns.items ++ map Flight (take l.pair-index l.pairs)
