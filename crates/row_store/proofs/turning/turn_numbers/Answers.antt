use Rattle.std.proofs.Common.{arith}
use Rattle.row_store.proofs.Turns.{all_turned}
use Rattle.row_store.proofs.turning.turn_numbers.Goals as goal
use Rattle.sums.proofs.Places.{filled_none}

pub returns : goal.returns
returns c = all_turned c.args.numbers.now c.loop-column.numbers c.loop-column.column c.loop-column.invariant (omega arith)

pub loop-column-init : goal.loop-column-init
loop-column-init c = filled_none _ _ _
