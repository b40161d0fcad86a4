use Rattle.std.proofs.Common.{arith}
use Rattle.sums.proofs.Places.{filled_all}
use Rattle.frac_row.proofs.Turned.{all_turned}
use Rattle.frac_row.proofs.turning.turn_entries.Goals as goal

pub returns : goal.returns
returns c = all_turned _ _ (filled_all _ _ _ _ _ c.loop-place.invariant (omega arith))
