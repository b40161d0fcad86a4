use Rattle.std.proofs.Common.{◌≡◌, ◌++◌, replicate}
use Rattle.tail_dates.proofs.reaches.push_same.Given as goal

abbrev pub invariant-loop : goal.invariant-loop
invariant-loop g l = l.list.items ≡ l.fn.list.items ++ replicate l.counter l.entry
