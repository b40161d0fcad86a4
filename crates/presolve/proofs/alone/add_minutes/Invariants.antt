use Rattle.presolve.proofs.MinuteCounts.{HaveBusy}
use Rattle.presolve.proofs.alone.add_minutes.Given as goal

-- below this minute the pair's fleet has more, and all else is as it was
abbrev pub invariant-loop-minute : goal.invariant-loop-minute
invariant-loop-minute l = HaveBusy l.tables l.pair l.fleet l.minute l.fn.cells.items l.cells.items
