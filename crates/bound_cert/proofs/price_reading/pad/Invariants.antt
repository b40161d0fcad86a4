use Rattle.std.proofs.Common.{◌≡◌, ◌++◌, replicate, pos}
use Rattle.bound_cert.proofs.price_reading.pad.Given as goal

-- a 0 for each fleet so far
abbrev pub invariant-loop-fleet : goal.invariant-loop-fleet
invariant-loop-fleet l = l.rents.items ≡ l.initial.rents.items ++ replicate l._fleet (pos 0)
