use Rattle.std.proofs.Common.{◌≡◌, take}
use Rattle.tail_dates.specs.Places.{told_numbers}
use Rattle.tail_dates.specs.Placing.{ats_of}
use Rattle.tail_dates.proofs.tails.told_of.Given as goal

abbrev pub invariant-loop-place : goal.invariant-loop-place
invariant-loop-place l = l.told.items ≡ told_numbers l.tables (ats_of l.fleet (take l.place l.tails))
