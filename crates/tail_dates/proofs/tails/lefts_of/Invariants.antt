use Rattle.std.proofs.Common.{◌≡◌, take}
use Rattle.tail_dates.specs.Late.{AreLessThan}
use Rattle.tail_dates.specs.Placing.{lefts_of}
use Rattle.tail_dates.proofs.tails.lefts_of.Given as goal

abbrev pub invariant-loop-place : goal.invariant-loop-place
invariant-loop-place l = record {
  value : l.lefts.items ≡ lefts_of l.fleet (take l.place l.tails);
  few : AreLessThan 256 l.lefts.items;
}
