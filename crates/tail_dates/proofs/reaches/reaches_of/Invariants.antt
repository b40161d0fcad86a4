use Rattle.std.proofs.Common.{◌^◌}
use Rattle.tail_dates.specs.Late.{AreLessThan}
use Rattle.tail_dates.specs.Reaches.{AreReaches}
use Rattle.tail_dates.proofs.reaches.reaches_of.Given as goal

abbrev pub invariant-loop-start : goal.invariant-loop-start
invariant-loop-start l = record {
  value : AreReaches l.tables l.fleet l.tour l.day l.start l.reaches.items;
  few : AreLessThan (2 ^ 40) l.reaches.items;
}
