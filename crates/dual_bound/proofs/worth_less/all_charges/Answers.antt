use Rattle.std.proofs.Common.{◌*◌, ◌∙◌, arith}
use Rattle.std.proofs.lemmas.Int.{ints}
use Rattle.dual_bound.specs.Worth.{charges_of}
use Rattle.dual_bound.proofs.Numbers.{added, one_more}
use Rattle.dual_bound.proofs.worth_less.all_charges.Goals as goal

pub loop-station-preserved : goal.loop-station-preserved
loop-station-preserved c = record {
  added = added (70000 * c.loop-station.station) 70000 _ _ _ _ c.loop-station.invariant.size c.station_charges-sum.ensures.size (omega arith) c.loop-station.invariant.added c.station_charges-sum.ensures.value
      ∙ one_more (charges_of c.args.tables.now c.args.prices.now) c.loop-station.station;
  size = record { no_less = omega (arith, ints, c.station_charges-sum.ensures.size); no_more = omega (arith, ints, c.station_charges-sum.ensures.size) };
}
