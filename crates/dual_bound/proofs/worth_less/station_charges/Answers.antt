use Rattle.std.proofs.Common.{◌+◌, ◌*◌, pos, ◌*ℤ◌, ◌∙◌, arith}
use Rattle.std.proofs.lemmas.Int.{ints}
use Rattle.fleet_model.specs.Schedule.{parking_limit}
use Rattle.dual_bound.specs.Prices.{charge_of}
use Rattle.dual_bound.proofs.Numbers.{added, one_more}
use Rattle.dual_bound.proofs.worth_less.station_charges.Goals as goal

pub loop-day-preserved : goal.loop-day-preserved
loop-day-preserved c = record {
  added = added (10000 * c.loop-day.day) 10000 _ _ _ _ c.loop-day.invariant.size c.day_charges-sum.ensures.size (omega arith) c.loop-day.invariant.added c.day_charges-sum.ensures.value
      ∙ one_more (λ d. charge_of c.args.prices.now c.args.station (d + 1) *ℤ pos (parking_limit c.args.tables.now c.args.station)) c.loop-day.day;
  size = record { no_less = omega (arith, ints, c.day_charges-sum.ensures.size); no_more = omega (arith, ints, c.day_charges-sum.ensures.size) };
}
