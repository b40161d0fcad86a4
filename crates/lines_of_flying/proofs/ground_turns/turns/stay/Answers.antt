use Rattle.std.proofs.Common.{arith}
use Rattle.fleet_model.proofs.PeriodMinutes.{days_are_period, few_days}
use Rattle.lines_of_flying.proofs.ground_turns.turns.stay.Goals as goal

pub overflow_add-result-2 : goal.overflow_add-result-2
overflow_add-result-2 c =
    omega (arith, c.fleet.ensures.fits.turn, c.station-station.ensures.fits.extra, c.wait.ensures.within, days_are_period c.args.tables.now, few_days c.args.tables.now)
