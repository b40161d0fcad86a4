-- The aircraft that a pair keeps busy are its flights under way.
use Rattle.std.proofs.Common.{◌+◌, arith}
use Rattle.fleet_model.specs.Schedule.{period_of}
use Rattle.fleet_model.specs.Times.{busy_minutes, departure, laps_of, ready_minute}
use Rattle.fleet_model.proofs.PeriodMinutes.{departs_in, in_period, lap_split, some_minutes}
use Rattle.fleet_model.proofs.Periods.{aloft_at}
use Rattle.presolve.specs.Laws.{BusyIsUnderWay}

pub busy_is_under_way : BusyIsUnderWay
busy_is_under_way t p m pair within =
    let law = aloft_at (period_of t) (departure t p) m (laps_of t p) (ready_minute t p) (departure t p + busy_minutes t p) (lap_split t p) (departs_in t p pair) within (in_period t (departure t p + busy_minutes t p)) (omega arith) (some_minutes t) in
    omega (arith, law)
