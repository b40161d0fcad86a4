-- Made tables read, and may be flown by the first fleet.
use Rattle.std.proofs.Common.{◌≡◌, ◌*◌, ◌/◌, length, subst, arith}
use Rattle.fleet_model.specs.Legal.{IsLegal}
use Rattle.sums.proofs.Places.{length-list_below}
use Rattle.table_maker.specs.Laws.{MadeRead, all_on_first}
use Rattle.table_maker.specs.Made.{made_tables}
use Rattle.table_maker.specs.Trips.{spokes_for, trip_drawn, trips_drawn}
use Rattle.table_maker.proofs.AllOnFirst.{all_legal}
use Rattle.table_maker.proofs.DrawnTrips.{trips_fit}
use Rattle.table_maker.proofs.MadeSchedule.{made_schedule, schedule_reads}

pub made_read : MadeRead
unfolding made_tables
made_read number legs settings can settings_fit one =
    let count = legs / 2 in
    let trips = trips_drawn number count in
    let are = trips_fit number count (omega (arith, can.legs_few)) in
    let long : length trips ≡ count = length-list_below (trip_drawn number (spokes_for count)) count in
    let all : 2 * length trips ≡ legs = omega (arith, long, can.legs_even) in
    record {
      tables = made_schedule trips settings one are settings_fit;
      reads = schedule_reads trips settings one are settings_fit;
      legal = subst (λ m. IsLegal (made_schedule trips settings one are settings_fit) (all_on_first m)) all (all_legal trips settings one are settings_fit);
    }
