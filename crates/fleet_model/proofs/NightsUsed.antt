-- A period of one day: the aircraft that a fleet uses by its needs and its legs' nights.
use Rattle.std.proofs.Common.{◌+◌, if◌then◌else◌, ◌==◌, sym, ◌∙◌, ap}
use Rattle.sums.specs.Below.{sum_below}
use Rattle.sums.proofs.Sums.{sum_below-agree}
use Rattle.fleet_model.specs.Counts.{pair_at, weights_of}
use Rattle.fleet_model.specs.Laws.{LapsAreNights, UseIsNeedAndNights, night_of_fleet}
use Rattle.fleet_model.specs.Schedule.{fleet_by, legs_in, stations_in}
use Rattle.fleet_model.specs.Times.{laps_of}
use Rattle.fleet_model.specs.Use.{laps_flown, need_of, used_of}
use Rattle.fleet_model.proofs.Choices.{planned}
use Rattle.fleet_model.proofs.PeriodMinutes.{departs_in, nights_are_laps}

pub laps_are_nights : LapsAreNights
laps_are_nights t p one known = sym (nights_are_laps t p one (departs_in t p known))

pub use_is_need_and_nights : UseIsNeedAndNights
unfolding used_of laps_flown
use_is_need_and_nights t a f one assignment known = ap (λ n. sum_below (need_of t (weights_of a) f) (stations_in t) + n)
    (planned t a f assignment known (laps_of t)
    ∙ sum_below-agree (λ l. if fleet_by t (pair_at a l) == f then laps_of t (pair_at a l) else 0) (night_of_fleet t a f) (legs_in t)
    (record { each = λ l below. ap (λ n. if fleet_by t (pair_at a l) == f then n else 0) (sym (nights_are_laps t (pair_at a l) one (departs_in t (pair_at a l) (record { leg = below; choice = assignment.known l below })))) }))
