-- Tables that may have islands: of one day, without limits at night, whose legs depart once and are all flown.
use Rattle.std.specs.Prelude.{ℕ, ◌==◌, ◌&&◌, Bool, is_some}
use Rattle.sums.specs.Below.{count_below, sum_below}
use Rattle.fleet_model.specs.declared.tables.Tables.{Tables}
use Rattle.fleet_model.specs.LeftOut.{left_out_on}
use Rattle.fleet_model.specs.Schedule.{days_in, departures_in, legs_in, parking_of, stations_in}

-- at how many stations only so many aircraft may stand at a day's end
unfoldable pub limits_in : Tables → ℕ
limits_in t = count_below (λ s. is_some (parking_of t s)) (stations_in t)

-- by how many choices all legs may be left out
unfoldable pub choices_left_out : Tables → ℕ
choices_left_out t = sum_below (left_out_on t) (legs_in t)

-- the period is one day, each leg departs once, no station has a limit, and no leg may be left out
unfoldable pub is_plain_day : Tables → Bool
is_plain_day t = (days_in t == 1) && (departures_in t == legs_in t) && (limits_in t == 0) && (choices_left_out t == 0)
