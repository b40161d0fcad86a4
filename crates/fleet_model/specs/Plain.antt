-- Tables on which each leg departs at its one time, so that a departure is its leg, and a fleet flies a leg by the choice
-- that has the fleet's number.
use Rattle.std.specs.Prelude.{◌≡◌, ℕ, ◌<◌}
use Rattle.fleet_model.specs.declared.tables.Tables.{Tables}
use Rattle.fleet_model.specs.Schedule.{legs_in, shifts_in}

unfoldable pub IsPlain : Tables → Type 0
IsPlain t = (l : ℕ) → l < legs_in t → shifts_in t l ≡ 1
