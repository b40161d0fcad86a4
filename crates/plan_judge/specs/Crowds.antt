-- The first station, and there the first day, at whose end more aircraft stand than may, as the functions that look for it
-- find it.
use Rattle.std.specs.Prelude.{◌≡◌, ℕ, ◌<◌, ◌≤◌, List}
use Rattle.fleet_model.specs.declared.tables.Tables.{Tables}
use Rattle.fleet_model.specs.Counts.{weights_of}
use Rattle.fleet_model.specs.Schedule.{days_in}
use Rattle.fleet_model.specs.Use.{parked}
use Rattle.plan_judge.specs.declared.crowds.Crowd.{Crowd}
use Rattle.plan_judge.specs.Verdicts.{FirstCrowded}

abbrev pub IsFirstCrowded : Tables → List ℕ → Crowd → Type 0
IsFirstCrowded t a found = FirstCrowded t a found.station found.day found.parked found.cap

-- at the end of each of the first days no more than so many aircraft stand at the station
abbrev pub HasRoomUntil : Tables → List ℕ → ℕ → ℕ → ℕ → Type 0
HasRoomUntil t a station cap days = (d : ℕ) → 0 < d → d ≤ days → parked t (weights_of a) station d ≤ cap

-- .. of each day
abbrev pub HasRoomAt : Tables → List ℕ → ℕ → ℕ → Type 0
HasRoomAt t a station cap = HasRoomUntil t a station cap (days_in t)

-- the first day at whose end more than so many stand there
pub record IsFirstDay (t : Tables) (a : List ℕ) (station cap : ℕ) (found : Crowd) : Type 0 where
  pub at : found.station ≡ station
  pub of : found.cap ≡ cap
  pub some : 0 < found.day
  pub within : found.day ≤ days_in t
  pub stands : found.parked ≡ parked t (weights_of a) station found.day
  pub crowded : cap < found.parked
  pub first : (d : ℕ) → 0 < d → d < found.day → parked t (weights_of a) station d ≤ cap
