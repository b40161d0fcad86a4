-- The first refusals, as the functions that look for them find them.
use Rattle.std.specs.Prelude.{◌≡◌, ◌≢◌, ℕ, ◌<◌, List}
use Rattle.fleet_model.specs.declared.tables.Tables.{Tables}
use Rattle.fleet_model.specs.Counts.{arrived, departed, weights_of}
use Rattle.fleet_model.specs.Schedule.{last_of, stations_in}
use Rattle.plan_judge.specs.declared.balance.Imbalance.{Imbalance}
use Rattle.plan_judge.specs.Verdicts.{Balances, FirstUnbalanced}

abbrev pub IsFirstUnbalanced : Tables → List ℕ → Imbalance → Type 0
IsFirstUnbalanced t a found = FirstUnbalanced t a found.fleet found.station found.came found.left

-- the first station at which a fleet does not balance
pub record FirstAtFleet (t : Tables) (a : List ℕ) (fleet : ℕ) (found : Imbalance) : Type 0 where
  pub same_fleet : found.fleet ≡ fleet
  pub within : found.station < stations_in t
  pub came_there : found.came ≡ arrived t (weights_of a) fleet found.station (last_of t)
  pub left_there : found.left ≡ departed t (weights_of a) fleet found.station (last_of t)
  pub differ : found.came ≢ found.left
  pub first : (s : ℕ) → s < found.station → Balances t a fleet s
