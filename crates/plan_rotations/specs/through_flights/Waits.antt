-- How long the aircraft of a landing can wait in a clean turn.
use Rattle.std.specs.Prelude.{◌≡◌, ℕ, ◌<◌, ◌≤◌, List, length, slice_index}
use Rattle.fleet_model.specs.declared.parts.Connection.{Connection}
use Rattle.fleet_model.specs.declared.tables.Tables.{Tables}
use Rattle.fleet_model.specs.Schedule.{legs_in}
use Rattle.lines_of_flying.specs.ground_turns.Turns.{IsClean, wait_of}

-- a turn from the leg is clean exactly where the wait is no longer
pub record IsLongestWait (t : Tables) (a : List ℕ) (f leg longest : ℕ) : Type 0 where
  pub clean : (pair : Connection) → pair.arriving ≡ leg → wait_of t f pair ≤ longest → IsClean t a f pair
  pub no_more : (pair : Connection) → pair.arriving ≡ leg → IsClean t a f pair → wait_of t f pair ≤ longest

-- one of each leg
pub record AreLongestWaits (t : Tables) (a : List ℕ) (f : ℕ) (longest : List ℕ) : Type 0 where
  pub size : length longest ≡ legs_in t
  pub each : (leg : ℕ) → leg < legs_in t → IsLongestWait t a f leg (slice_index longest leg)
