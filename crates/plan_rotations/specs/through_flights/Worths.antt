-- What the turns of a fleet are worth, as the matrix of an assignment problem. All legs of the schedule stand in it, as
-- arrivals against departures, so that they go by their numbers; those of other fleets stand at themselves.
use Rattle.std.specs.Prelude.{◌≡◌, ◌≢◌, ℕ, ◌+◌, ◌<◌, ◌≤◌, ◌⊎◌, List, length, slice_index_or, [], unwrap_or, unsigned_abs, pos}
use Rattle.fleet_model.specs.declared.parts.Connection.{Connection}
use Rattle.fleet_model.specs.declared.tables.Tables.{Tables}
use Rattle.fleet_model.specs.Counts.{choice_at}
use Rattle.fleet_model.specs.Schedule.{legs_in}
use Rattle.lines_of_flying.specs.ground_turns.Throughs.{IsThroughTurn, through_value}
use Rattle.lines_of_flying.specs.ground_turns.Turns.{IsClean, IsTurn, nights_waited, wait_of}
use Rattle.plan_rotations.specs.best_matching.Worths.{worth_at}
use Rattle.plan_rotations.specs.declared.through_flights.worths.TheConstants.{CLEAN_WORTH, MAX_VALUE}

-- what two legs are worth as a through pair, and 0 where they are none
abbrev pub listed_value : Tables → Connection → ℕ
listed_value t pair = unsigned_abs (unwrap_or (through_value t pair) (pos 0))

pub record IsCleanTurn (t : Tables) (a : List ℕ) (f : ℕ) (pair : Connection) : Type 0 where
  pub turn : IsTurn t a f pair
  pub clean : IsClean t a f pair

-- with no night in its wait, and no longer than a through pair may wait
pub record IsShort (t : Tables) (f : ℕ) (pair : Connection) : Type 0 where
  pub no_night : nights_waited t f pair ≡ 0
  pub short : wait_of t f pair ≤ t.settings.through_max

-- a leg of another fleet, at itself
pub record IsIdleLeg (a : List ℕ) (f : ℕ) (pair : Connection) : Type 0 where
  pub other : choice_at a pair.arriving ≢ f
  pub itself : pair.arriving ≡ pair.departing

-- a clean turn, or a leg of another fleet at itself, is worth so much that one of them counts for more than all through
-- values together; a through pair that can be flown is worth its value beside; all else is worth nothing
pub record IsTurnWorth (t : Tables) (a : List ℕ) (f : ℕ) (pair : Connection) (worth : ℕ) : Type 0 where
  pub clean : IsCleanTurn t a f pair → CLEAN_WORTH ≤ worth
  pub through : IsThroughTurn t a f pair → worth ≡ CLEAN_WORTH + listed_value t pair
  pub idle : IsIdleLeg a f pair → worth ≡ CLEAN_WORTH
  pub known : (worth ≡ 0) ⊎ (IsIdleLeg a f pair ⊎ IsCleanTurn t a f pair)
  pub above : CLEAN_WORTH < worth → IsThroughTurn t a f pair
  pub most : worth ≤ CLEAN_WORTH + MAX_VALUE

abbrev pub through_pair : ℕ → ℕ → Connection
through_pair arriving departing = record { arriving = arriving; departing = departing }

pub record AreTurnWorths (t : Tables) (a : List ℕ) (f : ℕ) (worths : List (List ℕ)) : Type 0 where
  pub size : length worths ≡ legs_in t
  pub square : (arriving : ℕ) → arriving < legs_in t → length (slice_index_or worths arriving []) ≡ legs_in t
  pub each : (arriving departing : ℕ) → arriving < legs_in t → departing < legs_in t → IsTurnWorth t a f (through_pair arriving departing) (worth_at worths arriving departing)
