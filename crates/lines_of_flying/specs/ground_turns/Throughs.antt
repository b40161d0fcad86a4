-- Through pairs that can be flown, and through sets.
use Rattle.std.specs.Prelude.{◌≡◌, ◌≢◌, ℕ, ◌<◌, ◌≤◌, Bool, ◌==◌, ◌&&◌, if◌then◌else◌, List, [], ◌∷◌, length, Option, Some, None, IsSome, unwrap_or, ℤ, pos}
use Rattle.sums.specs.Below.{sum_below_ℤ}
use Rattle.fleet_model.specs.declared.parts.Connection.{Connection}
use Rattle.fleet_model.specs.declared.parts.Through.{Through}
use Rattle.fleet_model.specs.declared.tables.Tables.{Tables}
use Rattle.lines_of_flying.specs.ground_turns.Maps.{IsHeldByMap, turn_at}
use Rattle.lines_of_flying.specs.ground_turns.Turns.{IsClean, IsTurn, nights_waited, wait_of}

-- the entry is of these two legs
abbrev pub is_through_of : Connection → Through → Bool
is_through_of pair entry = (entry.arriving == pair.arriving) && (entry.departing == pair.departing)

-- what the first entry of these two legs is worth, and nothing where there is none
abbrev pub through_value_in : List Through → Connection → Option ℤ
through_value_in [] pair = None
through_value_in (entry ∷ entries) pair = if is_through_of pair entry then Some entry.value else through_value_in entries pair

-- what a through pair of the tables is worth
abbrev pub through_value : Tables → Connection → Option ℤ
through_value t pair = through_value_in t.throughs pair

-- a through pair of the tables that the fleet can fly by the assignment: a clean turn, not too long, with no night
pub record IsThroughTurn (t : Tables) (a : List ℕ) (f : ℕ) (pair : Connection) : Type 0 where
  pub listed : IsSome (through_value t pair)
  pub turn : IsTurn t a f pair
  pub clean : IsClean t a f pair
  pub no_night : nights_waited t f pair ≡ 0
  pub short : wait_of t f pair ≤ t.settings.through_max

-- no leg arrives twice, and none departs twice
pub record AreApart (pairs : List Connection) : Type 0 where
  pub arriving : (j k : ℕ) → j < k → k < length pairs → (turn_at pairs j).arriving ≢ (turn_at pairs k).arriving
  pub departing : (j k : ℕ) → j < k → k < length pairs → (turn_at pairs j).departing ≢ (turn_at pairs k).departing

-- through pairs that some fitting map of the fleet holds
pub record IsThroughSet (t : Tables) (a : List ℕ) (f : ℕ) (pairs : List Connection) : Type 0 where
  pub each : (k : ℕ) → k < length pairs → IsThroughTurn t a f (turn_at pairs k)
  pub apart : AreApart pairs
  pub held : IsHeldByMap t a f pairs

-- what they are worth, added up
abbrev pub through_worth_at : Tables → List Connection → ℕ → ℤ
through_worth_at t pairs k = unwrap_or (through_value t (turn_at pairs k)) (pos 0)

unfoldable pub value_of_set : Tables → List Connection → ℤ
value_of_set t pairs = sum_below_ℤ (through_worth_at t pairs) (length pairs)
