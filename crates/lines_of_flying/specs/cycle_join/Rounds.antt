-- Going from leg to leg by the turns of a map, and round.
use Rattle.std.specs.Prelude.{◌≡◌, ◌≢◌, ℕ, suc, ◌-◌, ◌<◌, List, length, slice_index}
use Rattle.fleet_model.specs.declared.parts.Connection.{Connection}
use Rattle.lines_of_flying.specs.ground_turns.Maps.{HasTurn}

-- a turn from a leg to another
abbrev pub turn_between : ℕ → ℕ → Connection
turn_between l q = record { arriving = l; departing = q }

abbrev pub final_leg : List ℕ → ℕ
final_leg legs = slice_index legs (length legs - 1)

-- legs from the first on, each followed by the next in the map, none twice
pub record IsPath (turns : List Connection) (first : ℕ) (legs : List ℕ) : Type 0 where
  pub some : 0 < length legs
  pub begins : slice_index legs 0 ≡ first
  pub steps : (k : ℕ) → suc k < length legs → HasTurn turns (turn_between (slice_index legs k) (slice_index legs (suc k)))
  pub once : (j k : ℕ) → j < k → k < length legs → slice_index legs j ≢ slice_index legs k

-- and from the last to the first
pub record IsRound (turns : List Connection) (first : ℕ) (legs : List ℕ) : Type 0 where
  pub path : IsPath turns first legs
  pub closes : HasTurn turns (turn_between (final_leg legs) first)
