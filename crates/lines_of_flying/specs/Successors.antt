-- What successors of given pairs are.
use Rattle.std.specs.Prelude.{ℕ, ◌<◌, List, length}
use Rattle.fleet_model.specs.declared.parts.Connection.{Connection}
use Rattle.fleet_model.specs.declared.tables.Tables.{Tables}
use Rattle.lines_of_flying.specs.ground_turns.FirstOut.{AreFirstOut}
use Rattle.lines_of_flying.specs.ground_turns.Maps.{Holds, IsFitting, turn_at}

-- the turns rise by the legs that arrive
pub record RiseByArriving (turns : List Connection) : Type 0 where
  pub each : (j k : ℕ) → j < k → k < length turns → (turn_at turns j).arriving < (turn_at turns k).arriving

-- a fitting map that holds the pairs, first in, first out beside them, in the order of the legs that arrive
pub record AreSuccessors (t : Tables) (a : List ℕ) (f : ℕ) (pairs turns : List Connection) : Type 0 where
  pub fitting : IsFitting t a f turns
  pub holds : Holds turns pairs
  pub first_out : AreFirstOut t a f pairs turns
  pub order : RiseByArriving turns
