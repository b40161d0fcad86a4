-- The laws of prefixes, as statements: what their tests tell.
use Rattle.std.specs.Prelude.{ℕ, ◌<◌, ◌↔◌, IsTrue, List}
use Rattle.fleet_model.specs.declared.parts.Connection.{Connection}
use Rattle.fleet_model.specs.declared.tables.Tables.{Tables}
use Rattle.lines_of_flying.specs.ground_turns.Turns.{IsClean}
use Rattle.lines_of_flying.specs.declared.ground_turns.nights.Night.{Night}
use Rattle.euler_rotation.specs.Often.{MaintainedOften, stays_below}
use Rattle.euler_rotation.specs.Prefixes.{is_clean}

-- nights stay below so many days exactly where of any so many one after another one is for maintenance
abbrev pub BelowIsOften : Type 0
BelowIsOften = (t : Tables) (days : ℕ) (nights : List Night) → 0 < days → (IsTrue (stays_below t days 0 nights) ↔ MaintainedOften t nights days)

-- a turn passes exactly where it is clean
abbrev pub TestedIsClean : Type 0
TestedIsClean = (t : Tables) (a : List ℕ) (f : ℕ) (turn : Connection) → (IsTrue (is_clean t a f turn) ↔ IsClean t a f turn)
