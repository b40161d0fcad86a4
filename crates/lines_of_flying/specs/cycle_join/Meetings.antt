-- Cycles of a fitting map, and where turns of two of them touch one minute.
use Rattle.std.specs.Prelude.{◌≡◌, ◌≢◌, ℕ, ◌<◌, Bool, true, false, ◌==◌, ◌&&◌, ◌||◌, nat_lt, List, length}
use Rattle.fleet_model.specs.declared.parts.Connection.{Connection}
use Rattle.fleet_model.specs.declared.tables.Tables.{Tables}
use Rattle.fleet_model.specs.Counts.{choice_at}
use Rattle.fleet_model.specs.Legal.{IsAssignment}
use Rattle.fleet_model.specs.Schedule.{fleets_in, legs_in}
use Rattle.lines_of_flying.specs.ground_turns.Maps.{Holds, IsFitting, arrivals_of, turn_at}
use Rattle.lines_of_flying.specs.ground_turns.Turns.{ready_at, station_at, touches}
use Rattle.lines_of_flying.specs.Grounds.{AreMarks}
use Rattle.lines_of_flying.specs.cycle_join.Labels.{AreLabels, AreLinked, label_of}
use Rattle.lines_of_flying.specs.declared.cycle_join.cycles.Cycles.{Cycles}
use Rattle.lines_of_flying.specs.declared.cycle_join.ground.Ground.{Ground}

-- by leg, whether it arrives in none of the pairs
pub record IsMeetingGround (g : Ground) : Type 0 where
  pub plan : IsAssignment g.tables.now g.plan.now
  pub fleet : g.fleet < fleets_in g.tables.now
  pub free : AreMarks (arrivals_of g.pairs.now) (legs_in g.tables.now) g.free.items

-- no given pair says what follows the landing of a turn
abbrev pub is_free : Ground → Connection → Bool
is_free g turn = arrivals_of g.pairs.now turn.arriving == 0

-- a fitting map that holds the pairs, with the labels of its cycles
pub record AreCycles (g : Ground) (c : Cycles) : Type 0 where
  pub fitting : IsFitting g.tables.now g.plan.now g.fleet c.turns.items
  pub holds : Holds c.turns.items g.pairs.now
  pub labels : AreLabels c.labels.items (legs_in g.tables.now)
  pub cycles : AreLinked c.turns.items c.labels.items (length c.turns.items)

-- Two turns share a minute: one of them touches the ready minute of the other. Where both touch a minute, whichever
-- aircraft was ready later was so while the other waited.
unfoldable pub share_minute : Tables → ℕ → Connection → Connection → Bool
share_minute t f turn other = touches t f turn (ready_at t f other) || touches t f other (ready_at t f turn)

-- a turn and one of a cycle with a lower label, neither of a given pair, that touch one minute at one station
abbrev pub meets_cycle : Tables → ℕ → List Connection → List ℕ → Connection → Connection → Bool
meets_cycle t f pairs labels turn other =
    nat_lt (label_of labels other.arriving) (label_of labels turn.arriving) && (arrivals_of pairs turn.arriving == 0) && (arrivals_of pairs other.arriving == 0)
    && (station_at t turn == station_at t other) && share_minute t f turn other

abbrev pub meet : Ground → Cycles → ℕ → ℕ → Bool
meet g c i j = meets_cycle g.tables.now g.fleet g.pairs.now c.labels.items (turn_at c.turns.items i) (turn_at c.turns.items j)

-- the turn meets_cycle none of a lower label
pub record MeetsNone (g : Ground) (c : Cycles) (i : ℕ) : Type 0 where
  pub each : (j : ℕ) → j < length c.turns.items → meet g c i j ≡ false

-- it meets_cycle this one
pub record Meets (g : Ground) (c : Cycles) (i j : ℕ) : Type 0 where
  pub within : j < length c.turns.items
  pub meeting : meet g c i j ≡ true

-- no turn meets_cycle another: no two cycles touch
pub record AreCyclesApart (g : Ground) (c : Cycles) : Type 0 where
  pub each : (i : ℕ) → i < length c.turns.items → MeetsNone g c i

-- all the fleet's legs have the label of the first, or one has another
pub record HasOneLabel (g : Ground) (c : Cycles) (first : ℕ) : Type 0 where
  pub each : (l : ℕ) → l < legs_in g.tables.now → choice_at g.plan.now l ≡ g.fleet → label_of c.labels.items l ≡ label_of c.labels.items first

pub record HasOtherLabel (g : Ground) (c : Cycles) (first : ℕ) : Type 0 where
  pub leg : ℕ
  pub known : leg < legs_in g.tables.now
  pub flown : choice_at g.plan.now leg ≡ g.fleet
  pub other : label_of c.labels.items leg ≢ label_of c.labels.items first
