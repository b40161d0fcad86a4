-- The chosen pairs are worth most, and no pairs are held by some map.
use Rattle.std.proofs.Common.{◌≡◌, ℕ, ◌<◌, List, [], ℤ, ◌+ℤ◌, ◌≤ℤ◌, ◌∙◌, subst}
use Rattle.fleet_model.specs.declared.parts.Connection.{Connection}
use Rattle.fleet_model.specs.declared.tables.Tables.{Tables}
use Rattle.fleet_model.specs.Legal.{IsLegal}
use Rattle.fleet_model.specs.Schedule.{fleets_in, legs_in}
use Rattle.fleet_model.specs.Plain.{IsPlain}
use Rattle.lines_of_flying.specs.ground_turns.Maps.{IsHeldByMap}
use Rattle.lines_of_flying.specs.ground_turns.Throughs.{IsThroughSet, value_of_set}
use Rattle.lines_of_flying.proofs.ground_turns.SomeMap.{some_fits}
use Rattle.plan_rotations.specs.through_flights.Choice.{AreThroughsListed, ReachTurns, sum_of}
use Rattle.plan_rotations.proofs.through_flights.NoneMore.{none_more}
use Rattle.plan_rotations.specs.Rotations.{AreWorthMost}

-- what was chosen, with the numbers that show it
pub record AreChosen (t : Tables) (a : List ℕ) (f : ℕ) (pairs : List Connection) (value : ℤ) (u v : List ℤ) : Type 0 where
  pub through_set : IsThroughSet t a f pairs
  pub listed : AreThroughsListed t pairs
  pub value_is : value ≡ value_of_set t pairs
  pub reach : ReachTurns t a f u v
  pub sums : (sum_of u (legs_in t) +ℤ sum_of v (legs_in t)) ≡ value

pub worth_most : (t : Tables) (a : List ℕ) (f : ℕ) (pairs : List Connection) (value : ℤ) (u v : List ℤ) → AreChosen t a f pairs value u v → AreWorthMost t a f pairs
worth_most t a f pairs value u v chosen = record {
  through_set = chosen.through_set;
  most = λ other set. subst (λ total. value_of_set t other ≤ℤ total) (chosen.sums ∙ chosen.value_is) (none_more t a f u v other chosen.reach set);
  listed = chosen.listed;
}

pub held_without : (t : Tables) (a : List ℕ) (f : ℕ) → IsPlain t → IsLegal t a → f < fleets_in t → IsHeldByMap t a f []
held_without t a f plain legal known = some_fits t a f plain legal.balanced known
