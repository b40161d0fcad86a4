-- Legs that go on in clean turns make a fitting map.
use Rattle.std.proofs.Common.{◌≡◌, ℕ, ◌<◌, ◌==◌, List, length, refl, ◌∙◌, ap}
use Rattle.std.proofs.lemmas.Bool.{eqb-true}
use Rattle.sums.proofs.Naturals.{one_is_some}
use Rattle.fleet_model.specs.declared.parts.Connection.{Connection}
use Rattle.fleet_model.specs.declared.tables.Tables.{Tables}
use Rattle.fleet_model.specs.Counts.{choice_at}
use Rattle.fleet_model.specs.Schedule.{legs_in}
use Rattle.lines_of_flying.specs.ground_turns.Maps.{AreClean, HasTurn, IsFitting, IsSuccessorMap, arrivals_of, turn_at, turns_by}
use Rattle.lines_of_flying.specs.ground_turns.Turns.{IsClean}
use Rattle.lines_of_flying.proofs.ground_turns.Fits.{fits_where_clean}
use Rattle.lines_of_flying.proofs.ground_turns.FleetTurns.{each_turn, next_is_map}
use Rattle.lines_of_flying.proofs.ground_turns.Totals.{some_counted}
use Rattle.plan_rotations.specs.through_flights.Worths.{through_pair}
use Rattle.plan_rotations.proofs.through_flights.Followers.{AreFollowers, weight_one}

module _ (t : Tables) (a : List ℕ) (f : ℕ) (next : ℕ → ℕ) (known : AreFollowers t a f next) where
  pub turns : List Connection
  turns = turns_by a f next (legs_in t)

  map : IsSuccessorMap t a f turns
  unfolding turns
  map = next_is_map t a f next known.plain (record {
    turn = λ l lt own. ((known.each l lt).own own).turn;
    once = λ l k l_lt k_lt _ _ same. known.one_to_one.distinct l k l_lt k_lt same;
  })

  clean : AreClean t a f turns
  unfolding turns
  clean = record { each = each_turn a f next (IsClean t a f) (legs_in t) (λ l lt own. ((known.each l lt).own own).clean) }

  pub fitting : IsFitting t a f turns
  fitting = (fits_where_clean t a f turns map).1 clean

  goes_by_next : (k : ℕ) → k < length turns → (turn_at turns k).departing ≡ next (turn_at turns k).arriving
  unfolding turns
  goes_by_next = each_turn a f next (λ turn. turn.departing ≡ next turn.arriving) (legs_in t) (λ l lt own. refl)

  pub has : (l : ℕ) → l < legs_in t → choice_at a l ≡ f → HasTurn turns (through_pair l (next l))
  has l lt own =
      let counted : arrivals_of turns l ≡ 1 = map.arrives l lt ∙ weight_one _ _ own in
      let found = some_counted (λ k. (turn_at turns k).arriving == l) (length turns) (one_is_some _ counted) in
      let same : (turn_at turns found.0).arriving ≡ l = eqb-true _ _ found.2 in
      record {
        place = found.0;
        within = found.1;
        there = ap (λ x. through_pair x (turn_at turns found.0).departing) same ∙ ap (through_pair l) (goes_by_next found.0 found.1 ∙ ap next same);
      }
