-- The leg that follows each leg in a fitting map of the fleet, as a function of all legs.
use Rattle.std.proofs.Common.{◌≡◌, ◌≢◌, ℕ, ◌<◌, ◌==◌, Bool, true, false, if◌then◌else◌, List, length, sym, ◌∙◌, ap, subst, inl, inr, arith}
use Rattle.std.proofs.lemmas.Bool.{cases_eq, eq-eqb, eqb-true, ne_eqb}
use Rattle.std.proofs.lemmas.Bool.Decides.{nat_tests}
use Rattle.sums.proofs.Counts.{count_below-one}
use Rattle.sums.proofs.Naturals.{one_is_some}
use Rattle.plan_rotations.specs.best_matching.Worths.{IsOneToOne}
use Rattle.fleet_model.specs.declared.parts.Connection.{Connection}
use Rattle.fleet_model.specs.declared.tables.Tables.{Tables}
use Rattle.fleet_model.specs.Counts.{choice_at}
use Rattle.fleet_model.specs.Schedule.{legs_in}
use Rattle.fleet_model.specs.Plain.{IsPlain}
use Rattle.lines_of_flying.specs.ground_turns.Maps.{AreClean, IsSuccessorMap, arrivals_of, departures_of, turn_at}
use Rattle.lines_of_flying.proofs.ground_turns.FleetTurns.{pick, picked}
use Rattle.lines_of_flying.proofs.ground_turns.Totals.{some_counted}
use Rattle.plan_rotations.specs.through_flights.Worths.{IsCleanTurn, through_pair}

-- a leg of the fleet goes on in a clean turn, and another one stands at itself
pub record GoesOn (t : Tables) (a : List ℕ) (f leg next : ℕ) : Type 0 where
  pub own : choice_at a leg ≡ f → IsCleanTurn t a f (through_pair leg next)
  pub other : choice_at a leg ≢ f → leg ≡ next

-- on plain tables each leg goes on, no two with one leg
pub record AreFollowers (t : Tables) (a : List ℕ) (f : ℕ) (next : ℕ → ℕ) : Type 0 where
  pub plain : IsPlain t
  pub one_to_one : IsOneToOne next (legs_in t)
  pub each : (leg : ℕ) → leg < legs_in t → GoesOn t a f leg (next leg)

pub weight_one : (x f : ℕ) → x ≡ f → ◌≡◌ {A = ℕ} (if x == f then 1 else 0) 1
weight_one x f e = grind (arith, nat_tests)

module _ (t : Tables) (a : List ℕ) (f : ℕ) (turns : List Connection) where
  arrives_at : ℕ → ℕ → Bool
  arrives_at l k = (turn_at turns k).arriving == l

  -- where the turn stands in which a leg arrives
  place : ℕ → ℕ
  place l = pick (arrives_at l) (length turns)

  pub follower : ℕ → ℕ
  follower l = if choice_at a l == f then (turn_at turns (place l)).departing else l

  own_follower : (l : ℕ) → choice_at a l ≡ f → follower l ≡ (turn_at turns (place l)).departing
  unfolding follower
  own_follower l e = choice (choice_at a l == f) (eq-eqb _ _ e)
    where
      choice : (b : Bool) → b ≡ true → ◌≡◌ {A = ℕ} (if b then (turn_at turns (place l)).departing else l) (turn_at turns (place l)).departing
      choice b h = rw h

  other_follower : (l : ℕ) → choice_at a l ≢ f → follower l ≡ l
  unfolding follower
  other_follower l ne = choice (choice_at a l == f) (ne_eqb _ _ ne)
    where
      choice : (b : Bool) → b ≡ false → ◌≡◌ {A = ℕ} (if b then (turn_at turns (place l)).departing else l) l
      choice b h = rw h

  module _ (map : IsSuccessorMap t a f turns) (clean : AreClean t a f turns) where
    placed : (l : ℕ) → l < legs_in t → choice_at a l ≡ f → (place l < length turns) × ((turn_at turns (place l)).arriving ≡ l)
    unfolding place arrives_at
    placed l lt own =
        let counted : arrivals_of turns l ≡ 1 = map.arrives l lt ∙ weight_one _ _ own in
        let found = some_counted (λ k. (turn_at turns k).arriving == l) (length turns) (one_is_some _ counted) in
        let there = picked (λ k. (turn_at turns k).arriving == l) (length turns) found.0 found.1 found.2 in
        (there.0, eqb-true _ _ there.1)

    pub goes_on : (l : ℕ) → l < legs_in t → GoesOn t a f l (follower l)
    goes_on l lt = record {
      own = λ own.
          let there = placed l lt own in
          let same : turn_at turns (place l) ≡ through_pair l (follower l) =
          ap (λ x. through_pair x (turn_at turns (place l)).departing) there.1 ∙ ap (through_pair l) (sym (own_follower l own)) in
          subst (IsCleanTurn t a f) same (record { turn = map.each (place l) there.0; clean = clean.each (place l) there.0 });
      other = λ ne. sym (other_follower l ne);
    }

    follows_once : (j k : ℕ) → j < legs_in t → k < legs_in t → follower j ≡ follower k → j ≡ k
    follows_once j k j_lt k_lt same = elim (cases_eq (choice_at a j) f) [
      | inl own ↦ elim (cases_eq (choice_at a k) f) [
        | inl own' ↦ both own own'
        | inr ne ↦ absurd (ne (sym (ap (choice_at a) (same ∙ other_follower k ne)) ∙ leaves_on own))
      ]
      | inr ne ↦ elim (cases_eq (choice_at a k) f) [
        | inl own' ↦ absurd (ne (ap (choice_at a) (sym (other_follower j ne) ∙ same) ∙ ((goes_on k k_lt).own own').turn.leaves_on))
        | inr ne' ↦ sym (other_follower j ne) ∙ same ∙ other_follower k ne'
      ]
    ]
      where
        leaves_on : choice_at a j ≡ f → choice_at a (follower j) ≡ f
        leaves_on own = ((goes_on j j_lt).own own).turn.leaves_on

        both : choice_at a j ≡ f → choice_at a k ≡ f → j ≡ k
        both own own' =
            let first = placed j j_lt own in
            let second = placed k k_lt own' in
            let turn = ((goes_on j j_lt).own own).turn in
            let once : departures_of turns (follower j) ≡ 1 = map.departs (follower j) turn.departing ∙ weight_one _ _ turn.leaves_on in
            let one = count_below-one (λ i. (turn_at turns i).departing == follower j) (length turns) (place j) (place k) once first.0 second.0
            (eq-eqb _ _ (sym (own_follower j own))) (eq-eqb _ _ (sym (own_follower k own') ∙ sym same)) in
            sym first.1 ∙ ap (λ i. (turn_at turns i).arriving) one ∙ second.1

    within : (l : ℕ) → l < legs_in t → follower l < legs_in t
    within l lt = elim (cases_eq (choice_at a l) f) [
      | inl own ↦ ((goes_on l lt).own own).turn.departing
      | inr ne ↦ subst (λ k. k < legs_in t) (sym (other_follower l ne)) lt
    ]

    pub are_followers : AreFollowers t a f follower
    are_followers = record { plain = map.plain; one_to_one = record { within = within; distinct = follows_once }; each = goes_on }
