-- A verdict by sizes is one on the tables that have them.
use Rattle.std.proofs.Common.{◌≡◌, ℕ, ◌-◌, ◌<◌, ◌≤◌, List, Option, IsSome, ℤ, sym, ◌∙◌, ap, subst, inl, inr}
use Rattle.std.proofs.lemmas.Bool.{cases_eq, eq-eqb, ne_eqb}
use Rattle.fleet_model.specs.declared.parts.Fleet.{Fleet}
use Rattle.fleet_model.specs.declared.parts.Pair.{Pair}
use Rattle.fleet_model.specs.declared.tables.Tables.{Tables}
use Rattle.fleet_model.specs.Counts.{arrived, departed, pair_at, weights_of}
use Rattle.fleet_model.specs.Legal.{IsLegal, IsWithinFleets}
use Rattle.fleet_model.specs.OtherSizes.{IsOtherSize}
use Rattle.fleet_model.specs.Schedule.{fleet_of, fleets_in, last_of}
use Rattle.fleet_model.specs.Sizes.{aircraft_by}
use Rattle.fleet_model.specs.declared.sizes.Sizes.TheVariants as sizes
use Rattle.fleet_model.specs.Use.{used_of}
use Rattle.fleet_model.proofs.OtherSizes.{aircraft_elsewhere, aircraft_there, allowed_same, arrived_same, assignment_same, balanced_same, cost_same, days_same, departed_same, fleets_same, legs_same, parked_same, parking_same, period_same, room_same, stations_same, total_cost_same, used_same}
use Rattle.plan_judge.specs.Sizes.{FirstTooManyBy, IsLegalBySizes, IsVerdictBy, IsWithinBy}
use Rattle.plan_judge.specs.Verdicts.{Balances, FirstCrowded, FirstNotAllowed, FirstTooMany, FirstUnbalanced, HasRoomOn, IsVerdict}
use Rattle.plan_judge.specs.declared.verdicts.Verdict.{Verdict}
use Rattle.plan_judge.specs.declared.verdicts.Verdict.TheVariants as verdict

-- ---- by the tables' own numbers
module _ (t : Tables) (a : List ℕ) where
  own_within : IsWithinBy t sizes.Own a → IsWithinFleets t a
  own_within within = record { each = within.each }

  pub own_verdict : (v : Verdict) → IsVerdictBy t sizes.Own a v → IsVerdict t a v
  own_verdict (verdict.NotAllowed leg) is = is
  own_verdict (verdict.Unbalanced fleet station came left) is = is
  own_verdict (verdict.TooMany fleet used has) is =
      let first = is.2 in (is.0, is.1, record { within = first.within; uses = first.uses; owns = first.owns; too_many = first.too_many; first = first.first })
  own_verdict (verdict.Crowded station day stands cap) is = (is.0, is.1, own_within is.2, is.3)
  own_verdict (verdict.Legal cost) is =
      let legal = is.0 in (record { assignment = legal.assignment; allowed = legal.allowed; balanced = legal.balanced; within = own_within legal.within; room = legal.room }, is.1)

-- ---- by another number of one fleet
module _ (t : Tables) (fleet count : ℕ) (known : fleet < fleets_in t) (u : Tables) (is : IsOtherSize t fleet count u) (a : List ℕ) where
  aircraft_same : (f : ℕ) → aircraft_by t (sizes.Other fleet count) f ≡ (fleet_of u f).aircraft
  aircraft_same f = elim (cases_eq fleet f) [
    | inl same ↦ rw (eq-eqb fleet f same) (sym (aircraft_there t fleet count u is known) ∙ ap (λ n. (fleet_of u n).aircraft) same)
    | inr other ↦ rw (ne_eqb fleet f other) (ap (λ (x : Fleet). x.aircraft) (sym (aircraft_elsewhere t fleet count u is f (λ e. other (sym e)))))
  ]

  not_allowed : (leg : ℕ) → FirstNotAllowed t a leg → FirstNotAllowed u a leg
  not_allowed leg was = record {
    within = subst (λ n. leg < n) (sym (legs_same t fleet count u is)) was.within;
    refused = ap (λ (cost : Pair → Option ℤ). cost (pair_at a leg)) (cost_same t fleet count u is) ∙ was.refused;
    first = λ l before. subst (λ (cost : Pair → Option ℤ). IsSome (cost (pair_at a l))) (sym (cost_same t fleet count u is)) (was.first l before);
  }

  arrived_last : (f s : ℕ) → arrived u (weights_of a) f s (last_of u) ≡ arrived t (weights_of a) f s (last_of t)
  arrived_last f s = ap (λ n. arrived u (weights_of a) f s (n - 1)) (period_same t fleet count u is) ∙ arrived_same t fleet count u is (weights_of a) f s (last_of t)

  departed_last : (f s : ℕ) → departed u (weights_of a) f s (last_of u) ≡ departed t (weights_of a) f s (last_of t)
  departed_last f s = ap (λ n. departed u (weights_of a) f s (n - 1)) (period_same t fleet count u is) ∙ departed_same t fleet count u is (weights_of a) f s (last_of t)

  unbalanced : (f s came left : ℕ) → FirstUnbalanced t a f s came left → FirstUnbalanced u a f s came left
  unbalanced f s came left was = record {
    fleet_within = subst (λ n. f < n) (sym (fleets_same t fleet count u is)) was.fleet_within;
    station_within = subst (λ n. s < n) (sym (stations_same t fleet count u is)) was.station_within;
    came_there = was.came_there ∙ sym (arrived_last f s);
    left_there = was.left_there ∙ sym (departed_last f s);
    differ = was.differ;
    first_fleet = λ g r before there. balances g r (was.first_fleet g r before (subst (λ n. r < n) (stations_same t fleet count u is) there));
    first_station = λ r before. balances f r (was.first_station r before);
  }
    where
      balances : (f s : ℕ) → Balances t a f s → Balances u a f s
      balances f s same = arrived_last f s ∙ same ∙ sym (departed_last f s)

  used_there : (f : ℕ) → used_of u (weights_of a) f ≡ used_of t (weights_of a) f
  used_there f = used_same t fleet count u is (weights_of a) f

  no_more : (f : ℕ) → used_of t (weights_of a) f ≤ aircraft_by t (sizes.Other fleet count) f → used_of u (weights_of a) f ≤ (fleet_of u f).aircraft
  no_more f was = subst (λ n. n ≤ (fleet_of u f).aircraft) (sym (used_there f)) (subst (λ n. used_of t (weights_of a) f ≤ n) (aircraft_same f) was)

  too_many : (f used has : ℕ) → FirstTooManyBy t (sizes.Other fleet count) a f used has → FirstTooMany u a f used has
  too_many f used has was = record {
    within = subst (λ n. f < n) (sym (fleets_same t fleet count u is)) was.within;
    uses = was.uses ∙ sym (used_there f);
    owns = was.owns ∙ aircraft_same f;
    too_many = was.too_many;
    first = λ g before. no_more g (was.first g before);
  }

  within_there : IsWithinBy t (sizes.Other fleet count) a → IsWithinFleets u a
  within_there was = record { each = λ f below. no_more f (was.each f (subst (λ n. f < n) (fleets_same t fleet count u is) below)) }

  crowded : (s d stands cap : ℕ) → FirstCrowded t a s d stands cap → FirstCrowded u a s d stands cap
  crowded s d stands cap was = record {
    within = subst (λ n. s < n) (sym (stations_same t fleet count u is)) was.within;
    some = was.some;
    of_period = subst (λ n. d ≤ n) (sym (days_same t fleet count u is)) was.of_period;
    limited = parking_same t fleet count u is s ∙ was.limited;
    there = was.there ∙ sym (parked_same t fleet count u is (weights_of a) s d);
    crowded = was.crowded;
    first_station = λ r e before some early. room r e (was.first_station r e before some (subst (λ n. e ≤ n) (days_same t fleet count u is) early));
    first_day = λ e some before. room s e (was.first_day e some before);
  }
    where
      room : (s d : ℕ) → HasRoomOn t a s d → HasRoomOn u a s d
      room s d was limit limited = subst (λ n. n ≤ limit) (sym (parked_same t fleet count u is (weights_of a) s d)) (was limit (sym (parking_same t fleet count u is s) ∙ limited))

  legal_there : IsLegalBySizes t (sizes.Other fleet count) a → IsLegal u a
  legal_there was = record {
    assignment = assignment_same t fleet count u is a was.assignment;
    allowed = allowed_same t fleet count u is a was.allowed;
    balanced = balanced_same t fleet count u is (weights_of a) was.balanced;
    within = within_there was.within;
    room = room_same t fleet count u is 1 (weights_of a) was.room;
  }

  pub other_verdict : (v : Verdict) → IsVerdictBy t (sizes.Other fleet count) a v → IsVerdict u a v
  other_verdict (verdict.NotAllowed leg) was = not_allowed leg was
  other_verdict (verdict.Unbalanced f station came left) was = (allowed_same t fleet count u is a was.0, unbalanced f station came left was.1)
  other_verdict (verdict.TooMany f used has) was = (allowed_same t fleet count u is a was.0, balanced_same t fleet count u is (weights_of a) was.1, too_many f used has was.2)
  other_verdict (verdict.Crowded station day stands cap) was = (allowed_same t fleet count u is a was.0, balanced_same t fleet count u is (weights_of a) was.1, within_there was.2, crowded station day stands cap was.3)
  other_verdict (verdict.Legal cost) was = (legal_there was.0, was.1 ∙ sym (total_cost_same t fleet count u is a))
