-- An assignment that flies each of its legs by a fleet that flies a part of it, leg by leg; and the first pair of all
-- that is flown in part.
use Rattle.std.proofs.Common.{◌≡◌, ℕ, ◌<◌, ◌++◌, List, [], ◌∷◌, length, length-append, inl, inr, arith}
use Rattle.std.proofs.lemmas.Bool.{cases_lt}
use Rattle.fleet_model.specs.Counts.{choice_at}
use Rattle.fleet_model.specs.Schedule.{choices_in, legs_in}
use Rattle.fleet_model.specs.declared.tables.Tables.{Tables}
use Rattle.fleet_model.proofs.SoleFleets.{earlier_fleet, last_fleet}
use Rattle.dual_bound.specs.Fractions.{IsWholeLeg, IsWholePair}
use Rattle.dual_bound.specs.declared.mixed.Mixed.{Mixed}
use Rattle.node_bounding.specs.Causes.{PairComesBefore}
use Rattle.node_bounding.specs.Wholes.{FliesPart, IsFirstPartialOn, IsSplitPair}

pub record FliesSoFar (t : Tables) (mixed : Mixed) (a : List ℕ) : Type 0 where
  pub each : (l : ℕ) → l < length a → FliesPart t mixed l (choice_at a l)

-- one leg more
pub flies_more : (t : Tables) (mixed : Mixed) (a : List ℕ) (fleet : ℕ) → FliesSoFar t mixed a → FliesPart t mixed (length a) fleet → FliesSoFar t mixed (a ++ fleet ∷ [])
flies_more t mixed a fleet flies part = record {
  each = λ l below. elim (cases_lt l (length a)) [
    | inl before ↦ rw (earlier_fleet a fleet l before) (flies.each l before)
    | inr after ↦ let last : l ≡ length a = omega (arith, length-append a (fleet ∷ [])) in rw (last, last_fleet a fleet) part
  ];
}

-- the first pair of a leg, where all legs before are whole, is the first of all
pub first_of_all : (t : Tables) (mixed : Mixed) (leg choice : ℕ) → leg < legs_in t → ((k : ℕ) → k < leg → IsWholeLeg t mixed k) → IsFirstPartialOn t mixed leg choice
    → IsSplitPair t mixed (record { leg = leg; choice = choice })
first_of_all t mixed leg choice within before here = record {
  known = record { leg = within; choice = here.known };
  first = record { some = here.partial.some; not_all = here.partial.not_all; first = each };
}
  where
    each : (l f : ℕ) → f < choices_in t l → PairComesBefore l f leg choice → IsWholePair mixed l f
    each l f known (inl earlier) = before l earlier f known
    each l f known (inr same) = rw same.0 (here.first f same.1)
