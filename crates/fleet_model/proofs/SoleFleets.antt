-- Subproblems in which each leg keeps one fleet.
use Rattle.std.proofs.Common.{◌≡◌, ℕ, ◌<◌, ◌++◌, List, [], ◌∷◌, length, length-append, inl, inr, arith}
use Rattle.std.proofs.lemmas.Bool.{cases_lt}
use Rattle.std.proofs.lemmas.Grind.{common_steps}
use Rattle.fleet_model.specs.declared.tables.Tables.{Tables}
use Rattle.fleet_model.specs.Counts.{choice_at}
use Rattle.fleet_model.specs.Kept.{Domains, IsSoleOn}

-- each leg that the plan flies keeps one fleet, and flies it
pub record FliesSole (t : Tables) (keeps : Domains) (a : List ℕ) : Type 0 where
  pub each : (l : ℕ) → l < length a → IsSoleOn t keeps l (choice_at a l)

-- the fleet of the leg that was added last
pub last_fleet : (a : List ℕ) (fleet : ℕ) → choice_at (a ++ fleet ∷ []) (length a) ≡ fleet
last_fleet a fleet = grind (arith, common_steps)

-- legs that stood before keep their fleet
pub earlier_fleet : (a : List ℕ) (fleet l : ℕ) → l < length a → choice_at (a ++ fleet ∷ []) l ≡ choice_at a l
earlier_fleet a fleet l before = grind (arith, common_steps)

-- one leg more
pub flies_more : (t : Tables) (keeps : Domains) (a : List ℕ) (fleet : ℕ) → FliesSole t keeps a → IsSoleOn t keeps (length a) fleet → FliesSole t keeps (a ++ fleet ∷ [])
flies_more t keeps a fleet flies sole = record {
  each = λ l below. elim (cases_lt l (length a)) [
    | inl before ↦ rw (earlier_fleet a fleet l before) (flies.each l before)
    | inr after ↦ let last : l ≡ length a = omega (arith, length-append a (fleet ∷ [])) in rw (last, last_fleet a fleet) sole
  ];
}
