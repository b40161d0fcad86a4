-- How great limits of parking are.
use Rattle.std.proofs.Common.{◌≡◌, ℕ, ◌≤◌, Option, Some, None, refl, sym, ◌∙◌, ap, inl, inr, arith}
use Rattle.std.specs.Prelude.{unwrap_or}
use Rattle.std.proofs.lemmas.Bool.{cases_lt}
use Rattle.std.proofs.lemmas.List.{get_or_past}
use Rattle.sums.proofs.Tests.{none_some}
use Rattle.fleet_model.specs.declared.parts.Station.{Station}
use Rattle.fleet_model.specs.declared.tables.Tables.{Tables}
use Rattle.fleet_model.specs.Schedule.{no_station, parking_of, stations_in}

-- a limit is ten thousand at most
pub few_parked : (t : Tables) (s limit : ℕ) → parking_of t s ≡ Some limit → limit ≤ 10000
unfolding parking_of
few_parked t s limit is = elim (cases_lt s (stations_in t)) [
  | inl known ↦ (t.in_range.stations_fit.each s no_station known).parking limit is
  | inr past ↦ absurd (none_some (sym (ap (λ (x : Station). x.parking) (get_or_past t.stations s no_station past)) ∙ is))
]

-- .. and so is what stands for it
pub few_at : (t : Tables) (s : ℕ) → unwrap_or (parking_of t s) 0 ≤ 10000
few_at t s = by_limit (parking_of t s) (few_parked t s)
  where
    by_limit : (o : Option ℕ) → ((limit : ℕ) → o ≡ Some limit → limit ≤ 10000) → unwrap_or o 0 ≤ 10000
    by_limit None few = omega arith
    by_limit (Some limit) few = few limit refl
