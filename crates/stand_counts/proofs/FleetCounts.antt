-- The counts of a fleet's flights are those of the fleet.
use Rattle.std.proofs.Common.{◌≡◌, ℕ, refl}
use Rattle.fleet_model.specs.declared.tables.Tables.{Tables}
use Rattle.fleet_model.specs.Counts.{Weights, arrived, departed}
use Rattle.fleet_model.specs.Use.{excess, laps_flown, need_of, stand_of, used_of}
use Rattle.stand_counts.specs.Flights.{arrived_by, departed_by, excess_by, laps_by, need_by, of_fleet, stand_by, used_by}
use Rattle.stand_counts.specs.Laws.{AreCounts}

module _ (t : Tables) (w : Weights) (f : ℕ) where
  pub departures_of_fleet : (s m : ℕ) → departed_by t (of_fleet t w f) s m ≡ departed t w f s m
  unfolding departed_by departed
  departures_of_fleet s m = refl

  pub arrivals_of_fleet : (s m : ℕ) → arrived_by t (of_fleet t w f) s m ≡ arrived t w f s m
  unfolding arrived_by arrived
  arrivals_of_fleet s m = refl

  pub excess_of_fleet : (s m : ℕ) → excess_by t (of_fleet t w f) s m ≡ excess t w f s m
  unfolding excess_by excess departed_by departed arrived_by arrived
  excess_of_fleet s m = refl

  pub need_of_fleet : (s : ℕ) → need_by t (of_fleet t w f) s ≡ need_of t w f s
  unfolding need_by need_of excess_by excess departed_by departed arrived_by arrived
  need_of_fleet s = refl

  pub stand_of_fleet : (s m : ℕ) → stand_by t (of_fleet t w f) s m ≡ stand_of t w f s m
  unfolding stand_by stand_of need_by need_of excess_by excess departed_by departed arrived_by arrived
  stand_of_fleet s m = refl

  pub use_of_fleet : used_by t (of_fleet t w f) ≡ used_of t w f
  unfolding used_by used_of laps_by laps_flown need_by need_of excess_by excess departed_by departed arrived_by arrived
  use_of_fleet = refl

  pub counts_of_fleet : AreCounts t (of_fleet t w f) w f
  counts_of_fleet = record {
    departures = departures_of_fleet;
    arrivals = arrivals_of_fleet;
    excesses = excess_of_fleet;
    needs = need_of_fleet;
    stands = stand_of_fleet;
    uses = use_of_fleet;
  }
