-- The laws of counts, as statements.
use Rattle.std.specs.Prelude.{◌≡◌, ℕ}
use Rattle.fleet_model.specs.declared.tables.Tables.{Tables}
use Rattle.fleet_model.specs.Counts.{Weights, arrived, departed}
use Rattle.fleet_model.specs.Use.{excess, need_of, stand_of, used_of}
use Rattle.stand_counts.specs.Flights.{Flights, arrived_by, departed_by, excess_by, need_by, stand_by, used_by}

-- the counts of flights are those of a fleet by weights
pub record AreCounts (t : Tables) (x : Flights) (w : Weights) (f : ℕ) : Type 0 where
  pub departures : (s m : ℕ) → departed_by t x s m ≡ departed t w f s m
  pub arrivals : (s m : ℕ) → arrived_by t x s m ≡ arrived t w f s m
  pub excesses : (s m : ℕ) → excess_by t x s m ≡ excess t w f s m
  pub needs : (s : ℕ) → need_by t x s ≡ need_of t w f s
  pub stands : (s m : ℕ) → stand_by t x s m ≡ stand_of t w f s m
  pub uses : used_by t x ≡ used_of t w f
