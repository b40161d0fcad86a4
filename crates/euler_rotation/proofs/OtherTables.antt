-- Rotations on other tables of as many legs and fleets.
use Rattle.std.proofs.Common.{◌≡◌, ℕ, List, Option, Some, None, IfSome}
use Rattle.euler_rotation.specs.declared.rotation.Rotation.{Rotation}
use Rattle.euler_rotation.specs.declared.rotation.Rotation.TheVariants as rotation
use Rattle.fleet_model.specs.Schedule.{fleets_in, legs_in}
use Rattle.fleet_model.specs.declared.tables.Tables.{Tables}
use Rattle.euler_rotation.specs.FleetRotations.{AreConnections, AreListed, AreRotations, IsOfLegs, rotation_of}
use Rattle.euler_rotation.specs.declared.fleet_rotation.FleetRotation.{FleetRotation}
use Rattle.fleet_model.specs.declared.parts.Connection.{Connection}

module _ (t u : Tables) (legs : legs_in u ≡ legs_in t) where
  listed : (xs : List ℕ) → AreListed u xs → AreListed t xs
  listed xs x = record { known = record { each = λ k below. rw (← legs) (x.known.each k below) }; few = rw (← legs) x.few }

  connected : (pairs : List Connection) → AreConnections u pairs → AreConnections t pairs
  connected pairs x = record { each = λ k below. record { arriving = rw (← legs) (x.each k below).arriving; departing = rw (← legs) (x.each k below).departing } }

  of_legs : (made : Rotation) → IsOfLegs u made → IsOfLegs t made
  of_legs rotation.Unused x = tt
  of_legs (rotation.TooFewNights have used) x = tt
  of_legs (rotation.Apart xs) x = listed xs x
  of_legs (rotation.Tour tour) x = listed tour x
  of_legs rotation.None x = tt
  of_legs (rotation.Spent order prefix) x = (listed order x.0, listed prefix x.1)

  of_legs_if : (made : Option Rotation) → IfSome made (IsOfLegs u) → IfSome made (IsOfLegs t)
  of_legs_if None x = tt
  of_legs_if (Some made) x = of_legs made x

  -- rotations of other tables of as many legs and fleets
  pub rotations_alike : fleets_in u ≡ fleets_in t → (all : List FleetRotation) → AreRotations u all → AreRotations t all
  rotations_alike fleets all x = record {
    few = rw (← fleets) x.few;
    each = λ f below. let made = x.each f below in record { pairs = connected (rotation_of all f).pairs made.pairs; first = of_legs (rotation_of all f).first made.first; second = of_legs_if (rotation_of all f).second made.second };
  }
