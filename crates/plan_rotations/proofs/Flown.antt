-- What texts ask of rotations, of the rotations that are made.
use Rattle.std.proofs.Common.{◌≡◌, ℕ, Bool, true, false, ◌&&◌, MatchBool, List, [], Option, Some, None, IfSome, IsSomeAnd, unwrap_or, arith}
use Rattle.fleet_model.specs.declared.parts.Connection.{Connection}
use Rattle.fleet_model.specs.declared.tables.Tables.{Tables}
use Rattle.euler_rotation.specs.Answers.{IsRotation}
use Rattle.euler_rotation.specs.declared.rotation.Rotation.{Rotation}
use Rattle.euler_rotation.specs.declared.rotation.Rotation.TheVariants as rotation
use Rattle.euler_rotation.specs.FleetRotations.{AreFlown, AreKept, AreRotations, IsFleetRotation, IsKept, IsOfLegs, IsRotationFlown, rotation_of}
use Rattle.euler_rotation.specs.declared.fleet_rotation.FleetRotation.{FleetRotation}
use Rattle.plan_rotations.specs.Rotations.{ArePlanRotations, IsMadeRotation, IsRotationWith, are_some, is_given_up}
use Rattle.plan_rotations.proofs.Listed.{apart_listed, order_listed, prefix_listed, tour_listed}

of_legs : (t : Tables) (a : List ℕ) (f : ℕ) (pairs : List Connection) (days visits : ℕ) (answer : Rotation) → IsRotation t a f pairs days visits answer → IsOfLegs t answer
of_legs t a f pairs days visits rotation.Unused is = tt
of_legs t a f pairs days visits (rotation.TooFewNights have used) is = tt
of_legs t a f pairs days visits (rotation.Apart legs) is = apart_listed t a f pairs legs is.apart
of_legs t a f pairs days visits (rotation.Tour legs) is = tour_listed t a f legs is.tour.tour
of_legs t a f pairs days visits rotation.None is = tt
of_legs t a f pairs days visits (rotation.Spent order prefix) is =
    (order_listed t a f order is.visited.each_leg, prefix_listed t a f pairs days order is.visited.each_leg visits prefix is.visited.more is.visited.last)

flown : (t : Tables) (a : List ℕ) (f : ℕ) (pairs : List Connection) (days visits : ℕ) (answer : Rotation) → IsRotation t a f pairs days visits answer → IsRotationFlown t a f answer
flown t a f pairs days visits rotation.Unused is = tt
flown t a f pairs days visits (rotation.TooFewNights have used) is = tt
flown t a f pairs days visits (rotation.Apart legs) is = tt
flown t a f pairs days visits (rotation.Tour legs) is = (is.tour.tour, is.begins.begins)
flown t a f pairs days visits rotation.None is = tt
flown t a f pairs days visits (rotation.Spent order prefix) is = tt

kept : (t : Tables) (a : List ℕ) (f : ℕ) (pairs : List Connection) (days visits : ℕ) (answer : Rotation) → IsRotation t a f pairs days visits answer → IsKept t f answer
kept t a f pairs days visits rotation.Unused is = tt
kept t a f pairs days visits (rotation.TooFewNights have used) is = tt
kept t a f pairs days visits (rotation.Apart legs) is = tt
kept t a f pairs days visits (rotation.Tour legs) is = (days, is.tour.kept)
kept t a f pairs days visits rotation.None is = tt
kept t a f pairs days visits (rotation.Spent order prefix) is = tt

second_of_legs : (t : Tables) (a : List ℕ) (f days visits : ℕ) (b : Bool) (second : Option Rotation)
    → MatchBool b (IsSomeAnd second (IsRotationWith t a f [] days visits)) (second ≡ None) → IfSome second (IsOfLegs t)
second_of_legs t a f days visits true (Some answer) is = of_legs t a f [] days visits answer is.right
second_of_legs t a f days visits true None is = tt
second_of_legs t a f days visits false (Some answer) is = absurd (cc is)
second_of_legs t a f days visits false None is = tt

-- what is so of each rotation with or without pairs is so of the one that was made last
last_is : (t : Tables) (a : List ℕ) (f days visits : ℕ) (P : Rotation → Type 0) (b : Bool) (first : Rotation) (second : Option Rotation)
    → ((answer : Rotation) → IsRotation t a f [] days visits answer → P answer) → P first
    → MatchBool b (IsSomeAnd second (IsRotationWith t a f [] days visits)) (second ≡ None) → P (unwrap_or second first)
last_is t a f days visits P true first (Some answer) each one is = each answer is.right
last_is t a f days visits P true first None each one is = one
last_is t a f days visits P false first (Some answer) each one is = absurd (cc is)
last_is t a f days visits P false first None each one is = one

module _ (t : Tables) (a : List ℕ) (days visits : ℕ) where
  made_of_legs : (f : ℕ) (made : FleetRotation) → IsMadeRotation t a f days visits made → IsFleetRotation t made
  made_of_legs f made is = record {
    pairs = record { each = λ k lt. record { arriving = (is.pairs.through_set.each k lt).turn.arriving; departing = (is.pairs.through_set.each k lt).turn.departing } };
    first = of_legs t a f made.pairs days visits made.first is.first.right;
    second = second_of_legs t a f days visits (are_some made.pairs && is_given_up made.first) made.second is.second;
  }

  pub are_known : (all : List FleetRotation) → ArePlanRotations t a days visits all → AreRotations t all
  are_known all is = record {
    few = omega (arith, is.each_fleet);
    each = λ f lt. made_of_legs f (rotation_of all f) (is.each f (omega (arith, lt, is.each_fleet)));
  }

  pub are_flown : (all : List FleetRotation) → ArePlanRotations t a days visits all → AreFlown t a all
  are_flown all is = record {
    each = λ f lt.
        let made = is.each f (omega (arith, lt, is.each_fleet)) in
        let all_of = rotation_of all f in
        last_is t a f days visits (IsRotationFlown t a f) (are_some all_of.pairs && is_given_up all_of.first) all_of.first all_of.second (flown t a f [] days visits)
        (flown t a f all_of.pairs days visits all_of.first made.first.right) made.second;
    counted = record { each = λ f lt. (is.each f (omega (arith, lt, is.each_fleet))).counted };
  }

  pub are_kept : (all : List FleetRotation) → ArePlanRotations t a days visits all → AreKept t all
  are_kept all is = record {
    each = λ f lt.
        let made = is.each f (omega (arith, lt, is.each_fleet)) in
        let all_of = rotation_of all f in
        last_is t a f days visits (IsKept t f) (are_some all_of.pairs && is_given_up all_of.first) all_of.first all_of.second (kept t a f [] days visits)
        (kept t a f all_of.pairs days visits all_of.first made.first.right) made.second;
  }
