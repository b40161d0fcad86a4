-- What the assignment uses of a fleet, of the rotations that are told with it.
use Rattle.std.proofs.Common.{◌≡◌, ℕ, ◌*◌, List, length, refl, sym, ap, ◌∙◌}
use Rattle.std.proofs.lemmas.List.FromFn.{fill_by_all}
use Rattle.sums.proofs.Places.{length-list_below}
use Rattle.fleet_model.specs.Counts.{weights_of}
use Rattle.fleet_model.specs.Schedule.{days_in}
use Rattle.fleet_model.specs.Use.{used_of}
use Rattle.fleet_model.specs.declared.tables.Tables.{Tables}
use Rattle.lines_of_flying.specs.ground_turns.Maps.{IsTour}
use Rattle.lines_of_flying.specs.Lines.{days_of_tour, legs_on_day}
use Rattle.lines_of_flying.proofs.TourLines.{days_are_use, known_legs}
use Rattle.euler_rotation.specs.FleetRotations.{AllComeRound, AllTellUse, AreFlown, ComesRound, IsRotationFlown, IsTourOf, TellsUse, all_told_by_plan, last_made, no_rotation, rotation_of, told_by_plan}
use Rattle.euler_rotation.specs.declared.fleet_rotation.FleetRotation.{FleetRotation}
use Rattle.euler_rotation.specs.declared.rotation.Rotation.{Rotation}
use Rattle.euler_rotation.specs.declared.rotation.Rotation.TheVariants as rotation

module _ (t : Tables) (a : List ℕ) where
  pub tour_comes_round : (f used : ℕ) (tour : List ℕ) → used ≡ used_of t (weights_of a) f → IsTour t a f tour → IsTourOf t f used tour
  tour_comes_round f used tour counted is = record {
    some = is.some;
    known = known_legs t a f tour is;
    days = sym (length-list_below (λ d. legs_on_day t f tour d (length tour)) (days_of_tour t f tour)) ∙ days_are_use t a f tour is ∙ ap (λ n. n * days_in t) (sym counted);
  }

  pub comes_round : (f used : ℕ) (answer : Rotation) → used ≡ used_of t (weights_of a) f → IsRotationFlown t a f answer → ComesRound t f used answer
  comes_round f used rotation.Unused counted is = tt
  comes_round f used (rotation.TooFewNights have needed) counted is = tt
  comes_round f used (rotation.Apart legs) counted is = tt
  comes_round f used (rotation.Tour tour) counted is = tour_comes_round f used tour counted is.0
  comes_round f used rotation.None counted is = tt
  comes_round f used (rotation.Spent order prefix) counted is = tt

  pub all_come_round : (all : List FleetRotation) → AreFlown t a all → AllComeRound t all
  all_come_round all is = record { each = λ f lt. comes_round f (rotation_of all f).used (last_made (rotation_of all f)) (is.counted.each f lt) (is.each f lt) }

  -- a rotation that says what the assignment uses is told by the assignment
  pub is_by_plan : (f : ℕ) (made : FleetRotation) → TellsUse t a f made → made ≡ told_by_plan t a f made
  is_by_plan f made counted = ap (λ n. record { pairs = made.pairs; first = made.first; second = made.second; used = n }) counted

  pub are_by_plan : (all : List FleetRotation) → AllTellUse t a all → all ≡ all_told_by_plan t a all
  are_by_plan all is = fill_by_all (λ f. told_by_plan t a f (rotation_of all f)) all (length all) no_rotation refl (λ f lt. is_by_plan f (rotation_of all f) (is.each f lt))
