-- A summary has no number that is no whole one.
use Rattle.std.proofs.Common.{◌≡◌, ℕ, List, [], ◌∷◌, length, map, false, Option, Some, None, ℤ, refl}
use Rattle.std.specs.List.{range_with_len}
use Rattle.serde_json.specs.Data.{Data, array}
use Rattle.serde_json.specs.View.{items_of}
use Rattle.serde_json.specs.Written.{has_float, items_have_float}
use Rattle.dual_bound.specs.Solved.{plan_cost}
use Rattle.dual_bound.specs.declared.solved.Solved.{Solved}
use Rattle.dual_bound.specs.declared.solved.Solved.TheVariants as solved
use Rattle.fleet_model.specs.Schedule.{fleets_in}
use Rattle.fleet_model.specs.declared.tables.Tables.{Tables}
use Rattle.plan_report.specs.Json.{fleet_data, fleets_data, number_data, rotation_data, rotations_data, summary_data}
use Rattle.plan_report.specs.Summary.{printed_bound}
use Rattle.euler_rotation.specs.declared.fleet_rotation.FleetRotation.{FleetRotation}

list_has_none : (f : ℕ → Data) → ((k : ℕ) → has_float (f k) ≡ false) → (ks : List ℕ) → items_have_float (items_of (map f ks)) ≡ false
list_has_none f none [] = refl
list_has_none f none (k ∷ ks) = rw (none k, list_has_none f none ks) refl

number_has_none : (n : Option ℤ) → has_float (number_data n) ≡ false
number_has_none (Some n) = refl
number_has_none None = refl

fleets_have_none : (t : Tables) (s : Solved) → has_float (array (items_of (fleets_data t s))) ≡ false
fleets_have_none t (solved.Planned plan cost bound tree) = list_has_none (fleet_data t plan) (λ k. refl) (range_with_len 0 (fleets_in t))
fleets_have_none t (solved.Infeasible tree) = refl
fleets_have_none t (solved.Unsettled bound tree) = refl

rotations_have_none : (t : Tables) (s : Solved) (rotations : List FleetRotation) → has_float (array (items_of (rotations_data t s rotations))) ≡ false
rotations_have_none t (solved.Planned plan cost bound tree) rotations = list_has_none (rotation_data t rotations) (λ k. refl) (range_with_len 0 (length rotations))
rotations_have_none t (solved.Infeasible tree) rotations = refl
rotations_have_none t (solved.Unsettled bound tree) rotations = refl

pub summary_has_none : (t : Tables) (s : Solved) (rotations : List FleetRotation) → has_float (summary_data t s rotations) ≡ false
summary_has_none t s rotations =
    rw (number_has_none (printed_bound s), number_has_none (plan_cost s), fleets_have_none t s, rotations_have_none t s rotations) refl
