-- What becomes of tails can be told.
use Rattle.std.proofs.Common.{◌≡◌, ◌==◌, ℕ, ◌*◌, ◌<◌, List, Option, Some, None, IfSome, filter, length, sym, subst, ◌∙◌, arith}
use Rattle.std.proofs.lemmas.List.{length-map}
use Rattle.euler_rotation.specs.FleetRotations.{AllTellUse, last_made, rotation_of}
use Rattle.euler_rotation.specs.declared.fleet_rotation.FleetRotation.{FleetRotation}
use Rattle.euler_rotation.specs.declared.rotation.Rotation.{Rotation}
use Rattle.euler_rotation.specs.declared.rotation.Rotation.TheVariants as rotation
use Rattle.fleet_model.specs.Counts.{weights_of}
use Rattle.fleet_model.specs.Schedule.{days_in}
use Rattle.fleet_model.specs.Use.{used_of}
use Rattle.fleet_model.specs.declared.tables.Tables.{Tables}
use Rattle.tail_dates.proofs.StartReaches.{line_within}
use Rattle.tail_dates.proofs.OwnPlaces.{placed_in_time}
use Rattle.tail_dates.specs.Placing.{IsPlaced, lefts_of}
use Rattle.tail_dates.specs.declared.placing.Placed.{Placed}
use Rattle.tail_dates.specs.declared.placing.Placed.TheVariants as placed
use Rattle.tail_dates.specs.declared.tails.TailState.{TailState}
use Rattle.due_report.specs.Lines.{AreBegun, AreTellable, IsTellable, tail_names}
use Rattle.due_report.specs.Placings.{ArePlacings, IsPlacing, placing_of}

module _ (t : Tables) (a : List ℕ) (f day : ℕ) (tails : List TailState) (inside : day < days_in t) where
  used : ℕ
  used = used_of t (weights_of a) f

  as_many : length (lefts_of f tails) ≡ length (tail_names f tails)
  as_many = length-map (filter (λ (tail : TailState). tail.fleet == f) tails) (λ (tail : TailState). tail.left) ∙ sym (length-map (filter (λ (tail : TailState). tail.fleet == f) tails) (λ (tail : TailState). tail.name))

  -- tails that are placed begin with lines of the tour
  placed_begin : (tour lines : List ℕ) → IsPlaced t a f tour day tails (placed.Lines lines) → AreBegun t used (tail_names f tails) lines
  unfolding used
  placed_begin tour lines is =
      let own = (placed_in_time t a f tour day tails inside (placed.Lines lines) is).in_time in
      record {
        each_tail = own.each_tail ∙ as_many;
        within = λ k lt.
            let one = own.each k (omega (arith, lt, own.each_tail)) in
            subst (λ line. line < used_of t (weights_of a) f * days_in t) (sym one.its_line) (line_within one.start day (used_of t (weights_of a) f) (days_in t) one.within inside);
      }

  placed_tellable : (tour : List ℕ) (answer : Placed) → IsPlaced t a f tour day tails answer → IsTellable t f used tails answer
  placed_tellable tour (placed.WrongNumber all needed) is = tt
  placed_tellable tour (placed.Late within all starts) is = tt
  placed_tellable tour (placed.SomeAt at all) is = tt
  placed_tellable tour (placed.Lacks at all starts) is = is.there.is_place
  placed_tellable tour (placed.LateAt at within all starts) is = is.there.is_place
  placed_tellable tour (placed.Lines lines) is = placed_begin tour lines is

  pub placing_tellable : (told : ℕ) (placing : Option Placed) (shown : Rotation) → told ≡ used_of t (weights_of a) f → IsPlacing t a f day tails shown placing → IfSome placing (IsTellable t f told tails)
  unfolding used
  placing_tellable told None shown counted is = tt
  placing_tellable told (Some answer) rotation.Unused counted is = absurd (cc is)
  placing_tellable told (Some answer) (rotation.TooFewNights have needed) counted is = absurd (cc is)
  placing_tellable told (Some answer) (rotation.Apart legs) counted is = absurd (cc is)
  placing_tellable told (Some answer) (rotation.Tour tour) counted is = subst (λ n. IsTellable t f n tails answer) (sym counted) (placed_tellable tour answer is.placed)
  placing_tellable told (Some answer) rotation.None counted is = absurd (cc is)
  placing_tellable told (Some answer) (rotation.Spent order prefix) counted is = absurd (cc is)

pub all_tellable : (t : Tables) (a : List ℕ) (rotations : List FleetRotation) (day : ℕ) (tails : List TailState) (placings : List (Option Placed)) → day < days_in t
    → AllTellUse t a rotations → ArePlacings t a rotations day tails placings → AreTellable t rotations tails placings
all_tellable t a rotations day tails placings inside tell are = record {
  each_fleet = are.each_fleet;
  each = λ f lt. placing_tellable t a f day tails inside (rotation_of rotations f).used (placing_of placings f) (last_made (rotation_of rotations f)) (tell.each f lt) (are.each f lt);
}
