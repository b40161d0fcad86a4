-- One more fleet's tails.
use Rattle.std.proofs.Common.{◌≡◌, ℕ, ◌+◌, ◌<◌, inl, inr, List, [], ◌∷◌, ◌++◌, length, length-append, Option, None, sym, ap, ◌∙◌, subst, arith}
use Rattle.std.proofs.lemmas.Bool.{cases_lt}
use Rattle.std.proofs.lemmas.List.{get_or_append_left, get_or_push}
use Rattle.fleet_model.specs.declared.tables.Tables.{Tables}
use Rattle.euler_rotation.specs.FleetRotations.{last_made, rotation_of}
use Rattle.euler_rotation.specs.declared.fleet_rotation.FleetRotation.{FleetRotation}
use Rattle.tail_dates.specs.declared.placing.Placed.{Placed}
use Rattle.tail_dates.specs.declared.tails.TailState.{TailState}
use Rattle.due_report.specs.Placings.{ArePlacedBelow, IsPlacing, placing_of}

module _ (t : Tables) (a : List ℕ) (rotations : List FleetRotation) (day : ℕ) (tails : List TailState) (all : List (Option Placed)) (f : ℕ) (one : Option Placed) where
  IsOf : ℕ → Option Placed → Type 0
  IsOf g placing = IsPlacing t a g day tails (last_made (rotation_of rotations g)) placing

  pub placing_pushed : (grown : List (Option Placed)) → grown ≡ all ++ one ∷ [] → ArePlacedBelow t a rotations day tails all f → IsPlacing t a f day tails (last_made (rotation_of rotations f)) one
      → ArePlacedBelow t a rotations day tails grown (f + 1)
  unfolding IsOf
  placing_pushed grown grows below is = record {
    each_fleet = ap length grows ∙ longer;
    each = λ g lt. subst (λ list. IsOf g (placing_of list g)) (sym grows) (each_of g lt);
  }
    where
      longer : length (all ++ one ∷ []) ≡ f + 1
      longer = length-append all (one ∷ []) ∙ omega (arith, below.each_fleet)

      each_of : (g : ℕ) → g < f + 1 → IsOf g (placing_of (all ++ one ∷ []) g)
      each_of g lt = elim (cases_lt g f) [
        | inl before ↦ subst (IsOf g) (sym (get_or_append_left all (one ∷ []) None g (omega (arith, before, below.each_fleet)))) (below.each g before)
        | inr after ↦
            let last : f ≡ g = omega (arith, lt, after) in
            subst (λ k. IsOf k (placing_of (all ++ one ∷ []) k)) last
            (subst (IsOf f) (sym (get_or_push all one None f below.each_fleet)) is)
      ]
