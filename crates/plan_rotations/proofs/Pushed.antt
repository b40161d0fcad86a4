-- One more fleet's rotation.
use Rattle.std.proofs.Common.{◌≡◌, ℕ, ◌+◌, ◌<◌, inl, inr, List, [], ◌∷◌, ◌++◌, length, length-append, sym, ap, ◌∙◌, subst, arith}
use Rattle.std.proofs.lemmas.Bool.{cases_lt}
use Rattle.std.proofs.lemmas.List.{get_or_append_left, get_or_push}
use Rattle.fleet_model.specs.declared.tables.Tables.{Tables}
use Rattle.euler_rotation.specs.FleetRotations.{no_rotation, rotation_of}
use Rattle.euler_rotation.specs.declared.fleet_rotation.FleetRotation.{FleetRotation}
use Rattle.plan_rotations.specs.Rotations.{AreMadeBelow, IsMadeRotation}

pub made_pushed : (t : Tables) (a : List ℕ) (days visits : ℕ) (all grown : List FleetRotation) (f : ℕ) (made : FleetRotation) → grown ≡ all ++ made ∷ []
    → AreMadeBelow t a days visits all f → IsMadeRotation t a f days visits made → AreMadeBelow t a days visits grown (f + 1)
made_pushed t a days visits all grown f made grows below one = record {
  each_fleet = ap length grows ∙ longer;
  each = λ g lt. subst (λ list. IsMadeRotation t a g days visits (rotation_of list g)) (sym grows) (each_of g lt);
}
  where
    longer : length (all ++ made ∷ []) ≡ f + 1
    longer = length-append all (made ∷ []) ∙ omega (arith, below.each_fleet)

    each_of : (g : ℕ) → g < f + 1 → IsMadeRotation t a g days visits (rotation_of (all ++ made ∷ []) g)
    each_of g lt = elim (cases_lt g f) [
      | inl before ↦ subst (IsMadeRotation t a g days visits) (sym (get_or_append_left all (made ∷ []) no_rotation g (omega (arith, before, below.each_fleet)))) (below.each g before)
      | inr after ↦
          let last : f ≡ g = omega (arith, lt, after) in
          subst (λ k. IsMadeRotation t a k days visits (rotation_of (all ++ made ∷ []) k)) last
          (subst (IsMadeRotation t a f days visits) (sym (get_or_push all made no_rotation f below.each_fleet)) one)
    ]
