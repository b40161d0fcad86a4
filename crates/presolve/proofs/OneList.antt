-- There is one list of removals.
use Rattle.std.proofs.Common.{◌≡◌, false, List, [], ◌∷◌, map, Some, None, Option, refl, sym, ◌∙◌, ap, subst, arith}
use Rattle.std.proofs.lemmas.Bool.Decides.{nat_tests}
use Rattle.sums.proofs.Tests.{never_passes}
use Rattle.fleet_model.specs.Kept.{Domains}
use Rattle.fleet_model.specs.Schedule.{leg_on}
use Rattle.fleet_model.specs.declared.parts.Pair.{Pair}
use Rattle.fleet_model.specs.declared.tables.Tables.{Tables}
use Rattle.dual_bound.specs.Bound.{part}
use Rattle.presolve.specs.Laws.{RemovalsAreOne}
use Rattle.presolve.specs.Removals.{AreRemovals, IsDone, IsNextRemoval, is_sooner, removed_pair, without}
use Rattle.presolve.specs.declared.trims.Trim.{Trim}

-- of two pairs one is met sooner, or they are the same
same_leg : (place p q : Pair) → is_sooner place p q ≡ false → is_sooner place q p ≡ false → p.leg ≡ q.leg
same_leg place p q e f = grind (arith, nat_tests)

same_fleet : (place p q : Pair) → is_sooner place p q ≡ false → is_sooner place q p ≡ false → p.choice ≡ q.choice
same_fleet place p q e f = grind (arith, nat_tests)

-- what is removed isn't met sooner than what is removed first
not_sooner : (t : Tables) (keeps : Domains) (place : Pair) (x y : Trim) → IsNextRemoval t keeps place x → IsNextRemoval t keeps place y → is_sooner place (removed_pair x) (removed_pair y) ≡ false
not_sooner t keeps place x y first other = never_passes (is_sooner place (removed_pair x) (removed_pair y)) (λ e. different first.first_rule (other.first_pair (removed_pair x) first.pair e))
  where
    different : {X : Type 0} {o : Option X} {x : X} → o ≡ Some x → o ≡ None → ⊥
    different e f = cc

one_pair : (t : Tables) (keeps : Domains) (place : Pair) (x y : Trim) → IsNextRemoval t keeps place x → IsNextRemoval t keeps place y → removed_pair y ≡ removed_pair x
one_pair t keeps place x y first other =
    let ahead = not_sooner t keeps place x y first other in
    let behind = not_sooner t keeps place y x other first in
    ap (λ l. leg_on l y.choice) (same_leg place (removed_pair y) (removed_pair x) behind ahead) ∙ ap (λ f. leg_on x.leg f) (same_fleet place (removed_pair y) (removed_pair x) behind ahead)

-- a list that ends has no next removal
ended : (t : Tables) (keeps : Domains) (place : Pair) (trim : Trim) → IsDone t keeps → IsNextRemoval t keeps place trim → ⊥
ended t keeps place trim done next = different next.first_rule (done.each next.none_bare (removed_pair trim) next.pair)
  where
    different : {X : Type 0} {o : Option X} {x : X} → o ≡ Some x → o ≡ None → ⊥
    different e f = cc

-- what is kept after a removal, and the place behind it, are those of its pair
abbrev After : Tables → Domains → Pair → List Trim → Type 0
After t keeps p trims = AreRemovals t (part keeps p.leg p.choice false) p trims

pub removals_are_one : RemovalsAreOne
removals_are_one t keeps place [] [] left right = refl
removals_are_one t keeps place [] (y ∷ ys) left right = absurd (ended t keeps place y left right.0)
removals_are_one t keeps place (x ∷ xs) [] left right = absurd (ended t keeps place x right left.0)
removals_are_one t keeps place (x ∷ xs) (y ∷ ys) left right =
    let same = one_pair t keeps place x y left.0 right.0 in
    let behind : After t keeps (removed_pair x) ys = subst (λ p. After t keeps p ys) same right.1 in
    ap (λ p. p ∷ map removed_pair xs) (sym same) ∙ ap (λ ps. removed_pair y ∷ ps) (removals_are_one t (without keeps x) (removed_pair x) xs ys left.1 behind)
