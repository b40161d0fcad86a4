-- Leaves where fleets have some sizes.
use Rattle.std.proofs.Common.{◌≡◌, ◌+◌, true, false, MatchOption, List, ℕ, Option, ℤ, refl}
use Rattle.fleet_model.specs.declared.sizes.Sizes.{Sizes}
use Rattle.fleet_model.specs.declared.sizes.Sizes.TheVariants as sizes
use Rattle.fleet_model.specs.declared.tables.Tables.{Tables}
use Rattle.fleet_model.specs.Kept.{Domains, IsKeptAssignment, IsSole}
use Rattle.fleet_model.specs.Legal.{IsLegal}
use Rattle.fleet_model.specs.Sizes.{HoldsBy}
use Rattle.dual_bound.specs.Bound.{IsSoleBound, lesser_bound}
use Rattle.dual_bound.specs.Leaves.{held_count}
use Rattle.plan_judge.specs.Sizes.{IsLegalAt}
use Rattle.cert_check.specs.Nodes.{Node}
use Rattle.cert_check.specs.OtherSizes.{Stands}
use Rattle.cert_check.specs.Visitors.{IsSized}
use Rattle.cert_check.specs.Walking.{IsOwnBound}
use Rattle.cert_check.specs.declared.reached.Reached.{Reached}
use Rattle.cert_check.proofs.NodeRules.{sole_bound}
use Rattle.cert_check.proofs.OtherSizes.{sole_there}
use Rattle.cert_check.proofs.Visits.{passed_by}

-- the cost of the one assignment that is left
pub sole_by : (t : Tables) (by : Sizes) (keeps : Domains) (plan : List ℕ) (cost : Option ℤ) → IsSole t keeps → IsKeptAssignment t keeps plan
    → HoldsBy t by (λ u. MatchOption cost (¬ (IsLegal u plan)) (IsLegalAt u plan)) → HoldsBy t by (λ u. IsSoleBound u keeps cost)
sole_by t sizes.Own keeps plan cost sole kept legal = sole_bound t keeps plan sole kept cost legal
sole_by t (sizes.Other fleet count) keeps plan cost sole kept legal = λ u is. sole_there t fleet count u is keeps plan sole kept cost (legal u is)

-- a node that has fallen
pub sized_fallen : (t : Tables) (by : Sizes) (one : Node) (reached : Reached) → HoldsBy t by (λ u. ¬ (Stands u one)) → IsSized t by one reached reached true
sized_fallen t sizes.Own one reached fallen = record { is_bad = fallen; there = refl }
sized_fallen t (sizes.Other fleet count) one reached fallen = λ u same. record { is_bad = fallen u same; there = refl }

-- a node that is passed
pub sized_passed : (t : Tables) (by : Sizes) (one : Node) (before after : Reached) (own : Option ℤ) → HoldsBy t by (λ u. Stands u one) → HoldsBy t by (λ u. IsOwnBound u one.keeps one.tree own)
    → after.number ≡ held_count (before.number + 1) → after.bound ≡ lesser_bound before.bound own → IsSized t by one before after false
sized_passed t sizes.Own one before after own stands is follows lesser = passed_by (Stands t one) (IsOwnBound t one.keeps one.tree) before after own stands is follows lesser
sized_passed t (sizes.Other fleet count) one before after own stands is follows lesser = λ u same. passed_by (Stands u one) (IsOwnBound u one.keeps one.tree) before after own (stands u same) (is u same) follows lesser
