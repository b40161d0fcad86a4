-- The parts of a trim or a split.
use Rattle.std.specs.Prelude.{◌≡◌, ℕ}
use Rattle.fleet_model.specs.Schedule.{leg_on}
use Rattle.fleet_model.specs.declared.parts.Pair.{Pair}
use Rattle.dual_bound.specs.declared.trees.Tree.{Tree}
use Rattle.dual_bound.specs.declared.trees.Tree.TheVariants as tree

-- these are the pair of a leg and a choice, and the two trees below it
pub record IsParted (leg choice : ℕ) (with_pair without : Tree) (pair : Pair) (first second : Tree) : Type 0 where
  pub pair_is : pair ≡ leg_on leg choice
  pub first_is : first ≡ with_pair
  pub second_is : second ≡ without

-- the pair by which a tree is parted, and the trees of its parts; a leaf has none
abbrev pub ArePartsOf : Tree → Pair → Tree → Tree → Type 0
ArePartsOf (tree.Bare leg) pair first second = ⊥
ArePartsOf tree.Sole pair first second = ⊥
ArePartsOf (tree.Refuted prices) pair first second = ⊥
ArePartsOf (tree.Priced prices) pair first second = ⊥
ArePartsOf (tree.Open prices why) pair first second = ⊥
ArePartsOf (tree.Trim' leg choice p with_pair q without) pair first second = IsParted leg choice with_pair without pair first second
ArePartsOf (tree.Split' leg choice prices mixed p with_pair q without) pair first second = IsParted leg choice with_pair without pair first second
