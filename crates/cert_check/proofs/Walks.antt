-- The parts of a tree: its nodes, and what is asked of them.
use Rattle.std.proofs.Common.{◌≡◌, ℕ, ◌+◌, ◌*◌, ◌<◌, ◌≤◌, Bool, true, false, List, [], ◌∷◌, ◌++◌, All, Option, Some, None, ℤ, length-append, refl, sym, ap, subst, arith}
use Rattle.std.specs.Prelude.{int_le}
use Rattle.std.proofs.lemmas.Int.{ints}
use Rattle.std.proofs.lemmas.List.{get_or_append_left}
use Rattle.std.proofs.lemmas.List.Elements.{All-head, All-tail}
use Rattle.fleet_model.specs.Kept.{Domains}
use Rattle.fleet_model.specs.Schedule.{IsPair, leg_on}
use Rattle.fleet_model.specs.declared.parts.Pair.{Pair}
use Rattle.fleet_model.specs.declared.tables.Tables.{Tables}
use Rattle.dual_bound.specs.Bound.{lesser_bound, part}
use Rattle.dual_bound.specs.Dropping.{IsLeaf}
use Rattle.dual_bound.specs.OfTables.{IsOfTables}
use Rattle.dual_bound.specs.Parts.{ArePartsOf}
use Rattle.dual_bound.specs.Worth.{lesser}
use Rattle.dual_bound.specs.declared.trees.Tree.{Tree}
use Rattle.dual_bound.specs.declared.trees.Tree.TheVariants as tree
use Rattle.cert_check.specs.Nodes.{Node, nodes_below, nodes_in}
use Rattle.cert_check.proofs.TreeSizes.{node_count}

abbrev pub node : Domains → Tree → Node
node keeps whole = record { keeps = keeps; tree = whole }

-- the first of a tree's nodes is its own
pub its_own : (keeps : Domains) (whole : Tree) → (rest : List Node) × (nodes_in keeps whole ≡ node keeps whole ∷ rest)
its_own keeps (tree.Bare leg) = ([], refl)
its_own keeps tree.Sole = ([], refl)
its_own keeps (tree.Refuted prices) = ([], refl)
its_own keeps (tree.Priced prices) = ([], refl)
its_own keeps (tree.Open prices why) = ([], refl)
its_own keeps (tree.Trim' leg choice p with_pair q without) = (nodes_in (part keeps leg choice true) with_pair ++ nodes_in (part keeps leg choice false) without, refl)
its_own keeps (tree.Split' leg choice prices mixed p with_pair q without) = (nodes_in (part keeps leg choice true) with_pair ++ nodes_in (part keeps leg choice false) without, refl)

-- and that of a leaf its only one
pub of_leaf : (keeps : Domains) (whole : Tree) → IsLeaf whole → nodes_in keeps whole ≡ node keeps whole ∷ []
of_leaf keeps (tree.Bare leg) leaf = refl
of_leaf keeps tree.Sole leaf = refl
of_leaf keeps (tree.Refuted prices) leaf = refl
of_leaf keeps (tree.Priced prices) leaf = refl
of_leaf keeps (tree.Open prices why) leaf = refl
of_leaf keeps (tree.Trim' leg choice p with_pair q without) leaf = absurd leaf
of_leaf keeps (tree.Split' leg choice prices mixed p with_pair q without) leaf = absurd leaf

-- ---- bounds
-- of three bounds it is one which two are compared first
pub lesser_of_three : (x y z : Option ℤ) → lesser_bound (lesser_bound x y) z ≡ lesser_bound x (lesser_bound y z)
lesser_of_three x y None = refl
lesser_of_three x None (Some c) = refl
lesser_of_three None (Some b) (Some c) = refl
lesser_of_three (Some a) (Some b) (Some c) = ap Some (by_order (int_le a b) (int_le b c) (int_le a c) refl refl refl)
  where
    by_order : (ab bc ac : Bool) → int_le a b ≡ ab → int_le b c ≡ bc → int_le a c ≡ ac → lesser (Some (lesser (Some a) b)) c ≡ lesser (Some a) (lesser (Some b) c)
    by_order ab bc ac p q r = grind (arith, ints)

-- beside no bound so far
pub from_none : (b : Option ℤ) → lesser_bound None b ≡ b
from_none None = refl
from_none (Some x) = refl

-- ---- each of two lists
pub first_all : (P : Node → Type 0) (xs ys : List Node) → All P (xs ++ ys) → All P xs
first_all P xs ys all k d below = subst P (get_or_append_left xs ys d k below) (all k d (omega (arith, length-append xs ys)))

pub second_all : (P : Node → Type 0) (xs ys : List Node) → All P (xs ++ ys) → All P ys
second_all P [] ys all = all
second_all P (x ∷ xs) ys all = second_all P xs ys (All-tail P x (xs ++ ys) all)

-- ---- a tree that has parts
-- what the parts of a tree tell of the whole
pub record HaveParts (t : Tables) (keeps : Domains) (whole : Tree) (pair : Pair) (first second : Tree) : Type 0 where
  pub order : nodes_in keeps whole ≡ node keeps whole ∷ nodes_below keeps pair first second
  pub known : IsOfTables t whole → IsPair t (leg_on pair.leg pair.choice) × (IsOfTables t first × IsOfTables t second)
  pub first_less : node_count first < node_count whole
  pub second_less : node_count second < node_count whole

pub have_parts : (t : Tables) (keeps : Domains) (whole : Tree) (pair : Pair) (first second : Tree) → ArePartsOf whole pair first second → HaveParts t keeps whole pair first second
have_parts t keeps (tree.Bare leg) pair first second is = absurd is
have_parts t keeps tree.Sole pair first second is = absurd is
have_parts t keeps (tree.Refuted prices) pair first second is = absurd is
have_parts t keeps (tree.Priced prices) pair first second is = absurd is
have_parts t keeps (tree.Open prices why) pair first second is = absurd is
have_parts t keeps (tree.Trim' leg choice p with_pair q without) pair first second is =
    rw (is.pair_is, is.first_is, is.second_is) (record { order = refl; known = λ known. (known.0, (known.1, known.2)); first_less = omega arith; second_less = omega arith })
have_parts t keeps (tree.Split' leg choice prices mixed p with_pair q without) pair first second is =
    rw (is.pair_is, is.first_is, is.second_is) (record { order = refl; known = λ known. (known.0, (known.3, known.4)); first_less = omega arith; second_less = omega arith })

-- what all nodes are asked, the node itself is
pub asked_here : (P : Node → Type 0) (keeps : Domains) (whole : Tree) → All P (nodes_in keeps whole) → P (node keeps whole)
asked_here P keeps whole all = All-head P (node keeps whole) (its_own keeps whole).0 (subst (All P) (its_own keeps whole).1 all)

-- what is asked at a part, where it holds of the whole: the walk over it is shorter, and all its nodes are asked
module _ (P : Node → Type 0) (t : Tables) (keeps : Domains) (whole : Tree) (pair : Pair) (first second : Tree) (are : ArePartsOf whole pair first second) (bound : ℕ)
    (shorter : 2 * node_count whole ≤ bound) (known : IsOfTables t whole) (all : All P (nodes_in keeps whole)) where
  parts : HaveParts t keeps whole pair first second
  parts = have_parts t keeps whole pair first second are

  below : All P (nodes_below keeps pair first second)
  below = All-tail P (node keeps whole) _ (subst (All P) parts.order all)

  pub first_next : (2 * node_count first + 1 < bound) × (IsPair t (leg_on pair.leg pair.choice) × (IsOfTables t first × All P (nodes_in (part keeps pair.leg pair.choice true) first)))
  first_next = (omega (arith, shorter, parts.first_less), ((parts.known known).0, ((parts.known known).1.0, first_all P _ _ below)))

  pub second_next : (now : Domains) → now ≡ keeps → (2 * node_count second + 1 < bound) × (IsPair t (leg_on pair.leg pair.choice) × (IsOfTables t second × All P (nodes_in (part now pair.leg pair.choice false) second)))
  second_next now same = (
    omega (arith, shorter, parts.second_less),
    (
      (parts.known known).0,
      ((parts.known known).1.1, subst (λ k. All P (nodes_in (part k pair.leg pair.choice false) second)) (sym same) (second_all P (nodes_in (part keeps pair.leg pair.choice true) first) _ below)),
    ),
  )
