-- The bound of a tree of subproblems.
use Rattle.std.specs.Prelude.{◌≡◌, ℕ, Bool, true, false, List, ℤ, ◌≤ℤ◌, Option, Some, None}
use Rattle.frac_row.specs.Ratio.{IsCeiling}
use Rattle.fleet_model.specs.Kept.{Domains, IsKeptAssignment, all_pairs, narrowed}
use Rattle.fleet_model.specs.Legal.{IsLegal, total_cost}
use Rattle.fleet_model.specs.declared.tables.Tables.{Tables}
use Rattle.dual_bound.specs.Worth.{lesser, worth_of}
use Rattle.dual_bound.specs.declared.prices.Prices.{Prices}
use Rattle.dual_bound.specs.declared.trees.Tree.{Tree}
use Rattle.dual_bound.specs.declared.trees.Tree.TheVariants as tree

-- the worth of prices over their scale, rounded up
pub record IsPriceBound (t : Tables) (keeps : Domains) (prices : Prices) (bound : Option ℤ) : Type 0 where
  pub least : ℤ
  pub is : bound ≡ Some least
  pub rounded : IsCeiling (worth_of t keeps prices 1) prices.scale least

-- the cost of the assignment of kept pairs where it is legal, and nothing where it is not, or where there is none
pub record IsSoleBound (t : Tables) (keeps : Domains) (bound : Option ℤ) : Type 0 where
  pub legal : (a : List ℕ) → IsKeptAssignment t keeps a → IsLegal t a → bound ≡ Some (total_cost t a)
  pub illegal : (a : List ℕ) → IsKeptAssignment t keeps a → ¬ (IsLegal t a) → bound ≡ None
  pub none : ((a : List ℕ) → ¬ (IsKeptAssignment t keeps a)) → bound ≡ None

-- the lesser of two bounds, of which neither need be there
abbrev pub lesser_bound : Option ℤ → Option ℤ → Option ℤ
lesser_bound bound None = bound
lesser_bound bound (Some other) = Some (lesser bound other)

-- the lesser of the bounds of two children
pub record IsLesserBound (yes_has no_has : Option ℤ → Type 0) (bound : Option ℤ) : Type 0 where
  pub with_pair : Option ℤ
  pub without : Option ℤ
  pub yes_is : yes_has with_pair
  pub no_is : no_has without
  pub lesser : bound ≡ lesser_bound with_pair without

-- a subproblem's part in which a leg takes a choice, and the part in which it takes another
abbrev pub part : Domains → ℕ → ℕ → Bool → Domains
part keeps leg choice kept = narrowed keeps (record { leg = leg; choice = choice; yes = kept })

-- the least bound of a tree's leaves in their subproblems, and nothing where no leaf has one
abbrev pub IsBoundIn : Tables → Domains → Tree → Option ℤ → Type 0
IsBoundIn t keeps (tree.Bare leg) bound = bound ≡ None
IsBoundIn t keeps tree.Sole bound = IsSoleBound t keeps bound
IsBoundIn t keeps (tree.Refuted prices) bound = bound ≡ None
IsBoundIn t keeps (tree.Priced prices) bound = IsPriceBound t keeps prices bound
IsBoundIn t keeps (tree.Open prices why) bound = IsPriceBound t keeps prices bound
IsBoundIn t keeps (tree.Trim' leg choice p with_pair q without) bound =
    IsLesserBound (IsBoundIn t (part keeps leg choice true) with_pair) (IsBoundIn t (part keeps leg choice false) without) bound
IsBoundIn t keeps (tree.Split' leg choice prices mixed p with_pair q without) bound =
    IsLesserBound (IsBoundIn t (part keeps leg choice true) with_pair) (IsBoundIn t (part keeps leg choice false) without) bound

-- the bound of a tree over all pairs that may be flown
abbrev pub IsBound : Tables → Tree → Option ℤ → Type 0
IsBound t tree bound = IsBoundIn t (all_pairs t) tree bound

-- each legal assignment costs at least so much
pub record IsLowerBound (t : Tables) (bound : ℤ) : Type 0 where
  pub each : (a : List ℕ) → IsLegal t a → bound ≤ℤ total_cost t a

-- no assignment is legal
pub record IsInfeasible (t : Tables) : Type 0 where
  pub none : (a : List ℕ) → ¬ (IsLegal t a)
