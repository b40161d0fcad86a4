-- The order in which the subproblems of a search are made: what is found at each, and when each split is split.
use Rattle.std.specs.Prelude.{◌≡◌, ℕ, zero, suc, ◌<◌, ◌⊎◌, true, false, List, ⊤, Option, Some, None, IfSome, IsSomeAnd, ℤ, ◌<ℤ◌}
use Rattle.std.specs.List.Sorted.{IsPermutation}
use Rattle.sums.specs.Places.{list_below}
use Rattle.frac_row.specs.Ratio.{IsCeiling}
use Rattle.fleet_model.specs.Kept.{Domains, IsKeptAssignment, all_pairs}
use Rattle.fleet_model.specs.Legal.{IsLegal, total_cost}
use Rattle.fleet_model.specs.declared.tables.Tables.{Tables}
use Rattle.dual_bound.specs.Bound.{IsSoleBound, lesser_bound, part}
use Rattle.dual_bound.specs.Worth.{worth_of}
use Rattle.dual_bound.specs.declared.nodes.Node.{Node}
use Rattle.dual_bound.specs.declared.nodes.Node.TheVariants as node
use Rattle.dual_bound.specs.declared.prices.Prices.{Prices}
use Rattle.dual_bound.specs.declared.trees.Cause.{Cause}
use Rattle.dual_bound.specs.declared.trees.Cause.TheVariants as cause
use Rattle.dual_bound.specs.declared.trees.Tree.{Tree}
use Rattle.cert_check.specs.Rules.{ReachesCost}
use Rattle.node_bounding.specs.Found.{FallsShort}
use Rattle.node_bounding.specs.Worked.{IsOpenWorth, Worked, searched_in}

-- What the cheapest plan costs when a subproblem is made, by its number: the least of what was found before.
abbrev pub best_before : (ℕ → Option ℤ) → ℕ → Option ℤ
best_before found zero = None
best_before found (suc k) = lesser_bound (best_before found k) (found k)

-- the rounded worth of the prices reaches the cost of the cheapest plan so far
pub record IsCostReached (t : Tables) (keeps : Domains) (prices : Prices) (best found : Option ℤ) : Type 0 where
  pub reaches : IsSomeAnd best (ReachesCost t keeps prices)
  pub none : found ≡ None

-- the rounded worth of the prices is what a legal assignment of kept pairs costs, and that was found
pub record IsWholeFound (t : Tables) (keeps : Domains) (prices : Prices) (found : Option ℤ) : Type 0 where
  pub plan : List ℕ
  pub kept : IsKeptAssignment t keeps plan
  pub legal : IsLegal t plan
  pub worth : IsCeiling (worth_of t keeps prices 1) prices.scale (total_cost t plan)
  pub is : found ≡ Some (total_cost t plan)

-- the rounded worth of the prices is below the cost of the cheapest plan so far, if there is one
abbrev pub IsBelowBest : Tables → Domains → Prices → Option ℤ → Type 0
IsBelowBest t keeps prices best = IfSome best (FallsShort t keeps prices)

-- a leaf that is open for splits could have been split
abbrev pub CouldBeSplit : Tables → Domains → Prices → Cause → Option ℤ → Type 0
CouldBeSplit t keeps prices (cause.Nodes mixed) best = IsBelowBest t keeps prices best
CouldBeSplit t keeps prices (cause.Pivots made) best = ⊤
CouldBeSplit t keeps prices (cause.Grew made row column) best = ⊤
CouldBeSplit t keeps prices (cause.Lift step at) best = ⊤

-- What becomes of a subproblem that is made when the cheapest plan costs `best`, and what a plan costs that is found at
-- it. A leaf is priced where its rounded worth reaches the best cost, or where a plan is found that costs as much.
abbrev pub IsMadeAs : Tables → Option ℤ → Domains → Node → Option ℤ → Type 0
IsMadeAs t best keeps (node.Bare leg) found = found ≡ None
IsMadeAs t best keeps node.Sole found = IsSoleBound t keeps found
IsMadeAs t best keeps (node.Refuted prices) found = found ≡ None
IsMadeAs t best keeps (node.Priced prices) found = IsCostReached t keeps prices best found ⊎ IsWholeFound t keeps prices found
IsMadeAs t best keeps (node.Open prices why) found = CouldBeSplit t keeps prices why best × (found ≡ None)
IsMadeAs t best keeps (node.Trim leg choice) found = ⊥
IsMadeAs t best keeps (node.Split leg choice prices mixed) found = found ≡ None

-- A subproblem that could be split and isn't yet at some number: it never is, or its own parts, which are made at
-- `parts`, come later. It has this rounded worth.
abbrev pub WaitsAs : Tables → Domains → Node → ℕ → ℕ → ℤ → Type 0
WaitsAs t keeps (node.Open prices why) parts number worth = IsOpenWorth t keeps prices why worth
WaitsAs t keeps (node.Split leg choice prices mixed) parts number worth = (number < parts) × IsCeiling (worth_of t keeps prices 1) prices.scale worth
WaitsAs t keeps (node.Bare leg) parts number worth = ⊥
WaitsAs t keeps node.Sole parts number worth = ⊥
WaitsAs t keeps (node.Refuted prices) parts number worth = ⊥
WaitsAs t keeps (node.Priced prices) parts number worth = ⊥
WaitsAs t keeps (node.Trim leg choice) parts number worth = ⊥

-- a subproblem is split before another: it has the lesser rounded worth, or the same and was made first
abbrev pub IsNextBefore : ℤ → ℕ → ℤ → ℕ → Type 0
IsNextBefore worth k other j = (worth <ℤ other) ⊎ ((worth ≡ other) × (k < j))

-- A split. Its parts are made after it, one behind the other, the part with the pair first. By then its rounded worth is
-- below the cost of the cheapest plan, and of all that wait it comes first.
pub record IsSplitInTurn (t : Tables) (count : ℕ) (made : ℕ → Worked) (found : ℕ → Option ℤ) (parts : ℕ → ℕ) (k leg choice : ℕ) (prices : Prices) : Type 0 where
  pub later : k < parts k
  pub within : suc (parts k) < count
  pub with_pair : (made (parts k)).keeps ≡ part (made k).keeps leg choice true
  pub without : (made (suc (parts k))).keeps ≡ part (made k).keeps leg choice false
  pub below : IsBelowBest t (made k).keeps prices (best_before found (parts k))
  pub first : (j : ℕ) (worth other : ℤ) → j < parts k → IsCeiling (worth_of t (made k).keeps prices 1) prices.scale worth
      → WaitsAs t (made j).keeps (made j).node (parts j) (parts k) other → IsNextBefore worth k other j

-- where a subproblem is a split, it is split in turn
abbrev pub IsInTurn : Tables → ℕ → (ℕ → Worked) → (ℕ → Option ℤ) → (ℕ → ℕ) → ℕ → Node → Type 0
IsInTurn t count made found parts k (node.Split leg choice prices mixed) = IsSplitInTurn t count made found parts k leg choice prices
IsInTurn t count made found parts k other = ⊤

-- The subproblems of a tree, below its trims, were made one by one: `made` has them by their numbers, `found` what a plan
-- costs that was found at each, and `parts` where the parts of each split are. In the end the cheapest plan costs `cost`.
pub record AreMade (t : Tables) (cost : Option ℤ) (tree : Tree) : Type 0 where
  pub count : ℕ
  pub made : ℕ → Worked
  pub found : ℕ → Option ℤ
  pub parts : ℕ → ℕ
  pub all : IsPermutation (list_below made count) (searched_in (all_pairs t) tree)
  pub each : (k : ℕ) → k < count → IsMadeAs t (best_before found k) (made k).keeps (made k).node (found k)
  pub turns : (k : ℕ) → k < count → IsInTurn t count made found parts k (made k).node
  pub best : cost ≡ best_before found count
