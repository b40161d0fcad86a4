-- The history of a search: what its lists of subproblems come from, and what it says of them.
use Rattle.std.specs.Prelude.{◌≡◌, ◌≢◌, ℕ, suc, ◌+◌, ◌<◌, ◌≤◌, ◌⊎◌, true, false, if◌then◌else◌, List, [], ◌∷◌, ◌++◌, All, length, ⊤, Option, Some, None, IfSome, IsSomeAnd, ℤ, ◌≤ℤ◌}
use Rattle.std.specs.List.Sorted.{IsPermutation}
use Rattle.sums.specs.Places.{list_below}
use Rattle.frac_row.specs.Ratio.{IsCeiling}
use Rattle.fleet_model.specs.Kept.{Domains, narrowed}
use Rattle.fleet_model.specs.Schedule.{IsPair, leg_on}
use Rattle.fleet_model.specs.Whole.{KeepAllowed}
use Rattle.fleet_model.specs.declared.parts.Pair.{Pair}
use Rattle.fleet_model.specs.declared.tables.Tables.{Tables}
use Rattle.plan_judge.specs.LegalPlans.{IsLegalPlan}
use Rattle.plan_judge.specs.declared.legal_plans.LegalPlan.{LegalPlan}
use Rattle.dual_bound.specs.Worth.{worth_of}
use Rattle.dual_bound.specs.declared.nodes.Node.{Node}
use Rattle.dual_bound.specs.declared.nodes.Node.TheVariants as node
use Rattle.dual_bound.specs.declared.prices.Prices.{Prices}
use Rattle.dual_bound.specs.declared.trees.Tree.{Tree}
use Rattle.node_bounding.specs.Causes.{zero_prices}
use Rattle.node_bounding.specs.Examined.{IsDoneLeaf, IsStoppedBy}
use Rattle.node_bounding.specs.Found.{IsEndOf}
use Rattle.node_bounding.specs.Made.{IsInTurn, IsMadeAs, best_before}
use Rattle.branch_bound.specs.Ranks.{AreRanks, IsOver, RankComesBefore, ranks_with}
use Rattle.node_bounding.specs.Subproblems.{IsNoMore, IsPart, IsRightState, cost_of_plan, node_of}
use Rattle.branch_bound.specs.Search.{IsSplitBy, at, step_into}
use Rattle.node_bounding.specs.Trims.{AreSearched}
use Rattle.node_bounding.specs.Worked.{IsOpenWorth, Worked, worked_in}
use Rattle.branch_bound.specs.declared.ranks.Rank.{Rank}
use Rattle.branch_bound.specs.declared.search.Search.{Search}
use Rattle.node_bounding.specs.declared.states.Fraction.{Fraction}
use Rattle.branch_bound.specs.declared.subproblems.Origin.{Origin}
use Rattle.node_bounding.specs.declared.states.State.{State}
use Rattle.node_bounding.specs.declared.states.State.TheVariants as state
use Rattle.branch_bound.specs.declared.subproblems.Subproblem.{Subproblem}

-- Of each subproblem, by its number: what was worked, what a plan costs that was found at it, and where its parts are.
-- `level` is the rounded worth of the last split.
pub record Chronicle : Type 0 where
  pub made : ℕ → Worked
  pub found : ℕ → Option ℤ
  pub parts : ℕ → ℕ
  pub level : Option ℤ

-- the rounded worth of a split is no more than a level, that of a leaf which is open for splits no less
abbrev pub IsAtLevel : Tables → Option ℤ → Domains → Node → Type 0
IsAtLevel t level keeps (node.Split leg choice prices mixed) = (worth : ℤ) → IsCeiling (worth_of t keeps prices 1) prices.scale worth → IsSomeAnd level (λ l. worth ≤ℤ l)
IsAtLevel t level keeps (node.Open prices why) = (worth : ℤ) → IsOpenWorth t keeps prices why worth → IfSome level (λ l. l ≤ℤ worth)
IsAtLevel t level keeps (node.Bare leg) = ⊤
IsAtLevel t level keeps node.Sole = ⊤
IsAtLevel t level keeps (node.Refuted prices) = ⊤
IsAtLevel t level keeps (node.Priced prices) = ⊤
IsAtLevel t level keeps (node.Trim leg choice) = ⊤

-- a plan is found at one of the subproblems
pub record IsPlanPlaced (t : Tables) (plan : LegalPlan) (count : ℕ) (c : Chronicle) : Type 0 where
  pub number : ℕ
  pub within : number < count
  pub end : IsEndOf t plan.assignment plan.cost (c.made number)

-- what so many subproblems were made as, in which order, and what the cheapest plan is behind them
pub record IsChronicleTold (t : Tables) (best : Option LegalPlan) (count : ℕ) (c : Chronicle) : Type 0 where
  pub each : (k : ℕ) → k < count → IsMadeAs t (best_before c.found k) (c.made k).keeps (c.made k).node (c.found k)
  pub turns : (k : ℕ) → k < count → IsInTurn t count c.made c.found c.parts k (c.made k).node
  pub cheapest : cost_of_plan best ≡ best_before c.found count
  pub levels : (k : ℕ) → k < count → IsAtLevel t c.level (c.made k).keeps (c.made k).node
  pub cost_from : IfSome c.level (λ l. IfSome (cost_of_plan best) (λ cost. l ≤ℤ cost))
  pub place : IfSome best (λ plan. IsPlanPlaced t plan count c)

-- ---- the list
-- where a subproblem is in the list by what it is a part of
pub record IsPartOf (all : List Subproblem) (parts : ℕ → ℕ) (k : ℕ) (origin : Origin) : Type 0 where
  pub earlier : origin.parent < k
  pub of_split : IsSplitBy origin.step (at all origin.parent).state
  pub place : ◌≡◌ {A = ℕ} k (if origin.step.yes then parts origin.parent else suc (parts origin.parent))

abbrev pub IsFrom : List Subproblem → (ℕ → ℕ) → ℕ → Option Origin → Type 0
IsFrom all parts k None = k ≡ 0
IsFrom all parts k (Some origin) = IsPartOf all parts k origin

-- both parts of a split are in the list
pub record HasSplitParts (all : List Subproblem) (parts : ℕ → ℕ) (k : ℕ) (pair : Pair) : Type 0 where
  pub within : suc (parts k) < length all
  pub with_pair : (at all (parts k)).origin ≡ Some (record { parent = k; step = step_into pair true })
  pub without : (at all (suc (parts k))).origin ≡ Some (record { parent = k; step = step_into pair false })

abbrev pub HasItsParts : List Subproblem → (ℕ → ℕ) → ℕ → State → Type 0
HasItsParts all parts k (state.Leaf leaf) = ⊤
HasItsParts all parts k (state.Stopped s) = ⊤
HasItsParts all parts k (state.Waiting f) = ⊤
HasItsParts all parts k (state.Split f) = HasSplitParts all parts k f.pair

-- a subproblem is linked to what it is a part of, and to its own parts
pub record IsLinked (all : List Subproblem) (parts : ℕ → ℕ) (k : ℕ) : Type 0 where
  pub from : IsFrom all parts k (at all k).origin
  pub own : HasItsParts all parts k (at all k).state

-- which pairs a subproblem keeps
abbrev pub KeepsBy : Tables → Domains → (ℕ → Worked) → ℕ → Option Origin → Type 0
KeepsBy t root made k None = (made k).keeps ≡ root
KeepsBy t root made k (Some origin) = IsPair t (leg_on origin.step.leg origin.step.choice) × ((made k).keeps ≡ narrowed (made origin.parent).keeps origin.step)

-- the subproblem with a number, in the list and in the chronicle
pub record IsNumbered (t : Tables) (root : Domains) (all : List Subproblem) (c : Chronicle) (k : ℕ) : Type 0 where
  pub linked : IsLinked all c.parts k
  pub node : (c.made k).node ≡ node_of (at all k).state
  pub keeps : KeepsBy t root c.made k (at all k).origin
  pub allowed : KeepAllowed t (c.made k).keeps

-- the prices of a node, and those of the nearest split above
abbrev pub prices_in : Tables → Node → Prices
prices_in t (node.Split leg choice prices mixed) = prices
prices_in t (node.Open prices why) = prices
prices_in t other = zero_prices t

abbrev pub prices_above : Tables → (ℕ → Worked) → Option Origin → Prices
prices_above t made None = zero_prices t
prices_above t made (Some origin) = prices_in t (made origin.parent).node

-- what is known of the subproblem with a number, where the plan in the end has this cost
abbrev pub IsRightAt : Tables → Option ℕ → Option ℤ → List Subproblem → Chronicle → ℕ → Type 0
IsRightAt t pivots final all c k = IsRightState t pivots final (c.made k).keeps (prices_above t c.made (at all k).origin) (at all k).state

-- while a search goes on, its leaves are of one node each
abbrev pub IsSingle : State → Type 0
IsSingle (state.Leaf leaf) = IsDoneLeaf leaf
IsSingle (state.Stopped s) = IsStoppedBy s.why
IsSingle (state.Waiting f) = ⊤
IsSingle (state.Split f) = ⊤

-- where a search stands that began with the pairs that `root` keeps
pub record IsSearch (t : Tables) (root : Domains) (s : Search) : Type 0 where
  pub plan : IfSome s.best (IsLegalPlan t)
  pub within : s.splits ≤ s.nodes
  pub count : length s.made.items ≡ suc (s.splits + s.splits)
  pub chronicle : Chronicle
  pub told : IsChronicleTold t s.best (length s.made.items) chronicle
  pub numbered : (k : ℕ) → k < length s.made.items → IsNumbered t root s.made.items chronicle k
  pub right : (final : Option ℤ) → IsNoMore (cost_of_plan s.best) final → (k : ℕ) → k < length s.made.items → IsRightAt t s.pivots final s.made.items chronicle k
  pub singles : (k : ℕ) → k < length s.made.items → IsSingle (at s.made.items k).state
  pub ranks : AreRanks s.made.items s.waiting.keys

-- a search of which nothing more is split
pub record IsSearchDone (t : Tables) (nodes : ℕ) (pivots : Option ℕ) (root : Domains) (s : Search) : Type 0 where
  pub search : IsSearch t root s
  pub splits_allowed : s.nodes ≡ nodes
  pub pivots_allowed : s.pivots ≡ pivots
  pub over : IsOver s

-- ---- how a search changes
-- a subproblem waits to be split, and this holds of its fraction
abbrev pub WaitsWith : (Fraction → Type 0) → State → Type 0
WaitsWith P (state.Leaf leaf) = ⊥
WaitsWith P (state.Stopped s) = ⊥
WaitsWith P (state.Waiting f) = P f
WaitsWith P (state.Split f) = ⊥

-- a subproblem is put behind those that were made
pub record IsPut (before after : Search) (origin : Option Origin) (one : State) : Type 0 where
  pub nodes : after.nodes ≡ before.nodes
  pub pivots : after.pivots ≡ before.pivots
  pub best : after.best ≡ before.best
  pub splits : after.splits ≡ before.splits
  pub made : after.made.items ≡ before.made.items ++ record { origin = origin; state = one } ∷ []
  pub ranks : after.waiting.keys ≡ ranks_with before.waiting.keys (length before.made.items) one

-- a subproblem that waited is split
abbrev pub split_state : State → State
split_state (state.Leaf leaf) = state.Leaf leaf
split_state (state.Stopped s) = state.Stopped s
split_state (state.Waiting f) = state.Split f
split_state (state.Split f) = state.Split f

-- a list after one of its subproblems was split, and both parts were put behind it
pub record IsGrown (before after : List Subproblem) (number : ℕ) (pair : Pair) (yes no : State) : Type 0 where
  pub longer : length after ≡ suc (suc (length before))
  pub split : at after number ≡ record { origin = (at before number).origin; state = split_state (at before number).state }
  pub same : (k : ℕ) → k < length before → k ≢ number → at after k ≡ at before k
  pub with_pair : at after (length before) ≡ record { origin = Some (record { parent = number; step = step_into pair true }); state = yes }
  pub without : at after (suc (length before)) ≡ record { origin = Some (record { parent = number; step = step_into pair false }); state = no }

-- a search after it
pub record IsSplitSearch (before after : Search) (number : ℕ) (pair : Pair) (yes no : State) : Type 0 where
  pub nodes : after.nodes ≡ before.nodes
  pub pivots : after.pivots ≡ before.pivots
  pub best : after.best ≡ before.best
  pub splits : after.splits ≡ suc before.splits
  pub made : IsGrown before.made.items after.made.items number pair yes no
  pub later : (rank : Rank) (rest : List Rank) → before.waiting.keys ≡ rank ∷ rest → All (RankComesBefore rank) rest
  pub ranks : (rank : Rank) (rest : List Rank) → before.waiting.keys ≡ rank ∷ rest
      → after.waiting.keys ≡ ranks_with (ranks_with rest (length before.made.items) yes) (suc (length before.made.items)) no

-- ---- the tree
-- the tree of the first subproblem
pub record IsGrownTree (t : Tables) (root : Domains) (pivots : Option ℕ) (final : Option ℤ) (count : ℕ) (c : Chronicle) (tree : Tree) : Type 0 where
  pub part : IsPart t pivots final root (zero_prices t) tree
  pub searched : AreSearched t root tree
  pub all : IsPermutation (list_below c.made count) (worked_in root tree)

-- a leaf that is open for splits has a rounded worth that the cost of a plan reaches
abbrev pub IsReachedNode : Tables → Option ℤ → Domains → Node → Type 0
IsReachedNode t cost keeps (node.Open prices why) = (worth : ℤ) → IsOpenWorth t keeps prices why worth → IsSomeAnd cost (λ c. c ≤ℤ worth)
IsReachedNode t cost keeps other = ⊤

-- what a search comes to: its tree, and its cheapest plan
pub record SearchComesTo (t : Tables) (nodes : ℕ) (pivots : Option ℕ) (root : Domains) (best : Option LegalPlan) (tree : Tree) : Type 0 where
  pub plan : IfSome best (IsLegalPlan t)
  pub splits : ℕ
  pub few : splits ≤ nodes
  pub count : ℕ
  pub twice : count ≡ suc (splits + splits)
  pub chronicle : Chronicle
  pub told : IsChronicleTold t best count chronicle
  pub grown : IsGrownTree t root pivots (cost_of_plan best) count chronicle tree
  pub over : (splits ≡ nodes) ⊎ ((k : ℕ) → k < count → IsReachedNode t (cost_of_plan best) (chronicle.made k).keeps (chronicle.made k).node)
