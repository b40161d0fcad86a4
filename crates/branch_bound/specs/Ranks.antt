-- In which order subproblems that wait are split.
use Rattle.std.specs.Prelude.{◌≡◌, ℕ, ◌<◌, ◌≤◌, ◌⊎◌, List, All, length, slice_get, Some, IfSome, IsSomeAnd, ℤ, ◌≤ℤ◌, ◌<ℤ◌}
use Rattle.std.specs.List.{Contains}
use Rattle.std.specs.BTreeSet.{insert_key}
use Rattle.std.specs.Ordering.{int_cmp, nat_cmp, ordering_then}
use Rattle.std.specs.declared.cmp.Ordering.{Ordering}
use Rattle.node_bounding.specs.Made.{IsNextBefore}
use Rattle.node_bounding.specs.Subproblems.{cost_of_plan}
use Rattle.branch_bound.specs.Search.{at}
use Rattle.branch_bound.specs.declared.ranks.Rank.{Rank}
use Rattle.branch_bound.specs.declared.search.Search.{Search}
use Rattle.node_bounding.specs.declared.states.State.{State}
use Rattle.node_bounding.specs.declared.states.State.TheVariants as state
use Rattle.branch_bound.specs.declared.subproblems.Subproblem.{Subproblem}

-- by rounded worth, and at a tie by number
abbrev pub rank_cmp : Rank → Rank → Ordering
rank_cmp a b = ordering_then (int_cmp a.worth b.worth) (nat_cmp a.number b.number)

-- a rank comes before another
pub record RankComesBefore (rank other : Rank) : Type 0 where
  pub is : IsNextBefore rank.worth rank.number other.worth other.number

-- a rank comes before another, or is the same
pub record IsNoLater (rank other : Rank) : Type 0 where
  pub is : (other ≡ rank) ⊎ IsNextBefore rank.worth rank.number other.worth other.number

-- a subproblem waits, of this rounded worth
abbrev pub IsWaitingAt : State → ℤ → Type 0
IsWaitingAt (state.Leaf leaf) worth = ⊥
IsWaitingAt (state.Stopped s) worth = ⊥
IsWaitingAt (state.Waiting f) worth = f.worth ≡ worth
IsWaitingAt (state.Split f) worth = ⊥

-- a rank is that of a subproblem that waits
pub record IsRankIn (all : List Subproblem) (rank : Rank) : Type 0 where
  pub within : rank.number < length all
  pub waits : IsWaitingAt (at all rank.number).state rank.worth

-- the ranks are those of the subproblems that wait
pub record AreRanks (all : List Subproblem) (ranks : List Rank) : Type 0 where
  pub each : All (IsRankIn all) ranks
  pub every : (k : ℕ) (worth : ℤ) → k < length all → IsWaitingAt (at all k).state worth → Contains ranks (record { worth = worth; number = k })

-- the ranks once one more subproblem is made, with this number
abbrev pub ranks_with : List Rank → ℕ → State → List Rank
ranks_with ranks number (state.Leaf leaf) = ranks
ranks_with ranks number (state.Stopped s) = ranks
ranks_with ranks number (state.Waiting f) = insert_key rank_cmp ranks (record { worth = f.worth; number = number })
ranks_with ranks number (state.Split f) = ranks

-- a split is allowed, and this is the first of the subproblems that wait; its rounded worth is below the cost of the
-- cheapest plan
pub record IsNextRank (s : Search) (rank : Rank) : Type 0 where
  pub room : s.splits < s.nodes
  pub head : slice_get s.waiting.keys 0 ≡ Some rank
  pub least : All (IsNoLater rank) s.waiting.keys
  pub below : IfSome (cost_of_plan s.best) (λ c. rank.worth <ℤ c)

-- there is a plan that costs no more than the rounded worth of a rank
pub record IsReachedBy (s : Search) (rank : Rank) : Type 0 where
  pub cost : IsSomeAnd (cost_of_plan s.best) (λ c. c ≤ℤ rank.worth)

-- nothing more is split: all splits are made, or the rounded worth of each subproblem that waits reaches the best cost
abbrev pub IsOver : Search → Type 0
IsOver s = (s.nodes ≤ s.splits) ⊎ All (IsReachedBy s) s.waiting.keys
