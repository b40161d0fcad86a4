-- How deep a tree is, how many splits it has, and which of its leaves are open.
use Rattle.std.specs.Prelude.{ℕ, suc, ◌+◌, ◌^◌, ◌-◌, Bool, true, false, ◌||◌, min, max}
use Rattle.dual_bound.specs.declared.trees.Cause.{Cause}
use Rattle.dual_bound.specs.declared.trees.Cause.TheVariants as cause
use Rattle.dual_bound.specs.declared.trees.Tree.{Tree}
use Rattle.dual_bound.specs.declared.trees.Tree.TheVariants as tree
use Rattle.dual_bound.specs.declared.trees.TreeCounts.{TreeCounts}

-- the most trims and splits above a leaf
abbrev pub depth_of : Tree → ℕ
depth_of (tree.Bare leg) = 0
depth_of tree.Sole = 0
depth_of (tree.Refuted prices) = 0
depth_of (tree.Priced prices) = 0
depth_of (tree.Open prices why) = 0
depth_of (tree.Trim' leg choice p with_pair q without) = suc (max (depth_of with_pair) (depth_of without))
depth_of (tree.Split' leg choice prices mixed p with_pair q without) = suc (max (depth_of with_pair) (depth_of without))

-- how many subproblems were split; a trim is no split
abbrev pub splits_in : Tree → ℕ
splits_in (tree.Bare leg) = 0
splits_in tree.Sole = 0
splits_in (tree.Refuted prices) = 0
splits_in (tree.Priced prices) = 0
splits_in (tree.Open prices why) = 0
splits_in (tree.Trim' leg choice p with_pair q without) = splits_in with_pair + splits_in without
splits_in (tree.Split' leg choice prices mixed p with_pair q without) = suc (splits_in with_pair + splits_in without)

-- whether a leaf stayed open
abbrev pub has_open : Tree → Bool
has_open (tree.Bare leg) = false
has_open tree.Sole = false
has_open (tree.Refuted prices) = false
has_open (tree.Priced prices) = false
has_open (tree.Open prices why) = true
has_open (tree.Trim' leg choice p with_pair q without) = has_open with_pair || has_open without
has_open (tree.Split' leg choice prices mixed p with_pair q without) = has_open with_pair || has_open without

-- the open leaves, each counted as its cause is
abbrev pub open_by : (Cause → ℕ) → Tree → ℕ
open_by count (tree.Bare leg) = 0
open_by count tree.Sole = 0
open_by count (tree.Refuted prices) = 0
open_by count (tree.Priced prices) = 0
open_by count (tree.Open prices why) = count why
open_by count (tree.Trim' leg choice p with_pair q without) = open_by count with_pair + open_by count without
open_by count (tree.Split' leg choice prices mixed p with_pair q without) = open_by count with_pair + open_by count without

-- 1 where no more subproblems were allowed, else 0
abbrev pub by_nodes : Cause → ℕ
by_nodes (cause.Nodes mixed) = 1
by_nodes (cause.Pivots made) = 0
by_nodes (cause.Grew pivots row column) = 0
by_nodes (cause.Lift step at) = 0

-- 1 where no more pivots were allowed, else 0
abbrev pub by_pivots : Cause → ℕ
by_pivots (cause.Nodes mixed) = 0
by_pivots (cause.Pivots made) = 1
by_pivots (cause.Grew pivots row column) = 0
by_pivots (cause.Lift step at) = 0

-- 1 where a number outgrew its limit, in a pivot or in the prices, else 0
abbrev pub by_grew : Cause → ℕ
by_grew (cause.Nodes mixed) = 0
by_grew (cause.Pivots made) = 0
by_grew (cause.Grew pivots row column) = 1
by_grew (cause.Lift step at) = 1

-- how many leaves are open by each cause
abbrev pub open_nodes : Tree → ℕ
open_nodes = open_by by_nodes

abbrev pub open_pivots : Tree → ℕ
open_pivots = open_by by_pivots

abbrev pub open_grew : Tree → ℕ
open_grew = open_by by_grew

-- a count as 64 bits hold it: it stays at their greatest number once there
abbrev pub held_count : ℕ → ℕ
held_count n = min n (2 ^ 64 - 1)

-- all these counts of a tree, as they are held
abbrev pub counts_of : Tree → TreeCounts
counts_of tree = record { splits = held_count (splits_in tree); open_nodes = held_count (open_nodes tree); open_pivots = held_count (open_pivots tree); open_grew = held_count (open_grew tree) }
