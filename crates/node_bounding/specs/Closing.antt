-- A tree in which each open leaf is closed whose rounded worth reaches the cost of the plan.
use Rattle.std.specs.Prelude.{true, false, Bool, Option, Some, None, if◌then◌else◌, ℤ, pos, ◌-ℤ◌, ◌*ℤ◌, int_lt}
use Rattle.fleet_model.specs.Kept.{Domains, all_pairs}
use Rattle.fleet_model.specs.declared.tables.Tables.{Tables}
use Rattle.dual_bound.specs.Bound.{part}
use Rattle.dual_bound.specs.Worth.{worth_of}
use Rattle.dual_bound.specs.declared.prices.Prices.{Prices}
use Rattle.dual_bound.specs.declared.trees.Tree.{Tree}
use Rattle.dual_bound.specs.declared.trees.Tree.TheVariants as tree

-- the rounded worth of prices reaches a cost: they are worth more than one cost unit less
abbrev pub does_reach : Tables → Domains → Prices → ℤ → Bool
does_reach t keeps prices cost = int_lt ((cost -ℤ pos 1) *ℤ prices.scale) (worth_of t keeps prices 1)

-- a tree whose open leaves are closed by their prices where these reach the cost
abbrev pub closed : Tables → ℤ → Domains → Tree → Tree
closed t cost keeps (tree.Bare leg) = tree.Bare leg
closed t cost keeps tree.Sole = tree.Sole
closed t cost keeps (tree.Refuted prices) = tree.Refuted prices
closed t cost keeps (tree.Priced prices) = tree.Priced prices
closed t cost keeps (tree.Open prices why) = if does_reach t keeps prices cost then tree.Priced prices else tree.Open prices why
closed t cost keeps (tree.Trim' leg fleet p with_pair q without) =
    tree.Trim' leg fleet p (closed t cost (part keeps leg fleet true) with_pair) q (closed t cost (part keeps leg fleet false) without)
closed t cost keeps (tree.Split' leg fleet prices mixed p with_pair q without) =
    tree.Split' leg fleet prices mixed p (closed t cost (part keeps leg fleet true) with_pair) q (closed t cost (part keeps leg fleet false) without)

-- the tree of all pairs, closed where there is a plan
abbrev pub closed_by : Tables → Option ℤ → Tree → Tree
closed_by t None whole = whole
closed_by t (Some cost) whole = closed t cost (all_pairs t) whole
