-- What holds at each node of a tree that proves its bound, rule by rule.
use Rattle.std.specs.Prelude.{◌≡◌, ◌≢◌, ℕ, ◌<◌, List, ◌∷◌, ◌++◌, All, length, ⊤, ◌⊎◌, IsTrue, true, false, Option, IfSome, IsSomeAnd, ℤ, pos, ◌≤ℤ◌, ◌<ℤ◌}
use Rattle.frac_row.specs.Ratio.{IsCeiling}
use Rattle.fleet_model.specs.Kept.{Domains, IsBare, IsKeptAssignment, IsSole, kept_on}
use Rattle.fleet_model.specs.Legal.{IsLegal}
use Rattle.fleet_model.specs.Schedule.{leg_on}
use Rattle.fleet_model.specs.declared.tables.Tables.{Tables}
use Rattle.dual_bound.specs.Bound.{part}
use Rattle.dual_bound.specs.Prices.{AreWithin, IsScale, NeverRise, RiseByRent}
use Rattle.dual_bound.specs.Worth.{worth_of}
use Rattle.dual_bound.specs.declared.prices.Prices.{Prices}
use Rattle.dual_bound.specs.declared.trees.Tree.{Tree}
use Rattle.dual_bound.specs.declared.trees.Tree.TheVariants as tree
use Rattle.dual_bound.specs.Fractions.{IsFraction, IsMixedAt, IsWholePair}
use Rattle.cert_check.specs.Nodes.{Node, mixed_at, mixed_of, prices_at}
use Rattle.cert_check.specs.declared.rules.Rule.{Rule}
use Rattle.cert_check.specs.declared.rules.Rule.TheVariants as rule

-- a scale within its limit
abbrev pub HasScale : Prices → Type 0
HasScale prices = IsScale prices.scale

-- each leg keeps a pair
abbrev pub HaveAllPairs : Tables → Domains → Type 0
HaveAllPairs t keeps = (l : ℕ) → ¬ (IsBare t keeps l)

-- a bare leg keeps no pair, at a sole assignment each leg keeps one, and where there are prices each keeps some
abbrev pub HasItsPairs : Tables → Domains → Tree → Type 0
HasItsPairs t keeps (tree.Bare leg) = IsBare t keeps leg
HasItsPairs t keeps tree.Sole = IsSole t keeps
HasItsPairs t keeps (tree.Refuted prices) = HaveAllPairs t keeps
HasItsPairs t keeps (tree.Priced prices) = HaveAllPairs t keeps
HasItsPairs t keeps (tree.Open prices why) = HaveAllPairs t keeps
HasItsPairs t keeps (tree.Trim' leg choice p with_pair q without) = ⊤
HasItsPairs t keeps (tree.Split' leg choice prices mixed p with_pair q without) = HaveAllPairs t keeps

-- a refuted leaf is refuted: by its prices, no cost put in, it is worth more than 0
abbrev pub IsRefutedAt : Tables → Domains → Tree → Type 0
IsRefutedAt t keeps (tree.Refuted prices) = pos 0 <ℤ worth_of t keeps prices 0
IsRefutedAt t keeps other = ⊤

-- the rounded worth of prices reaches a cost
pub record ReachesCost (t : Tables) (keeps : Domains) (prices : Prices) (cost : ℤ) : Type 0 where
  pub least : ℤ
  pub rounded : IsCeiling (worth_of t keeps prices 1) prices.scale least
  pub reaches : cost ≤ℤ least

-- at a priced leaf there is a plan, and the rounded worth of the prices reaches its cost
abbrev pub IsPricedAt : Tables → Option ℤ → Domains → Tree → Type 0
IsPricedAt t cost keeps (tree.Priced prices) = IsSomeAnd cost (ReachesCost t keeps prices)
IsPricedAt t cost keeps other = ⊤

-- each leg keeps one choice, and that assignment is legal
pub record IsSoleLegal (t : Tables) (keeps : Domains) : Type 0 where
  pub sole : IsSole t keeps
  pub plan : List ℕ
  pub kept : IsKeptAssignment t keeps plan
  pub legal : IsLegal t plan

-- a child of a trim that ends at once, with nothing legal or nothing cheaper than the plan
abbrev pub EndsAtOnce : Tables → Domains → Tree → Type 0
EndsAtOnce t keeps (tree.Bare leg) = ⊤
EndsAtOnce t keeps tree.Sole = ¬ (IsSoleLegal t keeps)
EndsAtOnce t keeps (tree.Refuted prices) = ⊤
EndsAtOnce t keeps (tree.Priced prices) = ⊤
EndsAtOnce t keeps (tree.Open prices why) = ⊥
EndsAtOnce t keeps (tree.Trim' leg choice p with_pair q without) = ⊥
EndsAtOnce t keeps (tree.Split' leg choice prices mixed p with_pair q without) = ⊥

-- one of the two children of a trim ends at once
abbrev pub OneEnds : Tables → Domains → ℕ → ℕ → Tree → Tree → Type 0
OneEnds t keeps leg choice with_pair without = EndsAtOnce t (part keeps leg choice true) with_pair ⊎ EndsAtOnce t (part keeps leg choice false) without

-- the pair is kept
abbrev pub IsKeptPair : Domains → ℕ → ℕ → Type 0
IsKeptPair keeps leg choice = IsTrue (keeps (leg_on leg choice))

-- a trim and a split name a kept pair; a child of a trim ends at once, and a split's leg keeps other pairs too
abbrev pub HasParts : Tables → Domains → Tree → Type 0
HasParts t keeps (tree.Trim' leg choice p with_pair q without) =
    IsKeptPair keeps leg choice × OneEnds t keeps leg choice with_pair without
HasParts t keeps (tree.Split' leg choice prices mixed p with_pair q without) = IsKeptPair keeps leg choice × (kept_on t keeps leg ≢ 1)
HasParts t keeps other = ⊤

-- an open leaf's fractional assignment, where it has one, is a best one and not whole; so is a split's, which flies
-- the split's pair in part
abbrev pub HasFraction : Tables → Domains → Tree → Type 0
HasFraction t keeps (tree.Open prices why) = IfSome (mixed_of why) (IsFraction t keeps prices)
HasFraction t keeps (tree.Split' leg choice prices mixed p with_pair q without) = IsFraction t keeps prices mixed × (¬ (IsWholePair mixed leg choice))
HasFraction t keeps other = ⊤

-- a node keeps a rule, where the plan that comes with the tree, if any, has this cost
abbrev pub Keeps : Tables → Option ℤ → Node → Rule → Type 0
Keeps t cost node rule.Scale = IfSome (prices_at node.tree) HasScale
Keeps t cost node rule.Limits = IfSome (prices_at node.tree) (AreWithin t)
Keeps t cost node rule.Fall = IfSome (prices_at node.tree) (NeverRise t)
Keeps t cost node rule.Rent = IfSome (prices_at node.tree) (RiseByRent t)
Keeps t cost node rule.Pairs = HasItsPairs t node.keeps node.tree
Keeps t cost node rule.Refuted = IsRefutedAt t node.keeps node.tree
Keeps t cost node rule.Priced = IsPricedAt t cost node.keeps node.tree
Keeps t cost node rule.Parts = HasParts t node.keeps node.tree
Keeps t cost node rule.Mixed = IfSome (mixed_at node.tree) (IsMixedAt t node.keeps)
Keeps t cost node rule.Fraction = HasFraction t node.keeps node.tree

-- the number of a rule
abbrev pub rule_number : Rule → ℕ
rule_number rule.Scale = 1
rule_number rule.Limits = 2
rule_number rule.Fall = 3
rule_number rule.Rent = 4
rule_number rule.Pairs = 5
rule_number rule.Refuted = 6
rule_number rule.Priced = 7
rule_number rule.Parts = 8
rule_number rule.Mixed = 9
rule_number rule.Fraction = 10

-- a node keeps all rules before one
pub record KeepsBefore (t : Tables) (cost : Option ℤ) (node : Node) (bound : ℕ) : Type 0 where
  pub each : (other : Rule) → rule_number other < bound → Keeps t cost node other

-- a node keeps all rules
pub record IsSound (t : Tables) (cost : Option ℤ) (node : Node) : Type 0 where
  pub each : (rule : Rule) → Keeps t cost node rule

-- a node keeps all rules but one
pub record IsSoundBut (t : Tables) (cost : Option ℤ) (but : Rule) (node : Node) : Type 0 where
  pub each : (rule : Rule) → rule ≢ but → Keeps t cost node rule

-- the first rule that a node breaks
pub record IsFirstBrokenRule (t : Tables) (cost : Option ℤ) (node : Node) (rule : Rule) : Type 0 where
  pub before : KeepsBefore t cost node (rule_number rule)
  pub broken : ¬ (Keeps t cost node rule)

-- the first of some nodes that breaks a rule, by its place from 0, and the first rule that it breaks
pub record IsFirstBroken (t : Tables) (cost : Option ℤ) (nodes : List Node) (place : ℕ) (rule : Rule) : Type 0 where
  pub before : List Node
  pub node : Node
  pub after : List Node
  pub order : nodes ≡ before ++ node ∷ after
  pub sound : All (IsSound t cost) before
  pub there : place ≡ length before
  pub fault : IsFirstBrokenRule t cost node rule
