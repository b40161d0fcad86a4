-- What is asked of a node by each walk over a tree.
use Rattle.std.specs.Prelude.{◌≡◌, Bool, IsSomeAnd, Option, None, ℤ}
use Rattle.fleet_model.specs.Sizes.{AreSizes, HoldsBy}
use Rattle.fleet_model.specs.declared.sizes.Sizes.{Sizes}
use Rattle.fleet_model.specs.declared.tables.Tables.{Tables}
use Rattle.cert_check.specs.Nodes.{Node}
use Rattle.cert_check.specs.OtherSizes.{Stands}
use Rattle.cert_check.specs.Rules.{IsFirstBrokenRule, IsSound, IsSoundBut}
use Rattle.cert_check.specs.Splits.{IsNoneAbove, IsSplitAbove}
use Rattle.cert_check.specs.Walking.{IsFoundOf, IsOwnBound}
use Rattle.cert_check.specs.declared.reached.Reached.{Reached}
use Rattle.cert_check.specs.declared.rules.Rule.TheVariants as rule

-- it keeps all rules, or that is the first rule that it breaks
abbrev pub IsJudged : Tables → Option ℤ → Node → Reached → Reached → Bool → Type 0
IsJudged t cost node before after ended = IsFoundOf (IsSound t cost node) (IsOwnBound t node.keeps node.tree) (IsSomeAnd after.rule (IsFirstBrokenRule t cost node)) before after ended

-- a node may be asked by some sizes: it keeps all rules but the one on priced leaves
pub record MayBeSized (t : Tables) (by : Sizes) (node : Node) : Type 0 where
  pub sizes : AreSizes t by
  pub sound : IsSoundBut t None rule.Priced node

-- it stands on some tables, or has fallen
abbrev pub IsAskedOn : Tables → Node → Reached → Reached → Bool → Type 0
IsAskedOn u node before after ended = IsFoundOf (Stands u node) (IsOwnBound u node.keeps node.tree) (¬ (Stands u node)) before after ended

-- by some sizes
abbrev pub IsSized : Tables → Sizes → Node → Reached → Reached → Bool → Type 0
IsSized t by node before after ended = HoldsBy t by (λ u. IsAskedOn u node before after ended)

-- it is no split above a cost, or it is one
abbrev pub IsSought : Tables → ℤ → Node → Reached → Reached → Bool → Type 0
IsSought t cost node before after ended = IsFoundOf (IsNoneAbove t cost node) (λ bound. bound ≡ None) (IsSplitAbove t cost node) before after ended
