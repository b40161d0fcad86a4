-- Nodes that keep all rules but the one on priced leaves, and splits whose rounded worth is above a cost.
use Rattle.std.proofs.Common.{Box, Global, ◌≡◌, ◌≢◌, ℕ, Bool, true, false, MatchBool, Option, None, ℤ, ◌<ℤ◌, ◌≤ℤ◌, refl, sym, subst, arith}
use Rattle.std.proofs.lemmas.Int.{ints}
use Rattle.std.proofs.lemmas.List.Elements.{All-weaker}
use Rattle.frac_row.specs.Ratio.{IsCeiling}
use Rattle.frac_row.proofs.Ceilings.{same_ceiling}
use Rattle.fleet_model.specs.Kept.{Domains}
use Rattle.fleet_model.specs.declared.tables.Tables.{Tables}
use Rattle.dual_bound.specs.Prices.{ArePrices}
use Rattle.dual_bound.specs.Worth.{worth_of}
use Rattle.dual_bound.specs.declared.mixed.Mixed.{Mixed}
use Rattle.dual_bound.specs.declared.prices.Prices.{Prices}
use Rattle.dual_bound.specs.declared.trees.Tree.{Split, Tree}
use Rattle.cert_check.specs.Nodes.{Node, nodes_in}
use Rattle.cert_check.specs.Rules.{IsSound, IsSoundBut, Keeps}
use Rattle.cert_check.specs.Splits.{AreSoundButPriced, IsNoneAbove, IsSplitAbove}
use Rattle.cert_check.specs.Verdicts.{AreSound}
use Rattle.cert_check.specs.declared.rules.Rule.{Rule}
use Rattle.cert_check.specs.declared.rules.Rule.TheVariants as rule
use Rattle.cert_check.proofs.NodeRules.{are_prices}
use Rattle.cert_check.proofs.Walks.{node}

-- ---- a tree that keeps all rules but one
-- a node that keeps all rules keeps all but the one on priced leaves, whatever the plan costs
pub sound_but_priced : (t : Tables) (cost : Option ℤ) (one : Node) → IsSound t cost one → IsSoundBut t None rule.Priced one
sound_but_priced t cost one sound = record { each = each }
  where
    each : (r : Rule) → r ≢ rule.Priced → Keeps t None one r
    each rule.Scale other = sound.each rule.Scale
    each rule.Limits other = sound.each rule.Limits
    each rule.Fall other = sound.each rule.Fall
    each rule.Rent other = sound.each rule.Rent
    each rule.Pairs other = sound.each rule.Pairs
    each rule.Refuted other = sound.each rule.Refuted
    each rule.Priced other = absurd (other refl)
    each rule.Parts other = sound.each rule.Parts
    each rule.Mixed other = sound.each rule.Mixed
    each rule.Fraction other = sound.each rule.Fraction

-- and so it is of a tree
pub are_sound_but_priced : (t : Tables) (cost : Option ℤ) (keeps : Domains) (whole : Tree) → AreSound t cost keeps whole → AreSoundButPriced t keeps whole
are_sound_but_priced t cost keeps whole sound = record { each = All-weaker (IsSound t cost) (IsSoundBut t None rule.Priced) (sound_but_priced t cost) (nodes_in keeps whole) sound }

-- the prices of a split
pub split_prices : (t : Tables) (keeps : Domains) (leg choice : ℕ) (prices : Prices) (mixed : Mixed) (whole : Tree) (one other : Box Tree Global) → whole ≡ Split leg choice prices mixed one other
    → IsSoundBut t None rule.Priced (node keeps whole) → ArePrices t prices
split_prices t keeps leg choice prices mixed whole one other e sound =
    let here : IsSoundBut t None rule.Priced (node keeps (Split leg choice prices mixed one other)) = subst (λ x. IsSoundBut t None rule.Priced (node keeps x)) e sound in
    are_prices t prices (here.each rule.Scale (λ p. cc)) (here.each rule.Limits (λ p. cc)) (here.each rule.Fall (λ p. cc)) (here.each rule.Rent (λ p. cc))

-- a split, by the test of its rounded worth
pub split_test : (t : Tables) (cost least : ℤ) (keeps : Domains) (whole : Tree) (leg choice : ℕ) (prices : Prices) (mixed : Mixed) (one other : Box Tree Global) (b : Bool) → whole ≡ Split leg choice prices mixed one other
    → ArePrices t prices → IsCeiling (worth_of t keeps prices 1) prices.scale least → MatchBool b (cost <ℤ least) (least ≤ℤ cost) → MatchBool b (IsSplitAbove t cost (node keeps whole)) (IsNoneAbove t cost (node keeps whole))
split_test t cost least keeps whole leg choice prices mixed one other b e proper rounded test =
    subst (λ x. MatchBool b (IsSplitAbove t cost (node keeps x)) (IsNoneAbove t cost (node keeps x))) (sym e) (by_test b test)
  where
    by_test : (b : Bool) → MatchBool b (cost <ℤ least) (least ≤ℤ cost) → MatchBool b (IsSplitAbove t cost (node keeps (Split leg choice prices mixed one other))) (IsNoneAbove t cost (node keeps (Split leg choice prices mixed one other)))
    by_test true above = record { worth = least; rounded = rounded; above = above }
    by_test false below = record { none = λ is. omega (arith, ints, below, is.above, same_ceiling _ _ is.worth least proper.scale.some is.rounded rounded) }
