-- Leaves and splits whose own node keeps all rules, whatever plan comes in the end.
use Rattle.std.proofs.Common.{Box, Global, ◌≡◌, ◌≢◌, ℕ, Option, Some, None, IfSome, IsSomeAnd, ℤ, pos, ◌<ℤ◌, inl, inr, arith}
use Rattle.std.proofs.lemmas.Int.{ints}
use Rattle.fleet_model.specs.Kept.{Domains, IsSole}
use Rattle.fleet_model.specs.Schedule.{leg_on}
use Rattle.fleet_model.specs.declared.tables.Tables.{Tables}
use Rattle.dual_bound.specs.Prices.{ArePrices, AreWithin, NeverRise, RiseByRent}
use Rattle.dual_bound.specs.Worth.{worth_of}
use Rattle.dual_bound.specs.declared.mixed.Mixed.{Mixed}
use Rattle.dual_bound.specs.declared.prices.Prices.{Prices}
use Rattle.dual_bound.specs.declared.trees.Cause.{Cause}
use Rattle.dual_bound.specs.declared.trees.Tree.{Split, Tree, Trim}
use Rattle.dual_bound.specs.declared.trees.Tree.TheVariants as tree
use Rattle.dual_bound.specs.Fractions.{IsFraction, IsMixedAt, IsWholePair}
use Rattle.cert_check.specs.Nodes.{mixed_at, mixed_of, prices_at}
use Rattle.cert_check.specs.Rules.{HasFraction, HasItsPairs, HasParts, HasScale, HaveAllPairs, IsKeptPair, IsPricedAt, IsRefutedAt, IsSound, Keeps, ReachesCost}
use Rattle.cert_check.specs.declared.rules.Rule.{Rule}
use Rattle.cert_check.specs.declared.rules.Rule.TheVariants as rule
use Rattle.price_lift.specs.declared.best_point.BestPoint.{BestPoint}
use Rattle.node_bounding.specs.Causes.{IsFirstPartial}
use Rattle.node_bounding.specs.Splits.{IsSplit}
use Rattle.node_bounding.specs.Found.{AnswersSole}
use Rattle.node_bounding.proofs.Nodes.{node}
use Rattle.node_bounding.proofs.StepsLeft.{not_one}

-- a node that is no leaf of one assignment answers nothing
pub answers_none : (t : Tables) (cost : Option ℤ) (keeps : Domains) (whole : Tree) → whole ≢ tree.Sole → AnswersSole t cost (node keeps whole)
answers_none t cost keeps whole other = record { answers = λ e. absurd (other e) }

-- where its prices, if any, are proper, a node keeps all rules once it keeps those that ask for more
module _ (t : Tables) (cost : Option ℤ) (keeps : Domains) (whole : Tree) where
  of_prices : (P : Prices → Type 0) (own : Option Prices) → ((prices : Prices) → ArePrices t prices → P prices) → IfSome own (ArePrices t) → IfSome own P
  of_prices P None follows proper = tt
  of_prices P (Some prices) follows proper = follows prices proper

  pub rules_kept : IfSome (prices_at whole) (ArePrices t) → HasItsPairs t keeps whole → IsRefutedAt t keeps whole → IsPricedAt t cost keeps whole → HasParts t keeps whole
      → IfSome (mixed_at whole) (IsMixedAt t keeps) → HasFraction t keeps whole → IsSound t cost (node keeps whole)
  rules_kept proper pairs refuted priced parts mixed fraction = record { each = each }
    where
      each : (r : Rule) → Keeps t cost (node keeps whole) r
      each rule.Scale = of_prices HasScale (prices_at whole) (λ prices own. own.scale) proper
      each rule.Limits = of_prices (AreWithin t) (prices_at whole) (λ prices own. own.within) proper
      each rule.Fall = of_prices (NeverRise t) (prices_at whole) (λ prices own. own.fall) proper
      each rule.Rent = of_prices (RiseByRent t) (prices_at whole) (λ prices own. own.rise) proper
      each rule.Pairs = pairs
      each rule.Refuted = refuted
      each rule.Priced = priced
      each rule.Parts = parts
      each rule.Mixed = mixed
      each rule.Fraction = fraction

-- ---- leaves
module _ (t : Tables) (cost : Option ℤ) (keeps : Domains) where
  pub sole_sound : IsSole t keeps → IsSound t cost (node keeps tree.Sole)
  sole_sound sole = rules_kept t cost keeps tree.Sole tt sole tt tt tt tt tt

  pub refuted_sound : (prices : Prices) → ArePrices t prices → HaveAllPairs t keeps → pos 0 <ℤ worth_of t keeps prices 0 → IsSound t cost (node keeps (tree.Refuted prices))
  refuted_sound prices proper pairs above = rules_kept t cost keeps (tree.Refuted prices) proper pairs above tt tt tt tt

  pub priced_sound : (prices : Prices) → ArePrices t prices → HaveAllPairs t keeps → IsSomeAnd cost (ReachesCost t keeps prices) → IsSound t cost (node keeps (tree.Priced prices))
  priced_sound prices proper pairs reaches = rules_kept t cost keeps (tree.Priced prices) proper pairs tt reaches tt tt tt

  pub open_sound : (prices : Prices) (why : Cause) → ArePrices t prices → HaveAllPairs t keeps → IfSome (mixed_of why) (IsMixedAt t keeps) → IfSome (mixed_of why) (IsFraction t keeps prices)
      → IsSound t cost (node keeps (tree.Open prices why))
  open_sound prices why proper pairs mixed fraction = rules_kept t cost keeps (tree.Open prices why) proper pairs tt tt tt mixed fraction

-- ---- a trim whose part with the pair is refuted, and a split
module _ (t : Tables) (cost : Option ℤ) (keeps : Domains) (leg choice : ℕ) (yes no : Box Tree Global) where
  pub trim_sound : (prices : Prices) → yes.value ≡ tree.Refuted prices → IsKeptPair keeps leg choice → IsSound t cost (node keeps (Trim leg choice yes no))
  trim_sound prices e kept = rules_kept t cost keeps (Trim leg choice yes no) tt tt tt tt (kept, inl (rw e tt)) tt tt

  -- the first pair that is flown in part is not flown wholly
  is_partial : (mixed : Mixed) → IsFirstPartial t mixed leg choice → ¬ (IsWholePair mixed leg choice)
  is_partial mixed first (inl none) = absurd (omega (arith, ints, first.some, none))
  is_partial mixed first (inr all) = absurd (omega (arith, ints, first.not_all, all))

  pub split_sound : (point : BestPoint) → IsSplit t keeps (leg_on leg choice) point → IsSound t cost (node keeps (Split leg choice point.prices point.mixed yes no))
  split_sound point is = rules_kept t cost keeps (Split leg choice point.prices point.mixed yes no) is.best.good.proper is.searched.some_pair tt tt
      (is.kept, not_one t keeps leg choice is.pair is.kept is.other) is.best.mixed_at (is.fraction, is_partial point.mixed is.first)
