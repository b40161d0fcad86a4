-- What is known at a node once it keeps the rules before one.
use Rattle.std.proofs.Common.{◌≡◌, ℕ, ◌+◌, ◌<◌, Bool, true, false, MatchBool, MatchOption, List, Option, Some, None, IfSome, is_some, ℤ, pos, ◌≤ℤ◌, ◌<ℤ◌, refl, ◌∙◌, ap, subst, arith}
use Rattle.std.proofs.lemmas.Int.{ints}
use Rattle.frac_row.specs.Ratio.{IsCeiling}
use Rattle.frac_row.proofs.Ceilings.{same_ceiling}
use Rattle.fleet_model.specs.Kept.{Domains, IsKeptAssignment, IsSole}
use Rattle.fleet_model.specs.Legal.{IsLegal, total_cost}
use Rattle.fleet_model.specs.declared.tables.Tables.{Tables}
use Rattle.fleet_model.proofs.KeptLaws.{sole_is_one}
use Rattle.dual_bound.specs.Bound.{IsSoleBound}
use Rattle.dual_bound.specs.Prices.{ArePrices, AreWithin, NeverRise, RiseByRent}
use Rattle.dual_bound.specs.Worth.{worth_of}
use Rattle.dual_bound.specs.declared.mixed.Mixed.{Mixed}
use Rattle.dual_bound.specs.declared.prices.Prices.{Prices}
use Rattle.dual_bound.specs.Fractions.{AreMixedParts, IsMixedAt}
use Rattle.cert_check.specs.Nodes.{Node, prices_at}
use Rattle.plan_judge.specs.Sizes.{IsLegalAt}
use Rattle.cert_check.specs.Rules.{HasScale, IsSoleLegal, IsSound, KeepsBefore, ReachesCost}
use Rattle.cert_check.specs.declared.rules.Rule.TheVariants as rule

-- prices are proper where they keep the first four rules
pub are_prices : (t : Tables) (prices : Prices) → HasScale prices → AreWithin t prices → NeverRise t prices → RiseByRent t prices → ArePrices t prices
are_prices t prices scale within fall rent = record { scale = scale; within = within; fall = fall; rise = rent }

-- .. where there are prices
pub if_prices : (t : Tables) (o : Option Prices) → IfSome o HasScale → IfSome o (AreWithin t) → IfSome o (NeverRise t) → IfSome o (RiseByRent t) → IfSome o (ArePrices t)
if_prices t None scale within fall rent = tt
if_prices t (Some prices) scale within fall rent = are_prices t prices scale within fall rent

-- the prices of a node that keeps them
pub prices_proper : (t : Tables) (cost : Option ℤ) (node : Node) (bound : ℕ) → KeepsBefore t cost node bound → 4 < bound → IfSome (prices_at node.tree) (ArePrices t)
prices_proper t cost node bound before below =
    if_prices t (prices_at node.tree) (before.each rule.Scale (omega arith)) (before.each rule.Limits (omega arith)) (before.each rule.Fall (omega arith)) (before.each rule.Rent (omega arith))

-- each leg before a place keeps one choice, and so does that at the place
pub one_on_more : (count : ℕ → ℕ) (n : ℕ) → ((m : ℕ) → m < n → count m ≡ 1) → count n ≡ 1 → (m : ℕ) → m < n + 1 → count m ≡ 1
one_on_more count n before here m below = grind arith

pub reached : (t : Tables) (keeps : Domains) (prices : Prices) (cost least : ℤ) (b : Bool) → pos 1 ≤ℤ prices.scale → IsCeiling (worth_of t keeps prices 1) prices.scale least
    → MatchBool b (cost ≤ℤ least) (least <ℤ cost) → MatchBool b (ReachesCost t keeps prices cost) (¬ (ReachesCost t keeps prices cost))
reached t keeps prices cost least true some rounded test = record { least = least; rounded = rounded; reaches = test }
reached t keeps prices cost least false some rounded test =
    λ other. absurd (omega (arith, ints, test, other.reaches, same_ceiling _ _ other.least least some other.rounded rounded))

-- the cost of the one assignment that is left, where it is legal
module _ (t : Tables) (keeps : Domains) (plan : List ℕ) (sole : IsSole t keeps) (kept : IsKeptAssignment t keeps plan) where
  same_legal : (a : List ℕ) → IsKeptAssignment t keeps a → IsLegal t a → IsLegal t plan
  same_legal a is legal = subst (IsLegal t) (sole_is_one t keeps a plan sole is kept) legal

  pub sole_legal : (cost : Option ℤ) → MatchOption cost (¬ (IsLegal t plan)) (IsLegalAt t plan) → MatchOption cost (¬ (IsSoleLegal t keeps)) (λ _. IsSoleLegal t keeps)
  sole_legal None illegal = λ other. illegal (same_legal other.plan other.kept other.legal)
  sole_legal (Some c) legal = record { sole = sole; plan = plan; kept = kept; legal = legal.legal }

  pub sole_bound : (cost : Option ℤ) → MatchOption cost (¬ (IsLegal t plan)) (IsLegalAt t plan) → IsSoleBound t keeps cost
  sole_bound None illegal = record {
    legal = λ a is legal. absurd (illegal (same_legal a is legal));
    illegal = λ a is other. refl;
    none = λ other. refl;
  }
  sole_bound (Some c) legal = record {
    legal = λ a is other. ap Some (legal.costs ∙ ap (total_cost t) (sole_is_one t keeps plan a sole kept is));
    illegal = λ a is other. absurd (other (subst (IsLegal t) (sole_is_one t keeps plan a sole kept is) legal.legal));
    none = λ other. absurd (other plan kept);
  }

-- whether there is what stands for a fact tells the fact
pub told : (P : Type 0) (o : Option ℤ) → MatchOption o (¬ P) (λ x. P) → MatchBool (is_some o) P (¬ P)
told P None without = without
told P (Some x) holds = holds

-- the prices of a node that keeps all rules
pub sound_proper : (t : Tables) (cost : Option ℤ) (node : Node) → IsSound t cost node → IfSome (prices_at node.tree) (ArePrices t)
sound_proper t cost node sound = prices_proper t cost node 11 (record { each = λ rule below. sound.each rule }) (omega arith)

pub prices_known : (t : Tables) (cost : Option ℤ) (node : Node) (prices : Prices) → IsSound t cost node → prices_at node.tree ≡ Some prices → ArePrices t prices
prices_known t cost node prices sound e = rw e at (sound_proper t cost node sound)

-- a fractional assignment of a subproblem has its parts within their limits
pub parts_within : (t : Tables) (keeps : Domains) (o : Option Mixed) → IfSome o (IsMixedAt t keeps) → IfSome o (AreMixedParts t)
parts_within t keeps None is = tt
parts_within t keeps (Some mixed) is = is.parts
