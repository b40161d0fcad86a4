-- The checker looks at no settings but the days of the period: a tree that holds of tables holds of their lists by any
-- other settings of as many days.
use Rattle.std.proofs.Common.{◌≡◌, ℕ, Bool, true, false, List, ℤ, Option, Some, None, IfSome, IsSomeAnd, get_or, subst, inl, inr}
use Rattle.fleet_model.specs.Kept.{Domains, IsBare, IsKeptAssignment, IsSole, all_pairs}
use Rattle.fleet_model.specs.Legal.{HasRoom, IsAssignment, IsLegal, cost_of, total_cost}
use Rattle.fleet_model.specs.Mixed.{mixed_cost}
use Rattle.fleet_model.specs.Limits.{AreTables}
use Rattle.fleet_model.specs.Schedule.{choice_on, choices_in, days_in, departures_in, fleet_by, leg_at, parking_of, period_of, slot_by}
use Rattle.fleet_model.specs.Times.{departure}
use Rattle.fleet_model.specs.Use.{IsBalanced, excess, laps_flown, need_of, parked, stand_of, used_of}
use Rattle.fleet_model.specs.Counts.{Weights, arrived, departed, weights_of}
use Rattle.fleet_model.specs.declared.parts.Departure.{Departure}
use Rattle.fleet_model.specs.declared.parts.Fleet.{Fleet}
use Rattle.fleet_model.specs.declared.parts.Leg.{Leg}
use Rattle.fleet_model.specs.declared.parts.PairCost.{PairCost}
use Rattle.fleet_model.specs.declared.parts.Settings.{Settings}
use Rattle.fleet_model.specs.declared.parts.Station.{Station}
use Rattle.fleet_model.specs.declared.parts.Through.{Through}
use Rattle.fleet_model.specs.declared.tables.Tables.{Tables}
use Rattle.dual_bound.specs.Bound.{IsBoundIn, IsPriceBound, IsSoleBound, part}
use Rattle.dual_bound.specs.Fractions.{IsFraction, IsMixedAt}
use Rattle.dual_bound.specs.Prices.{AreWithin, NeverRise, RiseByRent}
use Rattle.dual_bound.specs.Worth.{leg_worth, less_charges, worth_of}
use Rattle.dual_bound.specs.declared.mixed.Mixed.{Mixed}
use Rattle.dual_bound.specs.declared.prices.Prices.{Prices}
use Rattle.dual_bound.specs.declared.trees.Tree.{Tree}
use Rattle.dual_bound.specs.declared.trees.Tree.TheVariants as tree
use Rattle.dual_bound.proofs.TablesBy.{Fits, tables_by}
use Rattle.cert_check.specs.Nodes.{Node, mixed_at, mixed_of, nodes_in, prices_at}
use Rattle.cert_check.specs.Rules.{EndsAtOnce, HasFraction, HasItsPairs, HasParts, IsPricedAt, IsRefutedAt, IsSoleLegal, Keeps, OneEnds, ReachesCost}
use Rattle.cert_check.specs.Verdicts.{HoldsWith}
use Rattle.cert_check.specs.declared.rules.Rule.{Rule}
use Rattle.cert_check.specs.declared.rules.Rule.TheVariants as rule

-- what holds of the value of an option, if any, and what follows of each value
if_some : {A : Type 0} (o : Option A) (P Q : A → Type 0) → ((x : A) → P x → Q x) → IfSome o P → IfSome o Q
if_some None P Q each holds = tt
if_some (Some x) P Q each holds = each x holds

some_and : {A : Type 0} (o : Option A) (P Q : A → Type 0) → ((x : A) → P x → Q x) → IsSomeAnd o P → IsSomeAnd o Q
some_and None P Q each holds = holds
some_and (Some x) P Q each holds = each x holds

-- settings with so many days
abbrev with_days : ℕ → Settings → Settings
with_days days settings = record settings { period = days }

-- ---- between settings of as many days
module _ (s : List Station) (f : List Fleet) (l : List Leg) (c : List PairCost) (h : List Through) (g : List Departure) (windows optional : Bool) (days : ℕ) where
  -- settings with these days by which the lists keep their limits
  abbrev Settled : Type 0
  Settled = (settings : Settings) × AreTables s f l c h (with_days days settings) g windows optional

  abbrev by : Settled → Tables
  by fits = tables_by s f l c h g windows optional (with_days days fits.0, fits.1)

  -- ---- assignments

  assignment : (a b : Settled) (plan : List ℕ) → IsAssignment (by a) plan → IsAssignment (by b) plan
  unfolding choices_in
  assignment a b plan is = record { each_leg = is.each_leg; known = is.known }

  balanced : (a b : Settled) (w : Weights) → IsBalanced (by a) w → IsBalanced (by b) w
  unfolding departed arrived period_of departures_in leg_at choice_on departure slot_by fleet_by
  balanced a b w is = record { each = is.each }

  room : (a b : Settled) (scale : ℕ) (w : Weights) → HasRoom (by a) scale w → HasRoom (by b) scale w
  unfolding departed arrived excess need_of stand_of parked period_of days_in parking_of departures_in leg_at choice_on departure slot_by fleet_by
  room a b scale w is = record { each = is.each }

  -- an assignment that is legal by some settings is legal by others of as many days
  legal : (a b : Settled) (plan : List ℕ) → IsLegal (by a) plan → IsLegal (by b) plan
  unfolding departed arrived excess need_of laps_flown used_of period_of cost_of departures_in leg_at choice_on departure slot_by fleet_by
  legal a b plan is = record {
    assignment = assignment a b plan is.assignment;
    allowed = record { each = is.allowed.each };
    balanced = balanced a b (weights_of plan) is.balanced;
    within = record { each = is.within.each };
    room = room a b 1 (weights_of plan) is.room;
  }

  kept_plan : (a b : Settled) (keeps : Domains) (plan : List ℕ) → IsKeptAssignment (by a) keeps plan → IsKeptAssignment (by b) keeps plan
  kept_plan a b keeps plan is = record { assignment = assignment a b plan is.assignment; kept = is.kept }

  bare : (a b : Settled) (keeps : Domains) (leg : ℕ) → IsBare (by a) keeps leg → IsBare (by b) keeps leg
  unfolding choices_in
  bare a b keeps leg is = record { within = is.within; none = is.none }

  sole : (a b : Settled) (keeps : Domains) → IsSole (by a) keeps → IsSole (by b) keeps
  unfolding choices_in
  sole a b keeps is = record { each = is.each }

  sole_legal : (a b : Settled) (keeps : Domains) → IsSoleLegal (by a) keeps → IsSoleLegal (by b) keeps
  sole_legal a b keeps is = record {
    sole = sole a b keeps is.sole;
    plan = is.plan;
    kept = kept_plan a b keeps is.plan is.kept;
    legal = legal a b is.plan is.legal;
  }

  -- ---- prices and fractional assignments

  within : (a b : Settled) (prices : Prices) → AreWithin (by a) prices → AreWithin (by b) prices
  unfolding period_of days_in parking_of
  within a b prices are = record {
    rents = are.rents;
    each = are.each;
    charges = λ r d there some day. let is = are.charges r d there some day in record { some = is.some; within = is.within; only_limited = is.only_limited };
  }

  fall : (a b : Settled) (prices : Prices) → NeverRise (by a) prices → NeverRise (by b) prices
  unfolding period_of
  fall a b prices are = record { each = are.each }

  rise : (a b : Settled) (prices : Prices) → RiseByRent (by a) prices → RiseByRent (by b) prices
  unfolding period_of
  rise a b prices are = record { each = are.each }

  reaches : (a b : Settled) (keeps : Domains) (prices : Prices) (cost : ℤ) → ReachesCost (by a) keeps prices cost → ReachesCost (by b) keeps prices cost
  unfolding leg_worth worth_of less_charges period_of days_in parking_of choices_in cost_of departure slot_by fleet_by
  reaches a b keeps prices cost is = record { least = is.least; rounded = is.rounded; reaches = is.reaches }

  mixed : (a b : Settled) (keeps : Domains) (m : Mixed) → IsMixedAt (by a) keeps m → IsMixedAt (by b) keeps m
  unfolding departed arrived excess need_of laps_flown used_of period_of choices_in departures_in leg_at choice_on departure slot_by fleet_by
  mixed a b keeps m is = record {
    parts = record { scale = is.parts.scale; each = is.parts.each };
    plan = record {
      kept = λ p pair. is.plan.kept p (record { leg = pair.leg; choice = pair.choice });
      cover = is.plan.cover;
      balanced = balanced a b _ is.plan.balanced;
      within = is.plan.within;
      room = room a b _ _ is.plan.room;
    };
  }

  fraction : (a b : Settled) (keeps : Domains) (prices : Prices) (m : Mixed) → IsFraction (by a) keeps prices m → IsFraction (by b) keeps prices m
  unfolding leg_worth worth_of less_charges mixed_cost period_of days_in parking_of choices_in cost_of departure slot_by fleet_by
  fraction a b keeps prices m is = record { partial = is.partial; value = is.value }

  -- ---- rules

  own_pairs : (a b : Settled) (keeps : Domains) (v : Tree) → HasItsPairs (by a) keeps v → HasItsPairs (by b) keeps v
  own_pairs a b keeps (tree.Bare leg) has = bare a b keeps leg has
  own_pairs a b keeps tree.Sole has = sole a b keeps has
  own_pairs a b keeps (tree.Refuted prices) has = λ leg is. has leg (bare b a keeps leg is)
  own_pairs a b keeps (tree.Priced prices) has = λ leg is. has leg (bare b a keeps leg is)
  own_pairs a b keeps (tree.Open prices why) has = λ leg is. has leg (bare b a keeps leg is)
  own_pairs a b keeps (tree.Trim' leg choice p with_pair q without) has = has
  own_pairs a b keeps (tree.Split' leg choice prices m p with_pair q without) has = λ leg is. has leg (bare b a keeps leg is)

  refuted : (a b : Settled) (keeps : Domains) (v : Tree) → IsRefutedAt (by a) keeps v → IsRefutedAt (by b) keeps v
  unfolding leg_worth worth_of less_charges period_of days_in parking_of choices_in cost_of departure slot_by fleet_by
  refuted a b keeps (tree.Refuted prices) is = is
  refuted a b keeps (tree.Bare leg) is = is
  refuted a b keeps tree.Sole is = is
  refuted a b keeps (tree.Priced prices) is = is
  refuted a b keeps (tree.Open prices why) is = is
  refuted a b keeps (tree.Trim' leg choice p with_pair q without) is = is
  refuted a b keeps (tree.Split' leg choice prices m p with_pair q without) is = is

  priced : (a b : Settled) (cost : Option ℤ) (keeps : Domains) (v : Tree) → IsPricedAt (by a) cost keeps v → IsPricedAt (by b) cost keeps v
  priced a b cost keeps (tree.Priced prices) is = some_and cost (ReachesCost (by a) keeps prices) (ReachesCost (by b) keeps prices) (reaches a b keeps prices) is
  priced a b cost keeps (tree.Bare leg) is = is
  priced a b cost keeps tree.Sole is = is
  priced a b cost keeps (tree.Refuted prices) is = is
  priced a b cost keeps (tree.Open prices why) is = is
  priced a b cost keeps (tree.Trim' leg choice p with_pair q without) is = is
  priced a b cost keeps (tree.Split' leg choice prices m p with_pair q without) is = is

  ends : (a b : Settled) (keeps : Domains) (v : Tree) → EndsAtOnce (by a) keeps v → EndsAtOnce (by b) keeps v
  ends a b keeps tree.Sole at_once = λ is. at_once (sole_legal b a keeps is)
  ends a b keeps (tree.Bare leg) at_once = at_once
  ends a b keeps (tree.Refuted prices) at_once = at_once
  ends a b keeps (tree.Priced prices) at_once = at_once
  ends a b keeps (tree.Open prices why) at_once = at_once
  ends a b keeps (tree.Trim' leg choice p with_pair q without) at_once = at_once
  ends a b keeps (tree.Split' leg choice prices m p with_pair q without) at_once = at_once

  one_ends : (a b : Settled) (keeps : Domains) (leg choice : ℕ) (with_pair without : Tree) → OneEnds (by a) keeps leg choice with_pair without → OneEnds (by b) keeps leg choice with_pair without
  one_ends a b keeps leg choice with_pair without (inl at_once) = inl (ends a b (part keeps leg choice true) with_pair at_once)
  one_ends a b keeps leg choice with_pair without (inr at_once) = inr (ends a b (part keeps leg choice false) without at_once)

  parts : (a b : Settled) (keeps : Domains) (v : Tree) → HasParts (by a) keeps v → HasParts (by b) keeps v
  unfolding choices_in
  parts a b keeps (tree.Trim' leg choice p with_pair q without) has = (has.0, one_ends a b keeps leg choice with_pair without has.1)
  parts a b keeps (tree.Split' leg choice prices m p with_pair q without) has = has
  parts a b keeps (tree.Bare leg) has = has
  parts a b keeps tree.Sole has = has
  parts a b keeps (tree.Refuted prices) has = has
  parts a b keeps (tree.Priced prices) has = has
  parts a b keeps (tree.Open prices why) has = has

  fractions : (a b : Settled) (keeps : Domains) (v : Tree) → HasFraction (by a) keeps v → HasFraction (by b) keeps v
  fractions a b keeps (tree.Open prices why) has = if_some (mixed_of why) (IsFraction (by a) keeps prices) (IsFraction (by b) keeps prices) (fraction a b keeps prices) has
  fractions a b keeps (tree.Split' leg choice prices m p with_pair q without) has = (fraction a b keeps prices m has.0, has.1)
  fractions a b keeps (tree.Bare leg) has = has
  fractions a b keeps tree.Sole has = has
  fractions a b keeps (tree.Refuted prices) has = has
  fractions a b keeps (tree.Priced prices) has = has
  fractions a b keeps (tree.Trim' leg choice p with_pair q without) has = has

  keeps_rule : (a b : Settled) (cost : Option ℤ) (node : Node) (r : Rule) → Keeps (by a) cost node r → Keeps (by b) cost node r
  keeps_rule a b cost node rule.Scale holds = holds
  keeps_rule a b cost node rule.Limits holds = if_some (prices_at node.tree) (AreWithin (by a)) (AreWithin (by b)) (within a b) holds
  keeps_rule a b cost node rule.Fall holds = if_some (prices_at node.tree) (NeverRise (by a)) (NeverRise (by b)) (fall a b) holds
  keeps_rule a b cost node rule.Rent holds = if_some (prices_at node.tree) (RiseByRent (by a)) (RiseByRent (by b)) (rise a b) holds
  keeps_rule a b cost node rule.Pairs holds = own_pairs a b node.keeps node.tree holds
  keeps_rule a b cost node rule.Refuted holds = refuted a b node.keeps node.tree holds
  keeps_rule a b cost node rule.Priced holds = priced a b cost node.keeps node.tree holds
  keeps_rule a b cost node rule.Parts holds = parts a b node.keeps node.tree holds
  keeps_rule a b cost node rule.Mixed holds = if_some (mixed_at node.tree) (IsMixedAt (by a) node.keeps) (IsMixedAt (by b) node.keeps) (mixed a b node.keeps) holds
  keeps_rule a b cost node rule.Fraction holds = fractions a b node.keeps node.tree holds

  -- ---- bounds

  price_bound : (a b : Settled) (keeps : Domains) (prices : Prices) (bound : Option ℤ) → IsPriceBound (by a) keeps prices bound → IsPriceBound (by b) keeps prices bound
  unfolding leg_worth worth_of less_charges period_of days_in parking_of choices_in cost_of departure slot_by fleet_by
  price_bound a b keeps prices bound is = record { least = is.least; is = is.is; rounded = is.rounded }

  sole_bound : (a b : Settled) (keeps : Domains) (bound : Option ℤ) → IsSoleBound (by a) keeps bound → IsSoleBound (by b) keeps bound
  unfolding total_cost cost_of slot_by fleet_by
  sole_bound a b keeps bound is = record {
    legal = λ plan kept good. is.legal plan (kept_plan b a keeps plan kept) (legal b a plan good);
    illegal = λ plan kept bad. is.illegal plan (kept_plan b a keeps plan kept) (λ good. bad (legal a b plan good));
    none = λ no_plan. is.none (λ plan kept. no_plan plan (kept_plan a b keeps plan kept));
  }

  bound_in : (a b : Settled) (keeps : Domains) (v : Tree) (bound : Option ℤ) → IsBoundIn (by a) keeps v bound → IsBoundIn (by b) keeps v bound
  bound_in a b keeps (tree.Bare leg) bound is = is
  bound_in a b keeps tree.Sole bound is = sole_bound a b keeps bound is
  bound_in a b keeps (tree.Refuted prices) bound is = is
  bound_in a b keeps (tree.Priced prices) bound is = price_bound a b keeps prices bound is
  bound_in a b keeps (tree.Open prices why) bound is = price_bound a b keeps prices bound is
  bound_in a b keeps (tree.Trim' leg choice p with_pair q without) bound is = record {
    with_pair = is.with_pair;
    without = is.without;
    yes_is = bound_in a b (part keeps leg choice true) with_pair is.with_pair is.yes_is;
    no_is = bound_in a b (part keeps leg choice false) without is.without is.no_is;
    lesser = is.lesser;
  }
  bound_in a b keeps (tree.Split' leg choice prices m p with_pair q without) bound is = record {
    with_pair = is.with_pair;
    without = is.without;
    yes_is = bound_in a b (part keeps leg choice true) with_pair is.with_pair is.yes_is;
    no_is = bound_in a b (part keeps leg choice false) without is.without is.no_is;
    lesser = is.lesser;
  }

  holds : (a b : Settled) (cost : Option ℤ) (v : Tree) (bound : Option ℤ) → HoldsWith (by a) cost v bound → HoldsWith (by b) cost v bound
  unfolding cost_of slot_by fleet_by
  holds a b cost v bound is = record {
    sound = λ k d in_list. (let here = is.sound k d in_list in record { each = λ r. keeps_rule a b cost (get_or (nodes_in (all_pairs (by a)) v) k d) r (here.each r) });
    bounded = bound_in a b (all_pairs (by a)) v bound is.bounded;
  }

-- ---- between any settings
module _ (s : List Station) (f : List Fleet) (l : List Leg) (c : List PairCost) (h : List Through) (g : List Departure) (windows optional : Bool) where
  -- settings of as many days
  abbrev SameDays : Fits s f l c h g windows optional → Fits s f l c h g windows optional → Type 0
  SameDays a b = days_in (tables_by s f l c h g windows optional a) ≡ days_in (tables_by s f l c h g windows optional b)

  -- an assignment that is legal by some settings is legal by others of as many days
  pub legal_by : (a b : Fits s f l c h g windows optional) → SameDays a b → (plan : List ℕ) → IsLegal (tables_by s f l c h g windows optional a) plan → IsLegal (tables_by s f l c h g windows optional b) plan
  unfolding days_in
  legal_by a b same plan is =
      subst (λ n. (fits : AreTables s f l c h (with_days n b.0) g windows optional) → IsLegal (tables_by s f l c h g windows optional (with_days n b.0, fits)) plan) same
      (λ fits. legal s f l c h g windows optional a.0.period (a.0, a.1) (b.0, fits) plan is) b.1

  -- a tree that holds by some settings holds by others of as many days, with the same bound
  pub holds_by : (a b : Fits s f l c h g windows optional) → SameDays a b → (cost : Option ℤ) (v : Tree) (bound : Option ℤ) → HoldsWith (tables_by s f l c h g windows optional a) cost v bound → HoldsWith (tables_by s f l c h g windows optional b) cost v bound
  unfolding days_in
  holds_by a b same cost v bound is =
      subst (λ n. (fits : AreTables s f l c h (with_days n b.0) g windows optional) → HoldsWith (tables_by s f l c h g windows optional (with_days n b.0, fits)) cost v bound) same
      (λ fits. holds s f l c h g windows optional a.0.period (a.0, a.1) (b.0, fits) cost v bound is) b.1
