-- Whole fractional assignments as assignments, and the first pair of one that is not whole.
use Rattle.std.specs.Prelude.{◌≡◌, ◌≢◌, ℕ, ◌<◌, List, length, pos, ◌<ℤ◌}
use Rattle.fleet_model.specs.Counts.{choice_at}
use Rattle.fleet_model.specs.Schedule.{IsPair, choices_in, leg_on, legs_in}
use Rattle.fleet_model.specs.declared.parts.Pair.{Pair}
use Rattle.fleet_model.specs.declared.tables.Tables.{Tables}
use Rattle.dual_bound.specs.Mixed.{weight_in}
use Rattle.dual_bound.specs.declared.mixed.Mixed.{Mixed}
use Rattle.dual_bound.specs.Fractions.{IsWholePair}
use Rattle.node_bounding.specs.Causes.{IsFirstPartial}

-- a pair is flown in part
pub record IsPartial (mixed : Mixed) (leg choice : ℕ) : Type 0 where
  pub some : pos 0 <ℤ weight_in mixed (leg_on leg choice)
  pub not_all : weight_in mixed (leg_on leg choice) <ℤ mixed.scale

-- the first pair of a leg that is flown in part
pub record IsFirstPartialOn (t : Tables) (mixed : Mixed) (leg choice : ℕ) : Type 0 where
  pub known : choice < choices_in t leg
  pub partial : IsPartial mixed leg choice
  pub first : (c : ℕ) → c < choice → IsWholePair mixed leg c

-- the first pair of all that is flown in part
pub record IsSplitPair (t : Tables) (mixed : Mixed) (pair : Pair) : Type 0 where
  pub known : IsPair t pair
  pub first : IsFirstPartial t mixed pair.leg pair.choice

-- a part of the leg is flown by this choice
pub record FliesPart (t : Tables) (mixed : Mixed) (leg choice : ℕ) : Type 0 where
  pub known : choice < choices_in t leg
  pub some : weight_in mixed (leg_on leg choice) ≢ pos 0

-- each leg has a choice by which a part of it is flown
pub record HasChoices (t : Tables) (mixed : Mixed) : Type 0 where
  pub each : (l : ℕ) → l < legs_in t → ¬ ((c : ℕ) → c < choices_in t l → weight_in mixed (leg_on l c) ≡ pos 0)

-- an assignment has for each leg a choice by which a part of it is flown
pub record FliesParts (t : Tables) (mixed : Mixed) (a : List ℕ) : Type 0 where
  pub each_leg : length a ≡ legs_in t
  pub parts : (l : ℕ) → l < length a → FliesPart t mixed l (choice_at a l)
