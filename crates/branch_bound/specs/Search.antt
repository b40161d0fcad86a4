-- The list of a search: its subproblems by their numbers, and the steps into them.
use Rattle.std.specs.Prelude.{◌≡◌, ℕ, ◌<◌, Bool, List, length, slice_index_or, None, IfSome}
use Rattle.fleet_model.specs.Schedule.{IsPair, leg_on}
use Rattle.fleet_model.specs.declared.kept.Step.{Step}
use Rattle.fleet_model.specs.declared.parts.Pair.{Pair}
use Rattle.fleet_model.specs.declared.tables.Tables.{Tables}
use Rattle.dual_bound.specs.declared.trees.Tree.TheVariants as tree
use Rattle.branch_bound.specs.declared.subproblems.Origin.{Origin}
use Rattle.node_bounding.specs.declared.states.State.{State}
use Rattle.node_bounding.specs.declared.states.State.TheVariants as state
use Rattle.branch_bound.specs.declared.subproblems.Subproblem.{Subproblem}

-- the subproblem with a number
abbrev pub no_subproblem : Subproblem
no_subproblem = record { origin = None; state = state.Leaf tree.Sole }

abbrev pub at : List Subproblem → ℕ → Subproblem
at all k = slice_index_or all k no_subproblem

-- the step into a part by a pair
abbrev pub step_into : Pair → Bool → Step
step_into pair taken = record { leg = pair.leg; choice = pair.choice; yes = taken }

-- a subproblem is split by the pair of a step
abbrev pub IsSplitBy : Step → State → Type 0
IsSplitBy step (state.Leaf leaf) = ⊥
IsSplitBy step (state.Stopped s) = ⊥
IsSplitBy step (state.Waiting f) = ⊥
IsSplitBy step (state.Split f) = (step.leg ≡ f.pair.leg) × (step.choice ≡ f.pair.choice)

-- a part was made after the subproblem that it is a part of, by a step of a pair of the tables
pub record IsMadeLater (t : Tables) (k : ℕ) (origin : Origin) : Type 0 where
  pub earlier : origin.parent < k
  pub pair : IsPair t (leg_on origin.step.leg origin.step.choice)

pub record HaveOrigins (t : Tables) (all : List Subproblem) : Type 0 where
  pub each : (k : ℕ) → k < length all → IfSome (at all k).origin (IsMadeLater t k)
