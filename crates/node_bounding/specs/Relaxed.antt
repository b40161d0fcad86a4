-- What the linear relaxation of a subproblem comes to.
use Rattle.std.specs.Prelude.{◌≡◌, ℕ, Option, Result, Ok, Err, IsOkAnd, IsErr, ⊤}
use Rattle.entries.specs.declared.memory.NoMemory.{NoMemory}
use Rattle.fleet_model.specs.Kept.{Domains}
use Rattle.fleet_model.specs.declared.tables.Tables.{Tables}
use Rattle.dual_bound.specs.WrittenOrder.{IsCauseInOrder, IsCount}
use Rattle.dual_bound.specs.declared.trees.Cause.{Cause}
use Rattle.dual_bound.specs.declared.trees.Cause.TheVariants as cause
use Rattle.simplex_frac.specs.declared.dual_lift.error.LiftError.{LiftError}
use Rattle.simplex_frac.specs.declared.dual_lift.error.LiftError.TheVariants as lift
pub use Rattle.price_lift.specs.BestPoint.{AreGood, AreRefuting, IsBestPoint}
use Rattle.simplex_frac.specs.declared.outcome.Outcome.{Outcome}
use Rattle.simplex_frac.specs.declared.outcome.Outcome.TheVariants as outcome
use Rattle.node_bounding.specs.Causes.{IsStopped}
use Rattle.node_bounding.specs.declared.relaxing.Relaxed.{Relaxed}
use Rattle.node_bounding.specs.declared.relaxing.Relaxed.TheVariants as relaxed

-- why there are no prices, in counts that 64 bits hold
pub record IsWhyStopped (t : Tables) (keeps : Domains) (pivots : Option ℕ) (why : Cause) : Type 0 where
  pub stopped : IsStopped t keeps pivots why
  pub in_order : IsCauseInOrder t why

-- prices that refute the subproblem; or its best fractional assignment, with prices that are worth as much; or why there is
-- neither
abbrev pub IsRelaxed : Tables → Domains → Option ℕ → Relaxed → Type 0
IsRelaxed t keeps pivots (relaxed.Refuted prices) = AreRefuting t keeps prices
IsRelaxed t keeps pivots (relaxed.Bounded best) = IsBestPoint t keeps best
IsRelaxed t keeps pivots (relaxed.Stopped why) = IsWhyStopped t keeps pivots why

-- there are no prices, since a number was too large for the lift
pub record IsLiftStopped (step at : ℕ) (found : Relaxed) : Type 0 where
  pub stopped : found ≡ relaxed.Stopped (cause.Lift step at)
  pub step_held : IsCount step
  pub at_held : IsCount at

-- what a lift comes to; memory is wanting only where the lift wanted it
abbrev pub IsLiftTold : Result Relaxed LiftError → Result Relaxed NoMemory → Type 0
IsLiftTold (Ok lifted) found = found ≡ Ok lifted
IsLiftTold (Err (lift.TooLarge step at)) found = IsOkAnd found (IsLiftStopped step at)
IsLiftTold (Err lift.NoMemory) found = IsErr found

-- a run that has spent its pivots, or whose next pivot is outgrown, stops the subproblem for that: memory isn't wanting
abbrev pub IsEnded : Outcome → Result Relaxed LiftError → Type 0
IsEnded (outcome.Best basis made) found = ⊤
IsEnded (outcome.NoPoint basis made) found = ⊤
IsEnded (outcome.Ray column) found = ⊤
IsEnded (outcome.Spent made) found = found ≡ Ok (relaxed.Stopped (cause.Pivots made))
IsEnded (outcome.Grew made row column) found = found ≡ Ok (relaxed.Stopped (cause.Grew made row column))
