-- What is first too large, step by step.
use Rattle.std.proofs.Common.{◌≡◌, ℕ, ◌+◌, ◌<◌, Bool, true, false, Option, Some, None, refl, sym, ap, subst, add-one}
use Rattle.sums.specs.Places.{first_below, or_else}
use Rattle.sums.proofs.Places.{first_found}
use Rattle.simplex_frac.specs.dual_lift.TooLarge.{IsLiftError, IsWantedBehind, excess_if}
use Rattle.simplex_frac.specs.declared.dual_lift.error.Excess.{Excess}
use Rattle.simplex_frac.specs.declared.dual_lift.error.LiftError.{LiftError}
use Rattle.simplex_frac.specs.declared.dual_lift.error.LiftError.TheVariants.{TooLarge, NoMemory}

-- the first part fails
pub first_fails : (o p : Option Excess) (e : LiftError) → IsLiftError o e → IsLiftError (or_else o p) e
first_fails o p (TooLarge step at) is = rw is refl
first_fails o p NoMemory is = tt

-- the first part is well, and the second fails
pub then_fails : (o p : Option Excess) (e : LiftError) → o ≡ None → IsLiftError p e → IsLiftError (or_else o p) e
then_fails o p (TooLarge step at) well is = rw well is
then_fails o p NoMemory well is = tt

-- memory is wanting behind what is well
pub wanted_behind : (o : Option Excess) (e : LiftError) → o ≡ None → IsWantedBehind o e
wanted_behind o (TooLarge step at) well = tt
wanted_behind o NoMemory well = well

pub then_wanted : (o p : Option Excess) (e : LiftError) → o ≡ None → IsWantedBehind p e → IsWantedBehind (or_else o p) e
then_wanted o p (TooLarge step at) well is = tt
then_wanted o p NoMemory well is = rw well is

-- both are well
pub both_well : (o p : Option Excess) → o ≡ None → p ≡ None → or_else o p ≡ None
both_well o p first second = rw first second

-- one place more is well
pub place_well : (f : ℕ → Option Excess) (k : ℕ) → first_below f k ≡ None → f k ≡ None → first_below f (k + 1) ≡ None
place_well f k before here = subst (λ n. first_below f n ≡ None) (sym (add-one k)) (rw before here)

-- .. by an excess
pub place_found : (f : ℕ → Option Excess) (k n : ℕ) (e : Excess) → first_below f k ≡ None → k < n → f k ≡ Some e → first_below f n ≡ Some e
place_found f k n e before below is = first_found f k n e before is below

-- a test that passes is too large, and one that does not is well
pub too_large : (b : Bool) (step at : ℕ) → b ≡ true → IsLiftError (excess_if b step at) (TooLarge step at)
too_large true step at e = refl
too_large false step at e = cc

pub well : (b : Bool) (step at : ℕ) → b ≡ false → excess_if b step at ≡ None
well false step at e = refl
well true step at e = cc

-- the first place whose test passes
pub found_at : (test : ℕ → Bool) (step : ℕ) (k n at : ℕ) → first_below (λ j. excess_if (test j) step j) k ≡ None → k < n → test k ≡ true → at ≡ k → first_below (λ j. excess_if (test j) step j) n ≡ Some (record { step = step; at = at })
found_at test step k n at before below passes same =
    first_found (λ j. excess_if (test j) step j) k n (record { step = step; at = at }) before (there (test k) passes) below
  where
    there : (b : Bool) → b ≡ true → excess_if b step k ≡ Some (record { step = step; at = at })
    there true e = ap (λ a. Some (record { step = step; at = a })) (sym same)
    there false e = cc

-- .. behind so many others
pub found_behind : (test : ℕ → Bool) (step first : ℕ) (k n at : ℕ) → first_below (λ j. excess_if (test j) step (first + j)) k ≡ None → k < n → test k ≡ true → at ≡ first + k
    → first_below (λ j. excess_if (test j) step (first + j)) n ≡ Some (record { step = step; at = at })
found_behind test step first k n at before below passes same =
    first_found (λ j. excess_if (test j) step (first + j)) k n (record { step = step; at = at }) before (there (test k) passes) below
  where
    there : (b : Bool) → b ≡ true → excess_if b step (first + k) ≡ Some (record { step = step; at = at })
    there true e = ap (λ a. Some (record { step = step; at = a })) (sym same)
    there false e = cc

-- .. and the other way round
pub not_excess : (b : Bool) (step at : ℕ) → excess_if b step at ≡ None → b ≡ false
not_excess true step at e = absurd (some_none e)
  where
    some_none : {x : Excess} → Some x ≡ None → ⊥
    some_none e = cc
not_excess false step at e = refl

pub first_none : (o p : Option Excess) → or_else o p ≡ None → o ≡ None
first_none None p e = refl
first_none (Some x) p e = cc

pub second_none : (o p : Option Excess) → or_else o p ≡ None → p ≡ None
second_none None p e = e
second_none (Some x) p e = cc
