-- What is first too large on the way from a last table to dual values in lowest terms, and to the scale of a basic point.
use Rattle.std.specs.Prelude.{◌≡◌, ℕ, suc, ◌+◌, Bool, ◌&&◌, ◌||◌, nat_lt, int_lt, if◌then◌else◌, List, ℤ, pos, neg_ℤ, ◌*ℤ◌, unsigned_abs, Option, Some, None}
use Rattle.sums.specs.Places.{first_below, or_else}
use Rattle.frac_row.specs.Outgrown.{is_outgrown}
use Rattle.frac_row.specs.Row.{number_of, reduced, width_of}
use Rattle.frac_row.specs.declared.row.FracRow.{FracRow}
use Rattle.row_store.specs.Choice.{is_negative}
use Rattle.simplex_frac.specs.dual_lift.Duals.{best_scale, best_value, cost_den, cost_number, cost_value, phase_den, phase_number, phase_value, phases_added, phases_value}
use Rattle.simplex_frac.specs.dual_lift.Scales.{scale_below}
use Rattle.simplex_frac.specs.declared.dual_lift.error.Excess.{Excess}
use Rattle.simplex_frac.specs.declared.dual_lift.error.LiftError.{LiftError}
use Rattle.simplex_frac.specs.declared.dual_lift.error.LiftError.TheVariants.{TooLarge, NoMemory}

-- the place, where it is too large
abbrev pub excess_if : Bool → ℕ → ℕ → Option Excess
excess_if too_large step at = if too_large then Some (record { step = step; at = at }) else None

-- step 1, column by column: a product on the way to how often the phase row is added
abbrev pub phases_for_outgrown : ℤ → ℤ → ℤ → ℤ → Bool
phases_for_outgrown c C p P = is_negative c && (is_outgrown (neg_ℤ c *ℤ P) || is_outgrown (p *ℤ C))

abbrev pub phases_excess : List FracRow → ℕ → Option Excess
phases_excess table column = excess_if (phases_for_outgrown (cost_number table column) (cost_den table) (phase_number table column) (phase_den table)) 1 column

-- step 2: the common scale
abbrev pub scale_excess : List FracRow → Option Excess
scale_excess table = excess_if (is_outgrown (best_scale table)) 2 0

-- step 3, line by line: a number on the way to a dual value, from left to right
abbrev pub phases_outgrown : List FracRow → ℕ → Bool
phases_outgrown table line = is_outgrown (phase_value table line) || (is_outgrown (pos (phases_added table) *ℤ phase_value table line) || is_outgrown (phases_value table line))

abbrev pub best_value_outgrown : List FracRow → ℕ → Bool
best_value_outgrown table line = phases_outgrown table line || (is_outgrown (cost_value table line) || is_outgrown (best_value table line))

abbrev pub best_value_excess : List FracRow → ℕ → Option Excess
best_value_excess table line = excess_if (best_value_outgrown table line) 3 line

abbrev pub refusal_value_excess : List FracRow → ℕ → Option Excess
refusal_value_excess table line = excess_if (is_outgrown (phase_value table line)) 3 line

-- step 4: the scale of dual values in lowest terms, past its limit
abbrev pub lowest_scale_excess : ℕ → FracRow → Option Excess
lowest_scale_excess most duals = excess_if (int_lt (pos most) (reduced duals).den) 4 0

-- step 5, line by line from the first one on: a dual value in lowest terms, past its limit
abbrev pub lowest_value_excess : ℕ → ℕ → FracRow → ℕ → Option Excess
lowest_value_excess most first duals k = excess_if (nat_lt most (unsigned_abs (number_of (reduced duals) k))) 5 (first + k)

-- .. what is first too large of both, by the limits of scale and values
abbrev pub lowest_excess : ℕ → ℕ → ℕ → FracRow → Option Excess
lowest_excess most_scale most_value first duals =
    or_else (lowest_scale_excess most_scale duals) (first_below (lowest_value_excess most_value first duals) (width_of duals))

-- step 6, line by line: the scale of the first columns at the basic point, past its limit
abbrev pub least_scale_excess : ℕ → List FracRow → List ℕ → ℕ → ℕ → Option Excess
least_scale_excess most table basis columns line = excess_if (nat_lt most (scale_below table basis columns (suc line))) 6 line

-- why a lift is refused: the first number that is too large; want of memory is free
abbrev pub IsLiftError : Option Excess → LiftError → Type 0
IsLiftError excess (TooLarge step at) = excess ≡ Some (record { step = step; at = at })
IsLiftError excess NoMemory = Unit {0}

-- .. which is wanting only where nothing is too large that is looked at before
abbrev pub IsWantedBehind : Option Excess → LiftError → Type 0
IsWantedBehind excess (TooLarge step at) = Unit {0}
IsWantedBehind excess NoMemory = excess ≡ None
