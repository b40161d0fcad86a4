-- Choices by which legs are left out, and how far a subproblem can still be narrowed.
use Rattle.std.specs.Prelude.{◌≡◌, ℕ, ◌-◌, ◌≤◌, ◌&&◌, not, nat_lt, Bool, true}
use Rattle.sums.specs.Below.{count_below, sum_below}
use Rattle.fleet_model.specs.declared.tables.Tables.{Tables}
use Rattle.fleet_model.specs.Kept.{Domains, all_pairs, kept_on}
use Rattle.fleet_model.specs.Schedule.{choices_in, fleet_by, fleets_in, leg_on, legs_in}

-- no fleet flies the leg by this choice, and it may be taken
abbrev pub leaves_out : Tables → ℕ → ℕ → Bool
leaves_out t l c = not (nat_lt (fleet_by t (leg_on l c)) (fleets_in t)) && all_pairs t (leg_on l c)

-- by how many choices the leg may be left out
unfoldable pub left_out_on : Tables → ℕ → ℕ
left_out_on t l = count_below (leaves_out t l) (choices_in t l)

-- what is left to step on a leg: the choices that it keeps, but for that by which it may be left out, which no removal takes
abbrev pub steps_on : Tables → Domains → ℕ → ℕ
steps_on t keeps l = kept_on t keeps l - left_out_on t l

-- .. and on all legs
abbrev pub steps_left : Tables → Domains → ℕ
steps_left t keeps = sum_below (steps_on t keeps) (legs_in t)

-- each choice by which a leg may be left out is kept
pub record KeepLeftOut (t : Tables) (keeps : Domains) : Type 0 where
  pub each : (l c : ℕ) → leaves_out t l c ≡ true → keeps (leg_on l c) ≡ true

-- where all pairs are kept, no more is left to step than legs may have pairs by which they are flown
abbrev pub StepsAreFew : Type 0
StepsAreFew = (t : Tables) → steps_left t (all_pairs t) ≤ 20000
