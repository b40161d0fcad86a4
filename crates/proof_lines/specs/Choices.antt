-- Which choice of a leg is told by what flies it and by how many minutes that departs later than at the leg's own time.
use Rattle.std.specs.Prelude.{ℕ, ◌+◌, ◌*◌, if◌then◌else◌, List, [], ◌∷◌, ℤ, pos, Option, Some, None, option_map}
use Rattle.std.specs.Ordering.{int_eq}
use Rattle.fleet_model.specs.Schedule.{left_out, leg_of, shifts_in}
use Rattle.fleet_model.specs.declared.shifts.Shift.{Shift}
use Rattle.fleet_model.specs.declared.tables.Tables.{Tables}

-- the place of the time that is so many minutes later than the leg's own
abbrev pub slot_in : ℤ → List Shift → Option ℕ
slot_in minutes [] = None
slot_in minutes (shift ∷ shifts) = if int_eq shift.minutes minutes then Some 0 else option_map (λ slot. slot + 1) (slot_in minutes shifts)

-- the choice by which a fleet flies the leg at that time, and that by which none does, told with 0 minutes
unfoldable pub choice_told : Tables → ℕ → Option ℕ → ℤ → Option ℕ
choice_told t leg (Some fleet) minutes = option_map (λ slot. fleet * shifts_in t leg + slot) (slot_in minutes (leg_of t leg).shifts)
choice_told t leg None minutes = if int_eq minutes (pos 0) then Some (left_out t leg) else None
