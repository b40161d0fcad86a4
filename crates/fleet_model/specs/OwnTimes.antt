-- The pairs by which fleets fly legs at their own times.
use Rattle.std.specs.Prelude.{ℕ, ◌+◌, ◌*◌}
use Rattle.fleet_model.specs.declared.parts.Pair.{Pair}
use Rattle.fleet_model.specs.declared.tables.Tables.{Tables}
use Rattle.fleet_model.specs.Schedule.{leg_of, leg_on, shifts_in}
use Rattle.fleet_model.specs.Windows.{own_slot}

-- the choice of a leg by which a fleet flies it at the leg's own time
unfoldable pub own_choice : Tables → ℕ → ℕ → ℕ
own_choice t l f = f * shifts_in t l + own_slot (leg_of t l).shifts

-- the pair by which it does
abbrev pub own_pair : Tables → ℕ → ℕ → Pair
own_pair t l f = leg_on l (own_choice t l f)
