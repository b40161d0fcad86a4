-- The minutes of a period, and its days.
use Rattle.std.specs.Prelude.{ℕ, ◌+◌, ◌-◌, ◌*◌, ◌/◌, ◌%◌, ◌==◌, Bool}
use Rattle.fleet_model.specs.declared.limits.TheConstants.{MINUTES_PER_DAY}

-- the minutes of so many days
abbrev pub minutes_of : ℕ → ℕ
minutes_of days = days * MINUTES_PER_DAY

-- the day on which a minute lies, days counted from 0
abbrev pub day_of_minute : ℕ → ℕ
day_of_minute minute = minute / MINUTES_PER_DAY

-- a minute, counted from the start of its day
abbrev pub minute_of_day : ℕ → ℕ
minute_of_day minute = minute % MINUTES_PER_DAY

-- the last minute of a day, days counted from 1
abbrev pub day_end : ℕ → ℕ
day_end day = minutes_of day - 1

-- a minute is the last of its day
abbrev pub ends_day : ℕ → Bool
ends_day minute = minute_of_day (minute + 1) == 0

-- how many days have ended with a minute
abbrev pub days_ended : ℕ → ℕ
days_ended minute = day_of_minute (minute + 1)
