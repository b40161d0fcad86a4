-- A period of one day.
use Rattle.std.proofs.Common.{◌+◌, ◌-◌, ◌*◌, ◌%◌, ap, ◌∙◌, arith}
use Rattle.fleet_model.specs.declared.limits.TheConstants.{MINUTES_PER_DAY}
use Rattle.sched_read.specs.Laws.{OneDay}

pub one_day : OneDay
one_day settings minute one = ap (λ days. (0 + minute + days * MINUTES_PER_DAY - settings.day_start) % (days * MINUTES_PER_DAY)) one ∙ omega arith
