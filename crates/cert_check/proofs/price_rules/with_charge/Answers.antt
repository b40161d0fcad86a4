use Rattle.std.proofs.Common.{rules, ◌≡◌, ◌+◌, ◌≤◌, sym, subst, arith}
use Rattle.fleet_model.specs.Period.{minute_of_day}
use Rattle.fleet_model.specs.Schedule.{days_in}
use Rattle.fleet_model.proofs.PeriodMinutes.{at_most_week}
use Rattle.dual_bound.proofs.Charges.{day_within}
use Rattle.cert_check.proofs.price_rules.with_charge.Goals as goal

pub ends_day-requires : goal.ends_day-requires
ends_day-requires c = omega (arith, at_most_week c.args.tables.now, c.requires.minute)

pub days_ended-requires : goal.days_ended-requires
days_ended-requires c = omega (arith, at_most_week c.args.tables.now, c.requires.minute)

pub charge-requires-clause-day : goal.charge-requires-clause-day
charge-requires-clause-day c =
    let ends : minute_of_day (c.args.minute + 1) ≡ 0 = search rules in
    subst (λ d. d ≤ days_in c.args.tables.now) (sym c.days_ended.ensures) (day_within c.args.tables.now c.args.minute c.requires.minute ends)
