use Rattle.calendar_dates.proofs.Civil.{civil_date}
use Rattle.calendar_dates.proofs.NextDays.{days_later}
use Rattle.calendar_dates.proofs.laws.days_go_by_number.Goals as goal

pub returns : goal.returns
returns c first later n = days_later n (civil_date first) (civil_date later)
