use Rattle.calendar_dates.proofs.Between.{days_are, few_days, none_where_earlier, some_later}
use Rattle.calendar_dates.proofs.following.days_between.Goals as goal

pub returns-clause-days : goal.returns-clause-days
returns-clause-days c =
    days_are c.args.first c.args.date c.days_since_first-2.result c.days_since_first.result c.days_since_first-2.ensures.days c.days_since_first.ensures.days c.checked_sub.result c.checked_sub.ensures

pub returns-clause-earlier : goal.returns-clause-earlier
returns-clause-earlier c =
    none_where_earlier c.args.first c.args.date c.days_since_first-2.result c.days_since_first.result c.days_since_first-2.ensures.days c.days_since_first.ensures.days c.checked_sub.result c.checked_sub.ensures

pub returns-clause-later : goal.returns-clause-later
returns-clause-later c =
    some_later c.args.first c.args.date c.days_since_first-2.result c.days_since_first.result c.days_since_first-2.ensures.days c.days_since_first.ensures.days c.checked_sub.result c.checked_sub.ensures

pub returns-clause-few : goal.returns-clause-few
returns-clause-few c =
    few_days c.args.first c.args.date c.days_since_first-2.result c.days_since_first.result c.days_since_first-2.ensures.days c.days_since_first.ensures.days c.checked_sub.result c.days_since_first.ensures.few c.checked_sub.ensures
