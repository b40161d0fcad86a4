use Rattle.std.proofs.Common.{map, ap, ◌∙◌, arith}
use Rattle.std.proofs.lemmas.List.{map_push}
use Rattle.jiff_core.proofs.SignedLemmas.{signed_arith}
use Rattle.sums.proofs.Places.{list_below-push}
use Rattle.calendar_dates.specs.Days.{day_after, day_on}
use Rattle.calendar_dates.proofs.Civil.{day_number_range}
use Rattle.calendar_dates.proofs.following.dates_from.Goals as goal

pub date_after-requires : goal.date_after-requires
date_after-requires c = (omega (arith, signed_arith, day_number_range c.args.first), omega (arith, signed_arith, c.requires.last))

pub loop-days-preserved : goal.loop-days-preserved
loop-days-preserved c =
    ap (map day_on) c.in_ok-push.ensures.items ∙ map_push day_on c.loop-days.dates.items c.date_after.result
    ∙ list_below-push (day_after (day_on c.args.first)) c.loop-days.days (map day_on c.loop-days.dates.items) (day_on c.date_after.result) c.loop-days.invariant c.date_after.ensures
