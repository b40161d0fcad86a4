use Rattle.std.proofs.Common.{◌≡◌, ◌++◌, ◌+◌, ◌<◌, length, map, slice_index_or, refl, sym, ap, ◌∙◌, arith}
use Rattle.std.proofs.lemmas.List.{get_or-map}
use Rattle.calendar_dates.specs.Days.{day_on, no_day}
use Rattle.rotation_report.specs.Tails.{day_lines, days_lines}
use Rattle.printed_lines.proofs.Joined.{lines_more}
use Rattle.rotation_report.proofs.tails.push_days.Goals as goal

pub loop-day-preserved : goal.loop-day-preserved
loop-day-preserved c =
    let t = c.args.tables.now in
    let flown = c.args.flown.now in
    let dates = c.args.dates.now in
    let days = map day_on dates in
    let n = c.loop-day.day in
    let within : n < length dates = omega arith in
    let date = c.index-dates-day.result in
    let same : day_on date ≡ slice_index_or days n no_day = ap day_on c.index-dates-day.is ∙ sym (get_or-map day_on dates n date no_day within) in
    lines_more (days_lines t flown c.args.past days) n (day_lines t flown (slice_index_or days n no_day) (c.args.past + n) flown.used) c.args.text.now.items c.loop-day.text.items c.push_day.new.text.items refl c.loop-day.invariant
    (c.in_ok-push_day.ensures ∙ ap (λ day. c.loop-day.text.items ++ day_lines t flown day (c.args.past + n) flown.used) same)

pub returns : goal.returns
returns c =
    let all : c.loop-day.day ≡ length c.args.dates.now = omega arith in
    c.loop-day.invariant ∙ ap (λ n. c.args.text.now.items ++ days_lines c.args.tables.now c.args.flown.now c.args.past (map day_on c.args.dates.now) n) all
