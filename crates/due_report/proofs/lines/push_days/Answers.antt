use Rattle.std.proofs.Common.{◌≡◌, ◌++◌, ◌<◌, length, map, slice_index_or, refl, sym, ap, ◌∙◌, arith}
use Rattle.std.proofs.lemmas.List.{get_or-map}
use Rattle.calendar_dates.specs.Days.{day_on, no_day}
use Rattle.printed_lines.proofs.Joined.{lines_more}
use Rattle.due_report.specs.Lines.{days_tails, tails_on}
use Rattle.due_report.proofs.lines.push_days.Goals as goal

pub loop-day-preserved : goal.loop-day-preserved
loop-day-preserved c =
    let t = c.args.tables.now in
    let flown = c.args.flown.now in
    let names = c.args.names.now in
    let starts = c.args.starts.now in
    let dates = c.args.dates.now in
    let days = map day_on dates in
    let n = c.loop-day.day in
    let within : n < length dates = omega arith in
    let date = c.index-dates-day.result in
    let same : day_on date ≡ slice_index_or days n no_day = ap day_on c.index-dates-day.is ∙ sym (get_or-map day_on dates n date no_day within) in
    lines_more (days_tails t flown names starts days) n (tails_on t flown names starts (slice_index_or days n no_day) n (length names)) c.args.text.now.items c.loop-day.text.items c.push_day.new.text.items refl c.loop-day.invariant
    (c.in_ok-push_day.ensures ∙ ap (λ day. c.loop-day.text.items ++ tails_on t flown names starts day n (length names)) same)
