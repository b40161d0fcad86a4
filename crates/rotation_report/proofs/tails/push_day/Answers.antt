use Rattle.std.proofs.Common.{refl, rules, ◌≡◌, ◌++◌, ap, ◌∙◌, arith}
use Rattle.calendar_dates.specs.Days.{day_on, day_text}
use Rattle.rotation_report.specs.Tails.{dated_line, day_lines}
use Rattle.printed_lines.proofs.Joined.{lines_more}
use Rattle.rotation_report.proofs.tails.push_day.Goals as goal

pub loop-aircraft-preserved : goal.loop-aircraft-preserved
loop-aircraft-preserved c =
    let t = c.args.tables.now in
    let flown = c.args.flown.now in
    let day = day_on c.args.date in
    let n = c.loop-aircraft.aircraft in
    lines_more (day_lines t flown day c.args.day) n (dated_line t flown (day_text day) c.args.day n) c.args.text.now.items c.loop-aircraft.text.items c.push_tail.new.text.items refl c.loop-aircraft.invariant
    (search rules)

pub returns : goal.returns
returns c =
    let all : c.loop-aircraft.aircraft ≡ c.args.flown.now.used = omega arith in
    c.loop-aircraft.invariant ∙ ap (λ n. c.args.text.now.items ++ day_lines c.args.tables.now c.args.flown.now (day_on c.args.date) c.args.day n) all
