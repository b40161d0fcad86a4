use Rattle.std.proofs.Common.{◌≡◌, ◌++◌, ◌<◌, [], length, slice_index, slice_index_or, refl, ap, ◌∙◌, arith, rules}
use Rattle.std.proofs.lemmas.List.{get_or_default}
use Rattle.calendar_dates.specs.Days.{day_on, day_text}
use Rattle.printed_lines.proofs.Joined.{lines_more}
use Rattle.due_report.specs.Lines.{tail_line, tails_on}
use Rattle.due_report.proofs.lines.push_day.Goals as goal

pub loop-tail-preserved : goal.loop-tail-preserved
loop-tail-preserved c =
    let t = c.args.tables.now in
    let flown = c.args.flown.now in
    let names = c.args.names.now in
    let starts = c.args.starts.now in
    let day = day_on c.args.date in
    let d = c.args.day in
    let n = c.loop-tail.tail in
    let within : n < length names = omega arith in
    let name : c.as_slice-name.result.now ≡ slice_index_or names n [] = c.as_slice-name.ensures ∙ c.index-names-tail.is ∙ get_or_default names n c.index-names-tail.result [] within in
    let date : c.deref.result.now ≡ day_text day = search rules in
    let added : c.push_tail.new.text.items ≡ c.loop-tail.text.items ++ tail_line t flown (day_text day) d (slice_index_or names n []) (slice_index starts n) =
    c.in_ok-push_tail.ensures ∙ ap (λ text. c.loop-tail.text.items ++ tail_line t flown text d c.as_slice-name.result.now (slice_index starts n)) date
    ∙ ap (λ text. c.loop-tail.text.items ++ tail_line t flown (day_text day) d text (slice_index starts n)) name in
    lines_more (tails_on t flown names starts day d) n (tail_line t flown (day_text day) d (slice_index_or names n []) (slice_index starts n)) c.args.text.now.items c.loop-tail.text.items c.push_tail.new.text.items refl c.loop-tail.invariant added
