use Rattle.std.proofs.Common.{◌≡◌, ◌∙◌, rules, arith}
use Rattle.std.specs.Prelude.{length, slice_index}
use Rattle.calendar_dates.proofs.Civil.{date_by_parts, two_read}
use Rattle.calendar_dates.proofs.reading.civil_date.Goals as goal

pub returns-in-45-clause-read : goal.returns-in-45-clause-read
returns-in-45-clause-read c =
    let ten : length c.args.text.now ≡ 10 = omega arith in
    let dash : slice_index c.args.text.now 4 ≡ 45 = search rules in
    let second : slice_index c.args.text.now 7 ≡ 45 = search rules in
    let hundreds : c.two_digits-hundreds.result ≡ two_read c.args.text.now 0 = search rules in
    let years : c.two_digits-years.result ≡ two_read c.args.text.now 2 = search rules in
    let month : c.two_digits-month.result ≡ two_read c.args.text.now 5 = search rules in
    let day : c.two_digits-day.result ≡ two_read c.args.text.now 8 = search rules in
    c.date_by_digits.ensures.read ∙ date_by_parts c.args.text.now c.two_digits-hundreds.result c.two_digits-years.result c.two_digits-month.result c.two_digits-day.result
    ten dash second hundreds years month day
