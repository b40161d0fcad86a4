use Rattle.std.proofs.Common.{◌≡◌, Some, sym, ap, ◌∙◌, arith, rules, pos, to_z}
use Rattle.std.proofs.lemmas.Int.{to_z_pos}
use Rattle.jiff_core.proofs.SignedLemmas.{signed_arith}
use mir.Syntax.{w8, w16}
use Rattle.calendar_dates.proofs.Civil.{is_date_by, is_read, is_unread, no_year_zero}
use Rattle.calendar_dates.proofs.reading.civil_day.Goals as goal

pub returns-then-year-eq0-clause-read : goal.returns-then-year-eq0-clause-read
returns-then-year-eq0-clause-read c =
    let zero : c.args.year ≡ 0 = search rules in
    rw zero (no_year_zero c.args.month c.args.day)

pub returns-in-Ok-clause-read : goal.returns-in-Ok-clause-read
returns-in-Ok-clause-read c =
    let year : to_z w16 c.args.year ≡ pos c.args.year = to_z_pos w16 c.args.year (omega arith) in
    let month : to_z w8 c.args.month ≡ pos c.args.month = to_z_pos w8 c.args.month (omega arith) in
    let day : to_z w8 c.args.day ≡ pos c.args.day = to_z_pos w8 c.args.day (omega arith) in
    let value = c.in-Ok.ensures.value in
    let same_month = value.1 ∙ month in
    let same_day = value.2 ∙ day in
    ap Some c.from_civil.ensures
    ∙ is_read c.args.year c.args.month c.args.day c.in-Ok.date (omega arith) (value.0 ∙ year) (omega (arith, signed_arith)) (omega (arith, signed_arith))

pub returns-in-Err-clause-read : goal.returns-in-Err-clause-read
returns-in-Err-clause-read c =
    let year : to_z w16 c.args.year ≡ pos c.args.year = to_z_pos w16 c.args.year (omega arith) in
    let month : to_z w8 c.args.month ≡ pos c.args.month = to_z_pos w8 c.args.month (omega arith) in
    let day : to_z w8 c.args.day ≡ pos c.args.day = to_z_pos w8 c.args.day (omega arith) in
    is_unread c.args.year c.args.month c.args.day (omega arith) (λ date.
    let refused = c.in-Err.ensures.succeeds.1 (is_date_by _ _ _ _ _ _ (sym year) (sym month) (sym day) date) in
    cc refused)
