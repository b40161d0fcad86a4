use Rattle.std.proofs.Common.{◌≡◌, pos, ◌+ℤ◌, arith, FitsSigned, w64, ap, subst, sym, ◌∙◌}
use Rattle.std.proofs.lemmas.Int.{to_z-of_z}
use Rattle.jiff.proofs.SpanFacts.{signed_arith, date_add-days, can_add-days}
use Rattle.jiff_core.specs.Calendar.{IsEpochDay}
use Rattle.jiff_core.specs.Date.{epoch_day}
use Rattle.calendar_dates.specs.Days.{day_after, day_number, day_on}
use Rattle.calendar_dates.proofs.Civil.{day_number_range}
use Rattle.calendar_dates.proofs.NextDays.{days_later}
use Rattle.calendar_dates.proofs.following.date_after.Goals as goal

pub days-requires : goal.days-requires
days-requires c =
    let fits : FitsSigned w64 (pos c.args.days) = omega (arith, signed_arith) in
    simp (c.from.ensures, to_z-of_z) (omega (arith, signed_arith, day_number_range c.args.first, c.requires))

pub returns : goal.returns
returns c =
    let fits : FitsSigned w64 (pos c.args.days) = omega (arith, signed_arith) in
    let only = simp (c.from.ensures, to_z-of_z) at c.days.ensures in
    let later : epoch_day c.in-Ok.date ≡ epoch_day c.to_civil.result +ℤ pos c.args.days = c.in-Ok.ensures.value ∙ date_add-days c.to_civil.result (pos c.args.days) c.days.result only in
    c.from_civil.ensures ∙ days_later c.args.days c.to_civil.result c.in-Ok.date later ∙ ap (λ d. day_after d c.args.days) c.to_civil.ensures

pub unreachable-requires : goal.unreachable-requires
unreachable-requires c =
    let fits : FitsSigned w64 (pos c.args.days) = omega (arith, signed_arith) in
    let only = simp (c.from.ensures, to_z-of_z) at c.days.ensures in
    let number : day_number (day_on c.args.first) ≡ epoch_day c.to_civil.result = sym (ap day_number c.to_civil.ensures) in
    let within = subst (λ z. IsEpochDay (z +ℤ pos c.args.days)) number c.requires in
    let refused = c.in-Err.ensures.succeeds.1 ((can_add-days c.to_civil.result (pos c.args.days) c.days.result only).1 within) in
    cc refused
