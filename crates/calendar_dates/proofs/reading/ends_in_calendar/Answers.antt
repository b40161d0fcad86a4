use Rattle.std.proofs.Common.{◌≡◌, ◌↔◌, ◌∙◌, ◌-◌, ◌+ℤ◌, ap, sym, subst, arith, pos, true, FitsSigned, w64}
use Rattle.std.proofs.lemmas.Int.{to_z-of_z}
use Rattle.jiff.proofs.SpanFacts.{can_add-days, signed_arith}
use Rattle.jiff_core.specs.Calendar.{IsEpochDay}
use Rattle.jiff_core.specs.Date.{epoch_day}
use Rattle.calendar_dates.specs.Days.{day_number, day_on}
use Rattle.calendar_dates.specs.Reading.{ends_in_calendar}
use Rattle.calendar_dates.proofs.Civil.{ends_where}
use Rattle.calendar_dates.proofs.reading.ends_in_calendar.Goals as goal

pub returns-clause-told : goal.returns-clause-told
returns-clause-told c =
    let fits : FitsSigned w64 (pos (c.args.count - 1)) = omega (arith, signed_arith) in
    let only = simp (c.from.ensures, to_z-of_z) at c.days.ensures in
    let can = can_add-days c.to_civil.result (pos (c.args.count - 1)) c.days.result only in
    let succeeds = c.checked_add.ensures.succeeds in
    let told : (c.is_ok.result ≡ true) ↔ IsEpochDay (epoch_day c.to_civil.result +ℤ pos (c.args.count - 1)) =
    (λ is. can.0 (succeeds.0 (sym c.is_ok.ensures.value ∙ is)), λ day. c.is_ok.ensures.value ∙ succeeds.1 (can.1 day)) in
    ends_where c.to_civil.result c.args.count c.is_ok.result told ∙ ap (λ day. ends_in_calendar day c.args.count) c.to_civil.ensures

pub returns-clause-last : goal.returns-clause-last
returns-clause-last c =
    let fits : FitsSigned w64 (pos (c.args.count - 1)) = omega (arith, signed_arith) in
    let only = simp (c.from.ensures, to_z-of_z) at c.days.ensures in
    let number : epoch_day c.to_civil.result ≡ day_number (day_on c.args.first) = ap day_number c.to_civil.ensures in
    λ is. record {
      last = subst (λ z. IsEpochDay (z +ℤ pos (c.args.count - 1))) number
          ((can_add-days c.to_civil.result (pos (c.args.count - 1)) c.days.result only).0
          (c.checked_add.ensures.succeeds.0 (sym c.is_ok.ensures.value ∙ is)));
    }
