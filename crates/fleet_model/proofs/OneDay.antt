-- Periods of one day, and legs that depart at the minute of their entry. What the word for that minute stands for is looked at
-- here.
use Rattle.std.proofs.Common.{◌≡◌, ℕ, ◌*◌, ◌%◌, length, slice_index_or, sym, ◌∙◌, ap, inl, inr, arith}
use Rattle.std.proofs.lemmas.Bool.{cases_lt}
use Rattle.std.proofs.lemmas.List.{get_or_past}
use Rattle.fleet_model.specs.declared.limits.TheConstants.{MINUTES_PER_DAY}
use Rattle.fleet_model.specs.declared.parts.Leg.{Leg}
use Rattle.fleet_model.specs.declared.shifts.Shift.{Shift}
use Rattle.fleet_model.specs.declared.tables.Tables.{Tables}
use Rattle.fleet_model.specs.Plain.{IsPlain}
use Rattle.fleet_model.specs.Schedule.{days_in, leg_of, leg_on, legs_in, no_leg, own_shift, period_of, slot_by}
use Rattle.fleet_model.specs.Times.{departure}
use Rattle.fleet_model.specs.Windows.{own_slot}
use Rattle.fleet_model.proofs.Departures.{slot_within}
use Rattle.fleet_model.proofs.OwnPairs.{has_own}
use Rattle.fleet_model.proofs.PeriodMinutes.{days_are_period, only_one}
use Rattle.fleet_model.proofs.PlainTables.{one_time}

pub period_is_day : (t : Tables) → days_in t ≡ 1 → period_of t ≡ MINUTES_PER_DAY
period_is_day t one = days_are_period t ∙ ap (λ days. days * MINUTES_PER_DAY) one

pub plain_departure : (t : Tables) (l f : ℕ) → IsPlain t → departure t (leg_on l f) ≡ (leg_of t l).dep
unfolding departure slot_by
plain_departure t l f plain = elim (cases_lt l (legs_in t)) [
  | inl below ↦
      let first : slot_by t (leg_on l f) ≡ 0 = omega (arith, slot_within t (leg_on l f), one_time t plain l) in
      let own : own_slot (leg_of t l).shifts ≡ 0 = omega (arith, has_own t l, one_time t plain l) in
      ap (λ k. (slice_index_or (leg_of t l).shifts k (own_shift 0)).dep) (first ∙ sym own) ∙ ap (λ (shift : Shift). shift.dep) (t.in_range.legs_fit.each l no_leg below).shifts.own
  | inr past ↦
      let gone = get_or_past t.legs l no_leg past in
      ap (λ (leg : Leg). (slice_index_or leg.shifts (f % length leg.shifts) (own_shift 0)).dep) gone ∙ ap (λ (shift : Shift). shift.dep) (only_one (own_shift 0) (f % 1)) ∙ sym (ap (λ (leg : Leg). leg.dep) gone)
]
