-- By what a pair is told: its fleet, where one flies it, and the minutes by which that moves its leg.
use Rattle.std.proofs.Common.{◌≡◌, ℕ, ◌+◌, ◌*◌, ◌<◌, ◌≤◌, Bool, true, false, if◌then◌else◌, pos, slice_index_or, refl, ◌∙◌, ap, arith}
use Rattle.fleet_model.specs.declared.parts.Pair.{Pair}
use Rattle.fleet_model.specs.declared.shifts.Shift.{Shift}
use Rattle.fleet_model.specs.declared.tables.Tables.{Tables}
use Rattle.fleet_model.specs.Schedule.{IsPair, choices_in, fleet_by, fleets_in, left_out, leg_of, leg_on, legs_in, no_leg, own_shift, shift_by, shifts_in, slot_by}
use Rattle.fleet_model.specs.Windows.{own_slot}
use Rattle.fleet_model.proofs.Departures.{block_fleet, slot_within, some_times}
use Rattle.fleet_model.proofs.LeftOut.{flown_before}
use Rattle.fleet_model.proofs.OwnPairs.{has_own}

-- a pair that no fleet flies is one only where legs may be left out
pub out_asked : (t : Tables) (l c : ℕ) → c < choices_in t l → fleets_in t ≤ fleet_by t (leg_on l c) → t.optional ≡ true
unfolding choices_in
out_asked t l c within past = by_asked t.optional within
  where
    by_asked : (o : Bool) → c < left_out t l + (if o then 1 else 0) → o ≡ true
    by_asked true within = refl
    by_asked false within = absurd (omega (arith, flown_before t l c (omega (arith, within)), past))

pub out_pair : (t : Tables) (l : ℕ) → l < legs_in t → t.optional ≡ true → IsPair t (leg_on l (left_out t l))
unfolding choices_in
out_pair t l below asked = record { leg = below; choice = by_asked t.optional asked }
  where
    by_asked : (o : Bool) → o ≡ true → left_out t l < left_out t l + (if o then 1 else 0)
    by_asked true e = omega arith
    by_asked false e = absurd (cc e)

pub out_by : (t : Tables) (l : ℕ) → fleet_by t (leg_on l (left_out t l)) ≡ fleets_in t
out_by t l =
    let first : left_out t l ≡ fleets_in t * shifts_in t l + 0 = omega arith in
    ap (λ c. fleet_by t (leg_on l c)) first ∙ block_fleet t l (fleets_in t) 0 (some_times t l)

-- where no leg has another time than its own, a pair is flown at that
pub unmoved : (t : Tables) (p : Pair) → t.windows ≡ false → p.leg < legs_in t → (shift_by t p).minutes ≡ pos 0
unmoved t p off below =
    let one : shifts_in t p.leg ≡ 1 = (t.in_range.moved_where_asked off).each p.leg below in
    let slot : slot_by t p ≡ own_slot (leg_of t p.leg).shifts = omega (arith, slot_within t p, has_own t p.leg, one) in
    ap (λ k. (slice_index_or (leg_of t p.leg).shifts k (own_shift 0)).minutes) slot
    ∙ ap (λ (shift : Shift). shift.minutes) (t.in_range.legs_fit.each p.leg no_leg below).shifts.own
