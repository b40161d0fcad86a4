-- The fields of a plan's records are text in which nothing calls for quotes.
use Rattle.std.proofs.Common.{◌≡◌, ℕ, zero, suc, ◌<◌, ◌≤◌, ◌^◌, true, false, ◌∷◌, codes, length, slice_index_or, ℤ, pos, negsuc, refl, sym, ◌∙◌, ap, inl, inr, arith}
use Rattle.std.specs.Char.{IsAsciiDigit}
use Rattle.std.specs.Fmt.{decimal, signed_decimal}
use Rattle.std.specs.List.{list_any}
use Rattle.std.specs.Str.{is_utf8}
use Rattle.std.proofs.lemmas.Bool.{cases_lt}
use Rattle.std.proofs.lemmas.Bool.Decides.{nat_tests}
use Rattle.std.proofs.lemmas.Fmt.{IsAscii-signed, decimal_is_IsNumeral}
use Rattle.std.proofs.lemmas.Int.{ints}
use Rattle.std.proofs.lemmas.List.{get_or_default}
use Rattle.std.proofs.lemmas.List.Folds.{list_any_none}
use Rattle.std.proofs.lemmas.Str.{IsUtf8-from_ascii, is_utf8-from_IsUtf8}
use Rattle.std.proofs.lemmas.Str.Ascii.{IsAscii-from_all}
use Rattle.std.proofs.lemmas.Str.Parse.{digit_at}
use Rattle.csv.specs.Writing.{default_writer, needs_byte}
use Rattle.fleet_model.specs.Schedule.{fleet_by, fleet_of, fleets_in, leg_of, leg_on, legs_in, no_fleet, no_leg, own_shift, shift_by, shifts_in, slot_by}
use Rattle.fleet_model.specs.Windows.{own_slot}
use Rattle.fleet_model.specs.declared.parts.Pair.{Pair}
use Rattle.fleet_model.specs.declared.shifts.Shift.{Shift}
use Rattle.fleet_model.specs.declared.tables.Tables.{Tables}
use Rattle.fleet_model.proofs.Departures.{slot_within}
use Rattle.plan_text.specs.Text.{fleet_text, pair_record, record_of, shift_minutes, shift_text}
use Rattle.plan_text.proofs.ChoiceTexts.{IsSmall, flown_minutes, flown_name, out_minutes, out_name, small_minutes, zero_text}
use Rattle.plan_text.proofs.NameText.{name_is_plain, name_is_text}

-- ---- the fleet
dash_is_low : (k d : ℕ) → k < 1 → slice_index_or (codes "-") k d < 128
dash_is_low zero d within = omega arith
dash_is_low (suc k) d within = absurd (omega arith)

dash_is_text : is_utf8 (codes "-") ≡ true
dash_is_text = is_utf8-from_IsUtf8 (codes "-") (IsUtf8-from_ascii (codes "-") (IsAscii-from_all (codes "-") dash_is_low))

pub fleet_is_text : (t : Tables) (p : Pair) → is_utf8 (fleet_text t p) ≡ true
fleet_is_text t p = elim (cases_lt (fleet_by t p) (fleets_in t)) [
  | inl flown ↦ rw (flown_name t p flown) (name_is_text (fleet_of t (fleet_by t p)).name (t.in_range.fleets_fit.each (fleet_by t p) no_fleet flown).name)
  | inr out ↦ rw (out_name t p out) dash_is_text
]

pub fleet_is_plain : (t : Tables) (p : Pair) → list_any (needs_byte default_writer) (fleet_text t p) ≡ false
fleet_is_plain t p = elim (cases_lt (fleet_by t p) (fleets_in t)) [
  | inl flown ↦ rw (flown_name t p flown) (name_is_plain (fleet_of t (fleet_by t p)).name (t.in_range.fleets_fit.each (fleet_by t p) no_fleet flown).name)
  | inr out ↦ rw (out_name t p out) refl
]

-- ---- the shift
number_is_text : (z : ℤ) → IsSmall z → is_utf8 (signed_decimal z) ≡ true
number_is_text (pos n) small = is_utf8-from_IsUtf8 (decimal n) (IsUtf8-from_ascii (decimal n) (IsAscii-signed (pos n) (omega (arith, ints, small.most))))
number_is_text (negsuc n) small = is_utf8-from_IsUtf8 (45 ∷ decimal (suc n)) (IsUtf8-from_ascii (45 ∷ decimal (suc n)) (IsAscii-signed (negsuc n) (omega (arith, ints, small.least))))

pub shift_is_text : (t : Tables) (l c : ℕ) → l < legs_in t → is_utf8 (shift_text t (leg_on l c)) ≡ true
shift_is_text t l c leg = number_is_text (shift_minutes t (leg_on l c)) (small_minutes t l c leg)

digit_there : (n : ℕ) → n < 2 ^ 64 → (k d : ℕ) → k < length (decimal n) → IsAsciiDigit (slice_index_or (decimal n) k d)
digit_there n small k d within = let numeral = (decimal_is_IsNumeral n small).0 in rw (get_or_default (decimal n) k d 0 within) (digit_at (decimal n) k numeral.1 within)

plain_digit : (byte : ℕ) → IsAsciiDigit byte → needs_byte default_writer byte ≡ false
plain_digit byte is = grind (arith, nat_tests)

decimal_is_plain : (n : ℕ) → n < 2 ^ 64 → list_any (needs_byte default_writer) (decimal n) ≡ false
decimal_is_plain n small = list_any_none (needs_byte default_writer) (decimal n) (λ k d within. plain_digit (slice_index_or (decimal n) k d) (digit_there n small k d within))

number_is_plain : (z : ℤ) → IsSmall z → list_any (needs_byte default_writer) (signed_decimal z) ≡ false
number_is_plain (pos n) small = decimal_is_plain n (omega (arith, ints, small.most))
number_is_plain (negsuc n) small = decimal_is_plain (suc n) (omega (arith, ints, small.least))

pub shift_is_plain : (t : Tables) (l c : ℕ) → l < legs_in t → list_any (needs_byte default_writer) (shift_text t (leg_on l c)) ≡ false
shift_is_plain t l c leg = number_is_plain (shift_minutes t (leg_on l c)) (small_minutes t l c leg)

-- where each leg has its own time alone, the shift is 0
own_minutes : (t : Tables) (l c : ℕ) → l < legs_in t → t.windows ≡ false → (shift_by t (leg_on l c)).minutes ≡ pos 0
own_minutes t l c leg plain =
    let shifts = (t.in_range.legs_fit.each l no_leg leg).shifts in
    let once : shifts_in t l ≡ 1 = (t.in_range.moved_where_asked plain).each l leg in
    let slot : slot_by t (leg_on l c) ≡ own_slot (leg_of t l).shifts = omega (arith, once, slot_within t (leg_on l c), shifts.own_there) in
    ap (λ k. (slice_index_or (leg_of t l).shifts k (own_shift 0)).minutes) slot ∙ ap (λ (shift : Shift). shift.minutes) shifts.own

pub own_text : (t : Tables) (l c : ℕ) → l < legs_in t → t.windows ≡ false → shift_text t (leg_on l c) ≡ codes "0"
own_text t l c leg plain = elim (cases_lt (fleet_by t (leg_on l c)) (fleets_in t)) [
  | inl flown ↦ ap signed_decimal (flown_minutes t (leg_on l c) flown ∙ own_minutes t l c leg plain) ∙ zero_text
  | inr out ↦ ap signed_decimal (out_minutes t (leg_on l c) out) ∙ zero_text
]

-- the record of a leg that is left out
pub out_record : (t : Tables) (p : Pair) → fleets_in t ≤ fleet_by t p → record_of t.windows (leg_of t p.leg).flight (codes "-") (codes "0") ≡ pair_record t p.leg p.choice
out_record t p out =
    ap (λ text. record_of t.windows (leg_of t p.leg).flight text (codes "0")) (sym (out_name t p out))
    ∙ ap (record_of t.windows (leg_of t p.leg).flight (fleet_text t p)) (sym zero_text ∙ ap signed_decimal (sym (out_minutes t p out)))
