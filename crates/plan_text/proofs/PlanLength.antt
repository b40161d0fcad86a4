-- The text of a plan is short: at most 19 bytes, and at most 23 for each leg.
use Rattle.std.proofs.Common.{ℕ, zero, suc, ◌+◌, ◌*◌, ◌<◌, ◌≤◌, Bool, true, false, List, [], ◌∷◌, ◌++◌, codes, length, length-append, map, ℤ, pos, negsuc, inl, inr, arith}
use Rattle.std.specs.Fmt.{signed_decimal}
use Rattle.std.specs.List.{flat_map, range_with_len}
use Rattle.std.proofs.lemmas.Bool.{cases_lt}
use Rattle.std.proofs.lemmas.Fmt.{length_signed_le}
use Rattle.std.proofs.lemmas.Int.{ints}
use Rattle.fleet_model.specs.Counts.{choice_at, pair_at}
use Rattle.fleet_model.specs.Schedule.{fleet_by, fleets_in, leg_of, legs_in, no_fleet, no_leg}
use Rattle.fleet_model.specs.declared.parts.Pair.{Pair}
use Rattle.fleet_model.specs.declared.tables.Tables.{Tables}
use Rattle.plan_text.specs.Text.{fleet_text, leg_record, leg_records, plan_header, plan_text, record_line, record_lines, record_of, shift_minutes, shift_text}
use Rattle.plan_text.proofs.ChoiceTexts.{IsSmall, flown_name, out_name, small_minutes}

fleet_length : (t : Tables) (p : Pair) → length (fleet_text t p) ≤ 8
fleet_length t p = elim (cases_lt (fleet_by t p) (fleets_in t)) [
  | inl flown ↦ rw (flown_name t p flown) (t.in_range.fleets_fit.each (fleet_by t p) no_fleet flown).name.1
  | inr out ↦ rw (out_name t p out) (omega arith)
]

number_length : (z : ℤ) → IsSmall z → length (signed_decimal z) ≤ 4
number_length (pos n) small = length_signed_le 3 (pos n) (omega (arith, ints, small.most)) (omega (arith, ints, small.most))
number_length (negsuc n) small = length_signed_le 3 (negsuc n) (omega (arith, ints, small.least)) (omega (arith, ints, small.least))

-- three fields, two commas and a line feed
line_length : (windows : Bool) (flight fleet shift : List ℕ) → length flight ≤ 8 → length fleet ≤ 8 → length shift ≤ 4 → length (record_line (record_of windows flight fleet shift)) ≤ 23
line_length true flight fleet shift first second third =
    omega (arith, length-append (flight ++ 44 ∷ (fleet ++ 44 ∷ shift)) (10 ∷ []), length-append flight (44 ∷ (fleet ++ 44 ∷ shift)), length-append fleet (44 ∷ shift))
line_length false flight fleet shift first second third = omega (arith, length-append (flight ++ 44 ∷ fleet) (10 ∷ []), length-append flight (44 ∷ fleet))

leg_length : (t : Tables) (a : List ℕ) (l : ℕ) → l < legs_in t → length (record_line (leg_record t a l)) ≤ 23
leg_length t a l leg =
    line_length t.windows (leg_of t l).flight (fleet_text t (pair_at a l)) (shift_text t (pair_at a l)) (t.in_range.legs_fit.each l no_leg leg).flight.1
    (fleet_length t (pair_at a l)) (number_length (shift_minutes t (pair_at a l)) (small_minutes t l (choice_at a l) leg))

legs_length : (t : Tables) (a : List ℕ) (first n : ℕ) → first + n ≤ legs_in t → length (flat_map record_line (map (leg_record t a) (range_with_len first n))) ≤ 23 * n
legs_length t a first zero within = omega arith
legs_length t a first (suc n) within =
    omega (
      arith,
      length-append (record_line (leg_record t a first)) (flat_map record_line (map (leg_record t a) (range_with_len (first + 1) n))),
      legs_length t a (first + 1) n (omega arith),
      leg_length t a first (omega arith),
    )

header_length : (windows : Bool) → length (record_line (record_of windows (codes "flight") (codes "fleet") (codes "shift"))) ≤ 19
header_length true = omega arith
header_length false = omega arith

pub plan_length : (t : Tables) (a : List ℕ) → length (plan_text t a) ≤ 19 + 23 * legs_in t
unfolding plan_text
plan_length t a =
    omega (arith, length-append (record_line (plan_header t)) (record_lines (leg_records t a (legs_in t))), header_length t.windows, legs_length t a 0 (legs_in t) (omega arith))
