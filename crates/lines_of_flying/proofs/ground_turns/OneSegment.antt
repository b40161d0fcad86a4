-- When minutes lie in one segment.
use Rattle.std.proofs.Common.{◌≡◌, ◌↔◌, ℕ, zero, suc, ◌+◌, ◌-◌, ◌^◌, ◌<◌, ◌≤◌, Bool, true, false, not, ◌==◌, nat_lt, nat_eq, IsTrue, List, length, get_or, slice_index, sym, ◌∙◌, ap, subst, inl, inr, arith}
use Rattle.std.proofs.lemmas.Bool.{cases_lt, eqb-true, eq-eqb}
use Rattle.std.proofs.lemmas.Bool.Decides.{nat_tests}
use Rattle.std.proofs.lemmas.List.{get_or_default}
use Rattle.std.proofs.Math.Numerals.{suc-eq-add-one}
use Rattle.sums.specs.Places.{list_below}
use Rattle.sums.proofs.Places.{get_or-list_below, length-list_below}
use Rattle.sums.proofs.Tests.{no_both}
use Rattle.lines_of_flying.specs.ground_turns.Segments.{AreNumbers, EndAt, NoneBetween, NoneEnds, ends_at, is_marked, is_minute_among, marked_before, span_of}
use Rattle.lines_of_flying.specs.ground_turns.Turns.{minutes_round}
use Rattle.lines_of_flying.proofs.ground_turns.Rounds.{bit, until_later, until_next}

-- numbers that don't fall
rising : (g : ℕ → ℕ) (top from to : ℕ) → ((m : ℕ) → m < top → g m ≤ g (suc m)) → from ≤ to → to ≤ top → g from ≤ g to
rising g top from zero h order within = let same : from ≡ 0 = omega arith in rw same (omega arith)
rising g top from (suc to) h order within = elim (cases_lt to from) [
  | inl less ↦ let same : from ≡ suc to = omega arith in rw same (omega arith)
  | inr more ↦ omega (arith, rising g top from to h more (omega arith), h to (omega arith))
]

level : (g : ℕ → ℕ) (from to : ℕ) → ((m : ℕ) → from ≤ m → m < to → g m ≡ g (suc m)) → from ≤ to → g from ≡ g to
level g from zero h order = let same : from ≡ 0 = omega arith in ap g same
level g from (suc to) h order = elim (cases_lt to from) [
  | inl less ↦ let same : from ≡ suc to = omega arith in ap g same
  | inr more ↦ level g from to (λ m after before. h m after (omega arith)) more ∙ h to more (omega arith)
]

no_end : (m n : ℕ) → m ≡ n → not (m == n) ≡ false
no_end m n e = grind (arith, nat_tests)

same_number : (m n : ℕ) → not (m == n) ≡ false → m ≡ n
same_number m n e = grind (arith, nat_tests)

-- two minutes have one number exactly where no segment ends between
pub none_between : (numbers : List ℕ) (from to : ℕ) → AreNumbers numbers → from ≤ to → to ≤ span_of numbers
    → IsTrue (nat_eq (slice_index numbers from) (slice_index numbers to)) ↔ NoneBetween numbers from to
none_between numbers from to h order within = (
  λ same. record {
    each = λ m after before.
        let first = rising (slice_index numbers) (span_of numbers) from m h.rise after (omega arith) in
        let last = rising (slice_index numbers) (span_of numbers) (suc m) to h.rise before within in
        let one = h.rise m (omega arith) in
        let both = eqb-true (slice_index numbers from) (slice_index numbers to) same in
        no_end (slice_index numbers m) (slice_index numbers (suc m)) (omega arith);
  },
  λ none. eq-eqb (slice_index numbers from) (slice_index numbers to)
      (level (slice_index numbers) from to (λ m after before. same_number (slice_index numbers m) (slice_index numbers (suc m)) (none.each m after before)) order),
)

-- a minute lies in the wait: between the ends, or past the first or before the second
in_wait : (w r d m : ℕ) → r ≤ d → d < w → r ≤ m → m < d → nat_lt (minutes_round w r m) (minutes_round w r d) ≡ true
in_wait w r d m order within after before = rw (until_later w r d order within, until_later w r m after (omega arith)) (grind (arith, nat_tests))

in_wait_only : (w r d m : ℕ) → r ≤ d → d < w → r < w → m < w → nat_lt (minutes_round w r m) (minutes_round w r d) ≡ true → (r ≤ m) × (m < d)
in_wait_only w r d m order within ready moment waits = elim (cases_lt m r) [
  | inl before ↦ absurd (never (at_next (until_later w r d order within) (until_next w r m before ready) waits))
  | inr after ↦ (after, less (at_next (until_later w r d order within) (until_later w r m after moment) waits))
]
  where
    at_next : {p q m n : ℕ} → q ≡ n → p ≡ m → nat_lt p q ≡ true → nat_lt m n ≡ true
    at_next e f g = cc

    never : nat_lt (m + w - r) (d - r) ≡ true → ⊥
    never h = grind (arith, nat_tests)

    less : nat_lt (m - r) (d - r) ≡ true → m < d
    less h = grind (arith, nat_tests)

round_after : (w r d m : ℕ) → d < r → r < w → r ≤ m → m < w → nat_lt (minutes_round w r m) (minutes_round w r d) ≡ true
round_after w r d m next ready after moment = rw (until_next w r d next ready, until_later w r m after moment) (grind (arith, nat_tests))

round_before : (w r d m : ℕ) → d < r → r < w → m < d → nat_lt (minutes_round w r m) (minutes_round w r d) ≡ true
round_before w r d m next ready before = rw (until_next w r d next ready, until_next w r m (omega arith) ready) (grind (arith, nat_tests))

round_only : (w r d m : ℕ) → d < r → r < w → m < r → nat_lt (minutes_round w r m) (minutes_round w r d) ≡ true → m < d
round_only w r d m next ready before waits = less (at_next (until_next w r d next ready) (until_next w r m before ready) waits)
  where
    at_next : {p q m n : ℕ} → q ≡ n → p ≡ m → nat_lt p q ≡ true → nat_lt m n ≡ true
    at_next e f g = cc

    less : nat_lt (m + w - r) (d + w - r) ≡ true → m < d
    less h = grind (arith, nat_tests)

-- a wait that doesn't cross
pub waits_later : (numbers : List ℕ) (r d : ℕ) → r ≤ d → d < span_of numbers → NoneBetween numbers r d ↔ NoneEnds numbers r d
waits_later numbers r d order within = (
  λ none. record { each = λ m moment waits. let at = in_wait_only (span_of numbers) r d m order within (omega arith) moment waits in none.each m at.0 at.1 },
  λ none. record { each = λ m after before. none.each m (omega arith) (in_wait (span_of numbers) r d m order within after before) },
)

-- one that does
pub waits_round : (numbers : List ℕ) (r d : ℕ) → d < r → r < span_of numbers
    → (NoneBetween numbers r (span_of numbers) → NoneBetween numbers 0 d → NoneEnds numbers r d)
    × (NoneEnds numbers r d → NoneBetween numbers r (span_of numbers) × NoneBetween numbers 0 d)
waits_round numbers r d next ready = (
  λ first second. record {
    each = λ m moment waits. elim (cases_lt m r) [
      | inl before ↦ second.each m (omega arith) (round_only (span_of numbers) r d m next ready before waits)
      | inr after ↦ first.each m after moment
    ];
  },
  λ none. (
    record { each = λ m after moment. none.each m moment (round_after (span_of numbers) r d m next ready after moment) },
    record { each = λ m from before. none.each m (omega arith) (round_before (span_of numbers) r d m next ready before) },
  ),
)

-- what the tests of the two parts of a wait that crosses tell
pub told_round : (numbers : List ℕ) (r d minutes : ℕ) (first second : Bool) → minutes ≡ span_of numbers → d < r → r < span_of numbers
    → IsTrue first ↔ NoneBetween numbers r minutes → first ≡ true → IsTrue second ↔ NoneBetween numbers 0 d → IsTrue second ↔ NoneEnds numbers r d
told_round numbers r d minutes first second whole next ready one passes other = (
  λ e. (waits_round numbers r d next ready).0 (subst (NoneBetween numbers r) whole (one.0 passes)) (other.0 e),
  λ none. other.1 ((waits_round numbers r d next ready).1 none).1,
)

pub told_not : (numbers : List ℕ) (r d minutes : ℕ) (first : Bool) → minutes ≡ span_of numbers → d < r → r < span_of numbers
    → IsTrue first ↔ NoneBetween numbers r minutes → first ≡ false → IsTrue first ↔ NoneEnds numbers r d
told_not numbers r d minutes first whole next ready one fails = (
  λ e. absurd (no_both fails e),
  λ none. one.1 (subst (NoneBetween numbers r) (sym whole) ((waits_round numbers r d next ready).1 none).0),
)

-- two numbers as they are read
pub read_between : (items now : List ℕ) (from to i j x y : ℕ) → AreNumbers items → items ≡ now → i ≡ from → j ≡ to → x ≡ get_or items i x → y ≡ get_or items j y
    → from ≤ to → to ≤ span_of now → IsTrue (nat_eq x y) ↔ NoneBetween now from to
read_between items now from to i j x y h view at_from at_to first second order within =
    let size : length items ≡ length now = ap length view in
    let left : x ≡ slice_index now from =
    first ∙ get_or_default items i x 0 (omega (arith, at_from, order, within, size, h.some)) ∙ ap (slice_index items) at_from ∙ ap (λ xs. slice_index xs from) view in
    let right : y ≡ slice_index now to = second ∙ get_or_default items j y 0 (omega (arith, at_to, within, size, h.some)) ∙ ap (slice_index items) at_to ∙ ap (λ xs. slice_index xs to) view in
    subst (λ n. IsTrue (nat_eq n y) ↔ NoneBetween now from to) (sym left)
    (subst (λ n. IsTrue (nat_eq (slice_index now from) n) ↔ NoneBetween now from to) (sym right) (none_between now from to (subst AreNumbers view h) order within))

-- numbers that count marks
module _ (marks : List Bool) (numbers : List ℕ) (are : numbers ≡ list_below (marked_before marks) (length marks + 1)) where
  pub minutes_are : span_of numbers ≡ length marks
  minutes_are = let size = ap length are ∙ length-list_below (marked_before marks) (length marks + 1) in omega (arith, size)

  number_at : (m : ℕ) → m < length marks + 1 → slice_index numbers m ≡ marked_before marks m
  number_at m lt = ap (λ xs. slice_index xs m) are ∙ get_or-list_below (marked_before marks) (length marks + 1) m 0 lt

  pub are_numbers : 0 < length marks → length marks < 2 ^ 16 → AreNumbers numbers
  are_numbers some few = record {
    some = omega (arith, minutes_are, some);
    few = omega (arith, ap length are ∙ length-list_below (marked_before marks) (length marks + 1), few);
    rise = λ m lt. omega (arith, number_at m (omega (arith, minutes_are, lt)), number_at (suc m) (omega (arith, minutes_are, lt)));
  }

  ends_as_marked : (m : ℕ) → m < span_of numbers → ends_at numbers m ≡ is_marked marks m
  ends_as_marked m lt = ap (λ n. not (n == slice_index numbers (suc m))) (number_at m (omega (arith, minutes_are, lt)))
      ∙ ap (λ n. not (marked_before marks m == n)) (number_at (suc m) (omega (arith, minutes_are, lt))) ∙ by_mark (is_marked marks m) (marked_before marks m)
    where
      by_mark : (b : Bool) (n : ℕ) → not (n == n + bit b) ≡ b
      by_mark true n = grind (arith, nat_tests)
      by_mark false n = grind (arith, nat_tests)

  pub end_at : (list : List ℕ) (minutes : ℕ) → marks ≡ list_below (is_minute_among list) minutes → EndAt list numbers
  end_at list minutes e = record { each = λ m lt. ends_as_marked m lt ∙ ap (λ xs. is_marked xs m) e ∙ get_or-list_below (is_minute_among list) minutes m false (within m lt) }
    where
      within : (m : ℕ) → m < span_of numbers → m < minutes
      within m lt = omega (arith, lt, minutes_are, ap length e ∙ length-list_below (is_minute_among list) minutes)

-- one mark more
pub counted_more : (marks : List Bool) (i old new : ℕ) (b : Bool) → is_marked marks i ≡ b → old ≡ marked_before marks i → new ≡ old + bit b → new ≡ marked_before marks (i + 1)
counted_more marks i old new b here before after =
    after ∙ ap (λ n. n + bit b) before ∙ ap (λ c. marked_before marks i + bit c) (sym here) ∙ ap (marked_before marks) (suc-eq-add-one i)
