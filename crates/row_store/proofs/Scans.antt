-- The search for the entering column along two lists of numbers.
use Rattle.std.proofs.Common.{◌≡◌, ℕ, ◌+◌, ◌<◌, ◌≤◌, ◌≢◌, Bool, true, false, cond, ◌&&◌, ◌||◌, ◌==◌, if◌then◌else◌, ltb, ℤ, pos, List, [], ◌∷◌, Some, None, unsigned_abs, refl, sym, ◌∙◌, ap, subst, arith, inl, inr, ◌⊎◌}
use Rattle.std.proofs.lemmas.Bool.{and_left, cases_eq, cases_lt, ltb-false, ltb-true}
use Rattle.sums.specs.Places.{first_below}
use Rattle.sums.proofs.Places.{first_found, all_nothing}
use Rattle.sums.proofs.Tests.{by_choice, unlike}
use Rattle.sums.proofs.NumberTests.{if_apart, if_same}
use Rattle.frac_row.specs.declared.entry.Entry.{Entry}
use Rattle.frac_row.specs.Content.{number_in, AreEntries}
use Rattle.frac_row.proofs.Contents.{nothing_before}
use Rattle.row_store.specs.Choice.{improves, is_negative}
use Rattle.row_store.specs.Scan.{first_where}

-- what the search tells: none passes before its answer, and one stands there where that is below the bound
pub record IsFirst (test : Entry → Bool) (bound : ℕ) (entries : List Entry) (from answer : ℕ) : Type 0 where
  pub bounded : answer ≤ bound
  pub none : (column : ℕ) → from ≤ column → column < answer → (number_in entries column ≡ pos 0) ⊎ (test (record { column = column; number = number_in entries column }) ≡ false)
  pub found : answer < bound → (from ≤ answer) × (test (record { column = answer; number = number_in entries answer }) ≡ true)

by_bound : {X : Type 0} (P : X → Type 0) (m n : ℕ) (x y : X) → (m < n → P x) → (n ≤ m → P y) → P (cond (ltb m n) x y)
by_bound P m n x y p q = by_choice P (ltb m n) x y (λ t. p (ltb-true m n t)) (λ t. q (ltb-false m n t))

nothing_at_bound : (test : Entry → Bool) (bound from : ℕ) (entries : List Entry) → ((column : ℕ) → from ≤ column → column < bound → number_in entries column ≡ pos 0) → IsFirst test bound entries from bound
nothing_at_bound test bound from entries h = record {
  bounded = omega arith;
  none = λ column ge lt. inl (h column ge lt);
  found = λ lt. absurd (below_itself bound lt);
}
  where
    below_itself : (n : ℕ) → n < n → ⊥
    below_itself n lt = omega arith

first_here : (test : Entry → Bool) (bound from width : ℕ) (x : Entry) (xs : List Entry) → AreEntries from width (x ∷ xs) → x.column < bound → test x ≡ true → IsFirst test bound (x ∷ xs) from x.column
first_here test bound from width x xs h lt t = record {
  bounded = omega arith;
  none = λ column ge below. inl (nothing_before x.column width (x ∷ xs) column (omega arith, h.1, h.2, h.3) below);
  found = λ _. (h.0, ap test (ap (λ n. record { column = x.column; number = n }) (if_same x.column x.column x.number (number_in xs x.column) refl)) ∙ t);
}

first_later : (test : Entry → Bool) (bound from width : ℕ) (x : Entry) (xs : List Entry) (answer : ℕ) → AreEntries from width (x ∷ xs) → test x ≡ false → IsFirst test bound xs (x.column + 1) answer → IsFirst test bound (x ∷ xs) from answer
first_later test bound from width x xs answer h t later = record {
  bounded = later.bounded;
  none = λ column ge lt. at_column column lt (cases_eq x.column column) (cases_lt column x.column);
  found = λ lt. behind (later.found lt);
}
  where
    at_column : (column : ℕ) → column < answer → (x.column ≡ column) ⊎ (x.column ≢ column) → (column < x.column) ⊎ (x.column ≤ column) → (number_in (x ∷ xs) column ≡ pos 0) ⊎ (test (record { column = column; number = number_in (x ∷ xs) column }) ≡ false)
    at_column column lt (inl e) o =
        inr (subst (λ c. test (record { column = c; number = number_in (x ∷ xs) c }) ≡ false) e (ap test (ap (λ n. record { column = x.column; number = n }) (if_same x.column x.column x.number (number_in xs x.column) refl)) ∙ t))
    at_column column lt (inr ne) (inl before) = inl (nothing_before x.column width (x ∷ xs) column (omega arith, h.1, h.2, h.3) before)
    at_column column lt (inr ne) (inr ge) =
        let e : number_in (x ∷ xs) column ≡ number_in xs column = if_apart x.column column x.number (number_in xs column) ne in
        elim (later.none column (omega arith) lt) [
          | inl z ↦ inl (e ∙ z)
          | inr f ↦ inr (subst (λ n. test (record { column = column; number = n }) ≡ false) (sym e) f)
        ]

    behind : (x.column + 1 ≤ answer) × (test (record { column = answer; number = number_in xs answer }) ≡ true) → (from ≤ answer) × (test (record { column = answer; number = number_in (x ∷ xs) answer }) ≡ true)
    behind (ge, f) = (omega (arith, h.0), subst (λ n. test (record { column = answer; number = n }) ≡ true) (sym (if_apart x.column answer x.number (number_in xs answer) (apart ge))) f)
      where
        apart : x.column + 1 ≤ answer → x.column ≢ answer
        apart le = omega arith

pub first_where_is : (test : Entry → Bool) (bound from width : ℕ) (entries : List Entry) → AreEntries from width entries → IsFirst test bound entries from (first_where test bound entries)
first_where_is test bound from width [] h = nothing_at_bound test bound from [] (λ column ge lt. refl)
first_where_is test bound from width (x ∷ xs) h =
    by_bound (IsFirst test bound (x ∷ xs) from) x.column bound _ _
    (λ lt. by_choice (IsFirst test bound (x ∷ xs) from) (test x) x.column (first_where test bound xs)
    (λ t. first_here test bound from width x xs h lt t)
    (λ t. first_later test bound from width x xs (first_where test bound xs) h t (first_where_is test bound (x.column + 1) width xs h.3)))
    (λ ge. nothing_at_bound test bound from (x ∷ xs) (λ column from_le lt. nothing_before x.column width (x ∷ xs) column (omega arith, h.1, h.2, h.3) (omega arith)))

-- ---- the first improving column
negative_zero : (z : ℤ) → z ≡ pos 0 → is_negative z ≡ false
negative_zero z e = rw e refl

no_improvement : (p q : ℤ) → is_negative p ≡ false → (is_negative q && (unsigned_abs p == 0)) ≡ false → improves p q ≡ false
unfolding improves
no_improvement p q s t = neither (is_negative p) (is_negative q) (unsigned_abs p == 0) s t
  where
    neither : (a b c : Bool) → a ≡ false → (b && c) ≡ false → (a || (c && b)) ≡ false
    neither false false false s t = refl
    neither false false true s t = refl
    neither false true false s t = refl
    neither false true true s t = cc
    neither true b c s t = cc

phase_improves : (p q : ℤ) → is_negative p ≡ true → improves p q ≡ true
unfolding improves
phase_improves p q t = first (is_negative p) _ t
  where
    first : (a b : Bool) → a ≡ true → (a || b) ≡ true
    first true b t = refl
    first false b t = cc

cost_improves : (p q : ℤ) → (is_negative q && (unsigned_abs p == 0)) ≡ true → improves p q ≡ true
unfolding improves
cost_improves p q t = second (is_negative p) (is_negative q) (unsigned_abs p == 0) t
  where
    second : (a b c : Bool) → (b && c) ≡ true → (a || (c && b)) ≡ true
    second true b c t = refl
    second false true true t = refl
    second false true false t = cc
    second false false c t = cc

passes : (b : Bool) (column : ℕ) → b ≡ true → cond b (Some column) None ≡ Some column
passes true column t = refl
passes false column t = unlike (sym t)

fails : (b : Bool) (column : ℕ) → b ≡ false → cond b (Some column) None ≡ None
fails false column t = refl
fails true column t = unlike t

-- the numbers of the phase row and the cost row, the first negative one of the phase row and the first cheaper
-- column before it
pub record IsScanned (phase cost : ℕ → ℤ) (columns bound answer : ℕ) : Type 0 where
  pub bound_fits : bound ≤ columns
  pub answer_fits : answer ≤ bound
  pub no_phase : (column : ℕ) → column < bound → is_negative (phase column) ≡ false
  pub phase_found : bound < columns → is_negative (phase bound) ≡ true
  pub no_cost : (column : ℕ) → column < answer → (is_negative (cost column) && (unsigned_abs (phase column) == 0)) ≡ false
  pub cost_found : answer < bound → (is_negative (cost answer) && (unsigned_abs (phase answer) == 0)) ≡ true

pub scanned_from : (phase cost : ℕ → ℤ) (width columns bound answer : ℕ) (phases costs : List Entry) → AreEntries 0 width phases → AreEntries 0 width costs → ((column : ℕ) → number_in phases column ≡ phase column) → ((column : ℕ) → number_in costs column ≡ cost column) → bound ≡ first_where (λ entry. is_negative entry.number) columns phases → answer ≡ first_where (λ entry. is_negative entry.number && (unsigned_abs (phase entry.column) == 0)) bound costs → IsScanned phase cost columns bound answer
scanned_from phase cost width columns bound answer phases costs h k p q eb ea =
    let one : IsFirst (λ entry. is_negative entry.number) columns phases 0 bound = subst (IsFirst (λ entry. is_negative entry.number) columns phases 0) (sym eb) (first_where_is (λ entry. is_negative entry.number) columns 0 width phases h) in
    let two : IsFirst (λ entry. is_negative entry.number && (unsigned_abs (phase entry.column) == 0)) bound costs 0 answer = subst (IsFirst (λ entry. is_negative entry.number && (unsigned_abs (phase entry.column) == 0)) bound costs 0) (sym ea) (first_where_is (λ entry. is_negative entry.number && (unsigned_abs (phase entry.column) == 0)) bound 0 width costs k) in
    record {
      bound_fits = one.bounded;
      answer_fits = two.bounded;
      no_phase = λ column lt. elim (one.none column (omega arith) lt) [ inl z ↦ negative_zero (phase column) (sym (p column) ∙ z) | inr t ↦ ap is_negative (sym (p column)) ∙ t ];
      phase_found = λ lt. ap is_negative (sym (p bound)) ∙ (one.found lt).1;
      no_cost = λ column lt. elim (two.none column (omega arith) lt) [ inl z ↦ and_left (is_negative (cost column)) _ (negative_zero (cost column) (sym (q column) ∙ z)) | inr t ↦ ap (λ n. is_negative n && (unsigned_abs (phase column) == 0)) (sym (q column)) ∙ t ];
      cost_found = λ lt. ap (λ n. is_negative n && (unsigned_abs (phase answer) == 0)) (sym (q answer)) ∙ (two.found lt).1;
    }

none_before : (phase cost : ℕ → ℤ) (columns bound answer : ℕ) → IsScanned phase cost columns bound answer → first_below (λ column. if improves (phase column) (cost column) then Some column else None) answer ≡ None
none_before phase cost columns bound answer h =
    all_nothing (λ column. if improves (phase column) (cost column) then Some column else None) answer (λ column lt. fails (improves (phase column) (cost column)) column (no_improvement (phase column) (cost column) (h.no_phase column (omega (arith, h.answer_fits))) (h.no_cost column lt)))

pub scan_found : (phase cost : ℕ → ℤ) (columns bound answer : ℕ) → IsScanned phase cost columns bound answer → answer < columns → Some answer ≡ first_below (λ column. if improves (phase column) (cost column) then Some column else None) columns
scan_found phase cost columns bound answer h lt =
    sym (first_found (λ column. if improves (phase column) (cost column) then Some column else None) answer columns answer (none_before phase cost columns bound answer h) (passes (improves (phase answer) (cost answer)) answer here) lt)
  where
    here : improves (phase answer) (cost answer) ≡ true
    here =
        elim (cases_lt answer bound) [
          | inl less ↦ cost_improves (phase answer) (cost answer) (h.cost_found less)
          | inr ge ↦ let same : bound ≡ answer = omega (arith, h.answer_fits) in phase_improves (phase answer) (cost answer) (subst (λ k. is_negative (phase k) ≡ true) same (h.phase_found (omega arith)))
        ]

pub scan_none : (phase cost : ℕ → ℤ) (columns bound answer : ℕ) → IsScanned phase cost columns bound answer → columns ≤ answer → None ≡ first_below (λ column. if improves (phase column) (cost column) then Some column else None) columns
scan_none phase cost columns bound answer h le =
    let same : answer ≡ columns = omega (arith, h.answer_fits, h.bound_fits) in
    sym (subst (λ k. first_below (λ column. if improves (phase column) (cost column) then Some column else None) k ≡ None) same (none_before phase cost columns bound answer h))
