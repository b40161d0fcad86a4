-- Of the lines with a positive entry and right side 0 the one with the least basic column leaves.
use Rattle.std.proofs.Common.{◌≡◌, ℕ, zero, suc, ◌<◌, ◌≤◌, Bool, true, false, cond, ◌&&◌, nat_lt, get_or, ℤ, pos, ◌*ℤ◌, ◌<ℤ◌, ◌≤ℤ◌, List, Option, Some, None, option_map, int_cmp, refl, sym, ◌∙◌, ap, subst, inl, inr, arith}
use Rattle.std.proofs.lemmas.Int.{ints}
use Rattle.std.proofs.lemmas.Bool.{cases_lt, ltb-true, ltb-false}
use lib.IntN.{zero-*ℤ}
use Rattle.sums.proofs.Naturals.{none_below_0}
use Rattle.sums.proofs.Integers.{positive_product}
use Rattle.sums.proofs.Tests.{none_some}
use Rattle.frac_row.specs.declared.row.FracRow.{FracRow}
use Rattle.row_store.specs.Table.{number_at, height_of, right_side}
use Rattle.row_store.specs.Choice.{is_positive, is_first, goes_first, better, candidate_at, best_below, leaving}
use Rattle.row_store.specs.declared.choice.Candidate.{Candidate}
use Rattle.row_store.proofs.Choices.{IsBest, best_is}
use Rattle.row_store.proofs.LeastRatio.{goes_before, goes_after, test_other}
use Rattle.row_store.proofs.SignTests.{positive_is}

-- a line with a positive entry and right side 0
record IsTie (table : List FracRow) (column bound line : ℕ) : Type 0 where
  within : line < bound
  positive : pos 0 <ℤ number_at table line column
  none : right_side table line ≡ pos 0

-- the best so far is at 0 where such a line is, and has no greater basic column
record IsFirst (table : List FracRow) (basis : List ℕ) (column bound : ℕ) (best : Candidate) : Type 0 where
  positive : pos 0 <ℤ best.entry
  side : pos 0 ≤ℤ best.right_side
  zero_side : (line : ℕ) → IsTie table column bound line → best.right_side ≡ pos 0
  no_greater : (line : ℕ) → IsTie table column bound line → best.basic ≤ get_or basis line 0

abbrev AreFirst : List FracRow → List ℕ → ℕ → ℕ → Option Candidate → Type 0
AreFirst table basis column bound None = (line : ℕ) → IsTie table column bound line → ⊥
AreFirst table basis column bound (Some best) = IsFirst table basis column bound best

-- ---- two lines
-- at right sides 0 the basic columns decide
at_0 : (one other : Candidate) → one.right_side ≡ pos 0 → other.right_side ≡ pos 0 → goes_first one other ≡ nat_lt one.basic other.basic
unfolding goes_first
at_0 one other e f =
    ap (λ x. is_first (int_cmp x (other.right_side *ℤ one.entry)) one.basic other.basic) (ap (λ r. r *ℤ other.entry) e ∙ zero-*ℤ other.entry)
    ∙ ap (λ x. is_first (int_cmp (pos 0) x) one.basic other.basic) (ap (λ r. r *ℤ one.entry) f ∙ zero-*ℤ one.entry)

-- what is no more than 0, so many times, is 0
no_more_is_0 : (a p b q : ℤ) → pos 0 <ℤ p → pos 0 ≤ℤ a → b ≡ pos 0 → (a *ℤ p) ≤ℤ (b *ℤ q) → a ≡ pos 0
no_more_is_0 (pos zero) p b q above some e le = refl
no_more_is_0 (pos (suc n)) p b q above some e le =
    absurd (omega (arith, ints, positive_product (pos (suc n)) p (omega (arith, ints)) above, le, ap (λ r. r *ℤ q) e ∙ zero-*ℤ q))
no_more_is_0 a p b q above some e le = absurd (omega (arith, ints, some))

-- ---- one line more
first_step : (table : List FracRow) (basis : List ℕ) (column row : ℕ) (o : Option Candidate) → pos 0 ≤ℤ right_side table row → AreFirst table basis column row o
    → AreFirst table basis column (suc row) (better o (candidate_at table basis column row))
unfolding better
first_step table basis column row o side h = from_best o h
  where
    -- such a line is one of those before, or the next one
    before : (line : ℕ) → line < row → IsTie table column (suc row) line → IsTie table column row line
    before line less t = record { within = less; positive = t.positive; none = t.none }

    last : (line : ℕ) → row ≤ line → IsTie table column (suc row) line → row ≡ line
    last line ge t = omega (arith, t.within)

    clash : (z : ℤ) → pos 0 <ℤ z → z ≤ℤ pos 0 → ⊥
    clash z p q = omega (arith, ints)

    -- the next one is no such line where its entry is not positive
    no_tie : is_positive (number_at table row column) ≡ false → (line : ℕ) → row ≤ line → IsTie table column (suc row) line → ⊥
    no_tie t line ge tie = clash _ (subst (λ i. pos 0 <ℤ number_at table i column) (sym (last line ge tie)) tie.positive) (test_other _ t)

    alone : (b : Bool) → is_positive (number_at table row column) ≡ b → ((line : ℕ) → IsTie table column row line → ⊥)
        → AreFirst table basis column (suc row) (cond b (Some (candidate_at table basis column row)) None)
    alone true t none = record {
      positive = positive_is _ t;
      side = side;
      zero_side = λ line tie. elim (cases_lt line row) [
        | inl less ↦ absurd (none line (before line less tie))
        | inr ge ↦ subst (λ i. right_side table i ≡ pos 0) (sym (last line ge tie)) tie.none
      ];
      no_greater = λ line tie. elim (cases_lt line row) [
        | inl less ↦ absurd (none line (before line less tie))
        | inr ge ↦ let same : get_or basis row 0 ≡ get_or basis line 0 = ap (λ i. get_or basis i 0) (last line ge tie) in omega (arith, same)
      ];
    }
    alone false t none = λ line tie. elim (cases_lt line row) [
      | inl less ↦ none line (before line less tie)
      | inr ge ↦ no_tie t line ge tie
    ]

    -- the best so far stays
    stays : (best : Candidate) → IsFirst table basis column row best → ((line : ℕ) → row ≤ line → IsTie table column (suc row) line → (best.right_side ≡ pos 0) × (best.basic ≤ get_or basis row 0)) → IsFirst table basis column (suc row) best
    stays best f at_last = record {
      positive = f.positive;
      side = f.side;
      zero_side = λ line tie. elim (cases_lt line row) [
        | inl less ↦ f.zero_side line (before line less tie)
        | inr ge ↦ (at_last line ge tie).0
      ];
      no_greater = λ line tie. elim (cases_lt line row) [
        | inl less ↦ f.no_greater line (before line less tie)
        | inr ge ↦ subst (λ i. best.basic ≤ get_or basis i 0) (last line ge tie) (at_last line ge tie).1
      ];
    }

    next_zero : (best : Candidate) → IsFirst table basis column row best → goes_first (candidate_at table basis column row) best ≡ true → best.right_side ≡ pos 0 → right_side table row ≡ pos 0
    next_zero best f t e = no_more_is_0 _ best.entry best.right_side (number_at table row column) f.positive side e (goes_before (candidate_at table basis column row) best t)

    by_tests : (best : Candidate) (b c : Bool) → is_positive (number_at table row column) ≡ b → goes_first (candidate_at table basis column row) best ≡ c → IsFirst table basis column row best
        → AreFirst table basis column (suc row) (cond (b && c) (Some (candidate_at table basis column row)) (Some best))
    by_tests best true true t g f = record {
      positive = positive_is _ t;
      side = side;
      zero_side = λ line tie. elim (cases_lt line row) [
        | inl less ↦ next_zero best f g (f.zero_side line (before line less tie))
        | inr ge ↦ subst (λ i. right_side table i ≡ pos 0) (sym (last line ge tie)) tie.none
      ];
      no_greater = λ line tie. elim (cases_lt line row) [
        | inl less ↦
            let zero_best : best.right_side ≡ pos 0 = f.zero_side line (before line less tie) in
            let lesser : get_or basis row 0 < best.basic = ltb-true _ _ (sym (at_0 (candidate_at table basis column row) best (next_zero best f g zero_best) zero_best) ∙ g) in
            omega (arith, lesser, f.no_greater line (before line less tie))
        | inr ge ↦ let same : get_or basis row 0 ≡ get_or basis line 0 = ap (λ i. get_or basis i 0) (last line ge tie) in omega (arith, same)
      ];
    }
    by_tests best true false t g f = stays best f (λ line ge tie.
        let here : right_side table row ≡ pos 0 = subst (λ i. right_side table i ≡ pos 0) (sym (last line ge tie)) tie.none in
        let zero_best : best.right_side ≡ pos 0 = no_more_is_0 best.right_side (number_at table row column) (right_side table row) best.entry (positive_is _ t) f.side here (goes_after (candidate_at table basis column row) best g) in
        (zero_best, ltb-false _ _ (sym (at_0 (candidate_at table basis column row) best here zero_best) ∙ g)))
    by_tests best false c t g f = stays best f (λ line ge tie. absurd (no_tie t line ge tie))

    from_best : (o : Option Candidate) → AreFirst table basis column row o → AreFirst table basis column (suc row) (better o (candidate_at table basis column row))
    from_best None h = alone (is_positive (number_at table row column)) refl h
    from_best (Some best) h = by_tests best (is_positive (number_at table row column)) (goes_first (candidate_at table basis column row) best) refl refl h

best_below_first : (table : List FracRow) (basis : List ℕ) (column bound : ℕ) → ((line : ℕ) → line < bound → pos 0 ≤ℤ right_side table line) → AreFirst table basis column bound (best_below table basis column bound)
best_below_first table basis column zero sides = λ line tie. none_below_0 line tie.within
best_below_first table basis column (suc row) sides =
    first_step table basis column row (best_below table basis column row) (sides row (omega arith)) (best_below_first table basis column row (λ line less. sides line (omega arith)))

pub least_of_ties : (table : List FracRow) (basis : List ℕ) (column row line : ℕ) → leaving table basis column ≡ Some row → ((k : ℕ) → k < height_of table → pos 0 ≤ℤ right_side table k)
    → line < height_of table → pos 0 <ℤ number_at table line column → right_side table line ≡ pos 0 → get_or basis row 0 ≤ get_or basis line 0
unfolding leaving
least_of_ties table basis column row line e sides lt some none = of_best (best_below table basis column (height_of table)) refl e (best_below_first table basis column (height_of table) sides)
  where
    of_best : (o : Option Candidate) → best_below table basis column (height_of table) ≡ o → option_map (λ best. best.row) o ≡ Some row → AreFirst table basis column (height_of table) o → get_or basis row 0 ≤ get_or basis line 0
    of_best None p e h = absurd (none_some e)
    of_best (Some best) p e h =
        let is : IsBest table basis column (height_of table) best = best_is table basis column (height_of table) best p in
        let same : best.row ≡ row = cc in
        let basic : best.basic ≡ get_or basis row 0 = ap (λ c. c.basic) is.is ∙ ap (λ i. get_or basis i 0) same in
        omega (arith, basic, h.no_greater line (record { within = lt; positive = some; none = none }))
