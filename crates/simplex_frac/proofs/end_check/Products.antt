-- Sums of products, and those along the numbers of a line.
use Rattle.std.proofs.Common.{◌≡◌, ◌≢◌, ℕ, zero, suc, ◌+◌, ◌<◌, ◌≤◌, ℤ, pos, ◌+ℤ◌, ◌*ℤ◌, List, [], ◌∷◌, length, refl, sym, ◌∙◌, ap, subst, arith, inl, inr}
use Rattle.std.proofs.lemmas.Bool.{cases_eq}
use lib.IntN.{zero-*ℤ}
use Rattle.sums.specs.Below.{sum_below_ℤ}
use Rattle.sums.proofs.NumberTests.{if_apart, if_same}
use Rattle.sums.proofs.Sizes.{nothing_added}
use Rattle.frac_row.specs.Outgrown.{IsWithin}
use Rattle.frac_row.specs.declared.entry.Entry.{Entry}
use Rattle.frac_row.specs.Content.{number_in, AreRising}
use Rattle.frac_row.proofs.Contents.{none_before, rising_from}
use Rattle.simplex_frac.specs.end_check.Ends.{value_in}
use Rattle.simplex_frac.specs.end_check.Sums.{AddsWithin, SumsWithin}

zero_within : (z : ℤ) → z ≡ pos 0 → IsWithin z
zero_within z e = subst IsWithin (sym e) (omega arith)

-- a total is what the first products come to, summed so
pub record IsSumUpTo (f g : ℕ → ℤ) (count : ℕ) (total : ℤ) : Type 0 where
  pub within : SumsWithin f g count
  pub sum : total ≡ sum_below_ℤ (λ k. f k *ℤ g k) count

pub sum_none : (f g : ℕ → ℤ) → IsSumUpTo f g 0 (pos 0)
sum_none f g = record { within = record { each = λ k below. absurd (omega (arith, below)) }; sum = refl }

pub sums_more : (f g : ℕ → ℤ) (n : ℕ) → SumsWithin f g n → AddsWithin (sum_below_ℤ (λ k. f k *ℤ g k) n) (f n) (g n) → SumsWithin f g (suc n)
sums_more f g n before more = record {
  each = λ k below. elim (cases_eq k n) [
    | inl same ↦ subst (λ j. AddsWithin (sum_below_ℤ (λ k. f k *ℤ g k) j) (f j) (g j)) (sym same) more
    | inr apart ↦ before.each k (omega (arith, below, apart))
  ];
}

pub sum_more : (f g : ℕ → ℤ) (n : ℕ) (total one other more : ℤ) → IsSumUpTo f g n total → one ≡ f n → other ≡ g n → AddsWithin total one other → more ≡ total +ℤ (one *ℤ other) → IsSumUpTo f g (suc n) more
sum_more f g n total one other more before e o adds is = record {
  within = sums_more f g n before.within (subst (λ z. AddsWithin z (f n) (g n)) before.sum (subst (AddsWithin total (f n)) o (subst (λ z. AddsWithin total z other) e adds)));
  sum = is ∙ ap (λ z. total +ℤ (z *ℤ other)) e ∙ ap (λ z. total +ℤ (f n *ℤ z)) o ∙ ap (λ z. z +ℤ (f n *ℤ g n)) before.sum;
}

-- zeros add nothing
pub sum_past_zeros : (f g : ℕ → ℤ) (total : ℤ) (from n : ℕ) → IsSumUpTo f g from total → IsWithin total → from ≤ n → ((k : ℕ) → from ≤ k → k < n → f k ≡ pos 0) → IsSumUpTo f g n total
sum_past_zeros f g total from zero before fits le zeros = subst (λ m. IsSumUpTo f g m total) (omega (arith, le)) before
sum_past_zeros f g total from (suc m) before fits le zeros =
    elim (cases_eq from (suc m)) [
      | inl same ↦ subst (λ n. IsSumUpTo f g n total) same before
      | inr apart ↦
          let less : from ≤ m = omega (arith, le, apart) in
          let there = sum_past_zeros f g total from m before fits less (λ k ge below. zeros k ge (omega (arith, below))) in
          let none : f m *ℤ g m ≡ pos 0 = ap (λ z. z *ℤ g m) (zeros m less (omega arith)) ∙ zero-*ℤ (g m) in
          sum_more f g m total (f m) (g m) total there refl refl (record { product = zero_within (f m *ℤ g m) none; total = subst IsWithin (nothing_added total (f m *ℤ g m) none) fits }) (nothing_added total (f m *ℤ g m) none)
    ]

-- ---- along the numbers of a line, of which some that are 0 may be left out
-- the column of the next number, and the bound of all where none is left
abbrev pub next_column : ℕ → List Entry → ℕ
next_column width [] = width
next_column width (entry ∷ rest) = entry.column

pub record IsSumming (line : List ℤ) (share : ℕ → ℤ) (total : ℤ) (left : List Entry) : Type 0 where
  pub rising : AreRising 0 (length line) left
  pub there : (k : ℕ) → next_column (length line) left ≤ k → number_in left k ≡ value_in line k
  pub fits : IsWithin total
  pub sum : IsSumUpTo (value_in line) share (next_column (length line) left) total

in_line : (width : ℕ) (left : List Entry) → AreRising 0 width left → next_column width left ≤ width
in_line width [] rising = omega arith
in_line width (entry ∷ rest) rising = omega (arith, rising.1)

-- nothing stands before the next number
none_yet : (width : ℕ) (left : List Entry) (k from : ℕ) → AreRising from width left → k < next_column width left → number_in left k ≡ pos 0
none_yet width [] k from rising below = refl
none_yet width (entry ∷ rest) k from rising below = none_before entry.column width (entry ∷ rest) k (omega arith, rising.1, rising.2) below

pub summing_begun : (line : List ℤ) (share : ℕ → ℤ) (left : List Entry) → AreRising 0 (length line) left → ((k : ℕ) → number_in left k ≡ value_in line k) → IsSumming line share (pos 0) left
summing_begun line share left rising is = record {
  rising = rising;
  there = λ k ge. is k;
  fits = omega arith;
  sum = sum_past_zeros (value_in line) share (pos 0) 0 (next_column (length line) left) (sum_none (value_in line) share) (omega arith) (omega arith) (λ k ge below. sym (is k) ∙ none_yet (length line) left k 0 rising below);
}

-- the next number is the line's
pub number_there : (line : List ℤ) (share : ℕ → ℤ) (total : ℤ) (entry : Entry) (left all : List Entry) → IsSumming line share total all → all ≡ entry ∷ left → (entry.number ≡ value_in line entry.column) × (entry.column < length line)
number_there line share total entry left all h e =
    let here : AreRising 0 (length line) (entry ∷ left) = subst (AreRising 0 (length line)) e h.rising in (
      sym (ap (λ es. number_in es entry.column) e ∙ if_same entry.column entry.column entry.number (number_in left entry.column) refl) ∙ h.there entry.column (subst (λ es. next_column (length line) es ≤ entry.column) (sym e) (omega arith)),
      here.1,
    )

pub summing_more : (line : List ℤ) (share : ℕ → ℤ) (total other more : ℤ) (entry : Entry) (left all : List Entry) → IsSumming line share total all → all ≡ entry ∷ left → other ≡ share entry.column
    → AddsWithin total entry.number other → more ≡ total +ℤ (entry.number *ℤ other) → IsSumming line share more left
summing_more line share total other more entry left all h e o adds is = record {
  rising = rising_from (entry.column + 1) 0 (length line) left (omega arith) here.2;
  there = there;
  fits = fits;
  sum = sum_past_zeros (value_in line) share more (suc entry.column) (next_column (length line) left) one fits (first_is left here.2) zeros;
}
  where
    here : AreRising 0 (length line) (entry ∷ left)
    here = subst (AreRising 0 (length line)) e h.rising

    fits : IsWithin more
    fits = subst IsWithin (sym is) adds.total

    one : IsSumUpTo (value_in line) share (suc entry.column) more
    one =
        sum_more (value_in line) share entry.column total entry.number other more (subst (λ es. IsSumUpTo (value_in line) share (next_column (length line) es) total) e h.sum)
        (number_there line share total entry left all h e).0 o adds is

    first_is : (rest : List Entry) → AreRising (entry.column + 1) (length line) rest → suc entry.column ≤ next_column (length line) rest
    first_is [] rising = omega (arith, here.1)
    first_is (next ∷ rest) rising = omega (arith, rising.0)

    -- behind the number the rest has what all had
    same : (k : ℕ) → suc entry.column ≤ k → number_in left k ≡ value_in line k
    same k ge = sym (ap (λ es. number_in es k) e ∙ if_apart entry.column k entry.number (number_in left k) (apart k ge)) ∙ h.there k (subst (λ es. next_column (length line) es ≤ k) (sym e) (omega (arith, ge)))
      where
        apart : (k : ℕ) → suc entry.column ≤ k → entry.column ≢ k
        apart k ge same = omega (arith, ge, same)

    there : (k : ℕ) → next_column (length line) left ≤ k → number_in left k ≡ value_in line k
    there k ge = same k (omega (arith, ge, first_is left here.2))

    zeros : (k : ℕ) → suc entry.column ≤ k → k < next_column (length line) left → value_in line k ≡ pos 0
    zeros k ge below = sym (same k ge) ∙ none_yet (length line) left k (entry.column + 1) here.2 below
