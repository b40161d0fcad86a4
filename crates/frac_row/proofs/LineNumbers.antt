-- The numbers of a line, one after another.
use Rattle.std.proofs.Common.{◌≡◌, ℕ, zero, suc, ◌+◌, ◌<◌, ◌≤◌, ◌≢◌, ℤ, pos, ◌+ℤ◌, List, [], ◌∷◌, length, get_or, set, unsigned_abs, refl, sym, ◌∙◌, ap, subst, arith, inl, inr, ◌⊎◌, length-set, get_or-set_same, get_or-set_other, add_comm}
use Rattle.std.proofs.lemmas.Int.{ints}
use Rattle.std.proofs.lemmas.Bool.{cases_eq, cases_lt}
use Rattle.std.proofs.lemmas.List.{ext_get_or, get_or_past}
use Rattle.sums.specs.Below.{sum_below}
use Rattle.sums.specs.Places.{list_below}
use Rattle.sums.proofs.OneChanged.{AgreeBut, sum_below-more}
use Rattle.sums.proofs.Sums.{sum_below-zero}
use Rattle.sums.proofs.Places.{length-list_below, get_or-list_below}
use Rattle.sums.proofs.Sizes.{nothing_added}
use Rattle.sums.proofs.NumberTests.{if_apart, if_same}
use Rattle.frac_row.specs.Row.{number_of, width_of}
use Rattle.frac_row.specs.declared.row.FracRow.{FracRow}
use Rattle.frac_row.specs.declared.entry.Entry.{Entry}
use Rattle.frac_row.specs.Content.{number_in, AreRising}
use Rattle.frac_row.proofs.Contents.{none_before, rising_from}
use Rattle.frac_row.specs.Lines.{numbered, sizes_of, IsFilledRow}

pub numbered_rise : (from width : ℕ) (xs : List ℤ) → from + length xs ≡ width → AreRising from width (numbered from xs)
numbered_rise from width [] e = tt
numbered_rise from width (x ∷ xs) e = (omega arith, omega arith, numbered_rise (from + 1) width xs (omega arith))

pub numbered_is : (from column k : ℕ) (xs : List ℤ) → column ≡ from + k → number_in (numbered from xs) column ≡ get_or xs k (pos 0)
numbered_is from column k [] e = refl
numbered_is from column zero (x ∷ xs) e = if_same from column x _ (omega arith)
numbered_is from column (suc k) (x ∷ xs) e = if_apart from column x _ (apart e) ∙ numbered_is (from + 1) column k xs (omega arith)
  where
    apart : column ≡ from + suc k → from ≢ column
    apart e = omega arith

-- ---- sizes
pub sizes_are : (from width : ℕ) (entries : List Entry) → AreRising from width entries → sum_below (λ column. unsigned_abs (number_in entries column)) width ≡ sizes_of entries
sizes_are from width [] h = sum_below-zero width
sizes_are from width (x ∷ xs) h =
    sum_below-more (λ column. unsigned_abs (number_in (x ∷ xs) column)) (λ column. unsigned_abs (number_in xs column)) width x.column (unsigned_abs x.number) h.1
    (ap unsigned_abs (if_same x.column x.column x.number _ refl) ∙ alone) agree
    ∙ ap (λ n. n + unsigned_abs x.number) (sizes_are (x.column + 1) width xs h.2) ∙ add_comm (sizes_of xs) (unsigned_abs x.number)
  where
    alone : unsigned_abs x.number ≡ unsigned_abs (number_in xs x.column) + unsigned_abs x.number
    alone = let none : unsigned_abs (number_in xs x.column) ≡ 0 = ap unsigned_abs (none_before (x.column + 1) width xs x.column h.2 (omega arith)) in omega arith

    agree : AgreeBut (λ column. unsigned_abs (number_in (x ∷ xs) column)) (λ column. unsigned_abs (number_in xs column)) x.column width
    agree = record { each = λ k lt ne. ap unsigned_abs (if_apart x.column k x.number (number_in xs k) (λ e. ne (sym e))) }

-- ---- sums
-- what stands in the sums and what is left to add come to what is wanted
pub record IsAdding (target sums : List ℤ) (left : List Entry) : Type 0 where
  pub same_length : length sums ≡ length target
  pub rising : AreRising 0 (length target) left
  pub each : (column : ℕ) → column < length target → get_or sums column (pos 0) +ℤ number_in left column ≡ get_or target column (pos 0)

pub adding_begun : (sums line : List ℤ) (left : List Entry) → length line ≡ length sums → AreRising 0 (length line) left → ((column : ℕ) → number_in left column ≡ get_or line column (pos 0)) → IsAdding (list_below (λ column. get_or sums column (pos 0) +ℤ get_or line column (pos 0)) (length sums)) sums left
adding_begun sums line left same rising is = record {
  same_length = sym (length-list_below _ (length sums));
  rising = rw length-list_below (subst (λ n. AreRising 0 n left) same rising);
  each = λ column lt. ap (λ z. get_or sums column (pos 0) +ℤ z) (is column) ∙ sym (get_or-list_below _ (length sums) column (pos 0) (rw length-list_below at lt));
}

pub adding_more : (target sums : List ℤ) (entry : Entry) (left all : List Entry) (z : ℤ) → IsAdding target sums all → all ≡ entry ∷ left → z ≡ get_or sums entry.column (pos 0) +ℤ entry.number → IsAdding target (set sums entry.column z) left
adding_more target sums entry left all z h e is = record {
  same_length = length-set sums entry.column z ∙ h.same_length;
  rising = rising_from (entry.column + 1) 0 (length target) left (omega arith) here.2;
  each = λ column lt. at_column column lt (cases_eq entry.column column);
}
  where
    here : AreRising 0 (length target) (entry ∷ left)
    here = subst (AreRising 0 (length target)) e h.rising

    before : (column : ℕ) → column < length target → get_or sums column (pos 0) +ℤ number_in (entry ∷ left) column ≡ get_or target column (pos 0)
    before column lt = ap (λ es. get_or sums column (pos 0) +ℤ number_in es column) (sym e) ∙ h.each column lt

    moved : (x y v w : ℤ) → w ≡ pos 0 → x ≡ y +ℤ v → x +ℤ w ≡ y +ℤ v
    moved x y v w p q = omega (arith, ints)

    at_column : (column : ℕ) → column < length target → (entry.column ≡ column) ⊎ (entry.column ≢ column) → get_or (set sums entry.column z) column (pos 0) +ℤ number_in left column ≡ get_or target column (pos 0)
    at_column column lt (inl same) =
        subst (λ k. get_or (set sums entry.column z) k (pos 0) +ℤ number_in left k ≡ get_or target k (pos 0)) same
        (moved _ (get_or sums entry.column (pos 0)) entry.number _ (none_before (entry.column + 1) (length target) left entry.column here.2 (omega arith)) (get_or-set_same sums entry.column z (pos 0) (rw h.same_length here.1) ∙ is)
        ∙ ap (λ n. get_or sums entry.column (pos 0) +ℤ n) (sym (if_same entry.column entry.column entry.number (number_in left entry.column) refl)) ∙ before entry.column here.1)
    at_column column lt (inr ne) =
        ap (λ x. x +ℤ number_in left column) (get_or-set_other sums entry.column column z (pos 0) (λ s. ne (sym s)))
        ∙ ap (λ n. get_or sums column (pos 0) +ℤ n) (sym (if_apart entry.column column entry.number (number_in left column) ne)) ∙ before column lt

pub adding_next : (target sums : List ℤ) (entry : Entry) (left all : List Entry) → IsAdding target sums all → all ≡ entry ∷ left → (entry.column < length sums) × (get_or sums entry.column (pos 0) +ℤ entry.number ≡ get_or target entry.column (pos 0))
adding_next target sums entry left all h e =
    let here : AreRising 0 (length target) (entry ∷ left) = subst (AreRising 0 (length target)) e h.rising in
    (rw h.same_length here.1, ap (λ n. get_or sums entry.column (pos 0) +ℤ n) (sym (ap (λ es. number_in es entry.column) e ∙ if_same entry.column entry.column entry.number (number_in left entry.column) refl)) ∙ h.each entry.column here.1)

pub adding_done : (target sums : List ℤ) (left : List Entry) → IsAdding target sums left → left ≡ [] → sums ≡ target
adding_done target sums left h e =
    ext_get_or (pos 0) sums target h.same_length (λ k lt. nothing_added (get_or sums k (pos 0)) _ (ap (λ es. number_in es k) e) ∙ h.each k (rw h.same_length at lt))

-- ---- a row that is filled along a line
pub record IsBeginning (row : FracRow) (f : ℕ → ℤ) (width columns reach : ℕ) (left : List Entry) : Type 0 where
  pub same_width : width_of row ≡ width
  pub over_one : row.den ≡ pos 1
  pub rising : AreRising 0 reach left
  pub each : (column : ℕ) → column < columns → number_of row column +ℤ number_in left column ≡ f column
  pub behind : (place : ℕ) → (number_of row place ≡ pos 0) ⊎ AreRising (place + 1) reach left
  pub zeros : (place : ℕ) → columns ≤ place → number_of row place ≡ pos 0

pub beginning_none : (row : FracRow) (f : ℕ → ℤ) (width columns reach : ℕ) (left : List Entry) → row ≡ record { numbers = list_below (λ column. pos 0) width; den = pos 1 } → AreRising 0 reach left → ((column : ℕ) → number_in left column ≡ f column) → IsBeginning row f width columns reach left
beginning_none row f width columns reach left e rising is = subst (λ r. IsBeginning r f width columns reach left) (sym e) (record {
  same_width = length-list_below (λ column. pos 0) width;
  over_one = refl;
  rising = rising;
  each = λ column lt. nothing (number_of zeros_of column) (number_in left column) (zero_at column) ∙ is column;
  behind = λ place. inl (zero_at place);
  zeros = λ place ge. zero_at place;
})
  where
    zeros_of : FracRow
    zeros_of = record { numbers = list_below (λ column. pos 0) width; den = pos 1 }

    nothing : (x y : ℤ) → x ≡ pos 0 → x +ℤ y ≡ y
    nothing x y p = omega (arith, ints)

    zero_at : (place : ℕ) → number_of (record { numbers = list_below (λ column. pos 0) width; den = pos 1 }) place ≡ pos 0
    zero_at place = elim (cases_lt place width) [
      | inl lt ↦ get_or-list_below (λ column. pos 0) width place (pos 0) lt
      | inr past ↦ get_or_past (list_below (λ column. pos 0) width) place (pos 0) (rw length-list_below past)
    ]

-- nothing stands from the next column on
pub beginning_zeros : (row : FracRow) (f : ℕ → ℤ) (width columns reach : ℕ) (entry : Entry) (left all : List Entry) (place : ℕ) → IsBeginning row f width columns reach all → all ≡ entry ∷ left → entry.column ≤ place → number_of row place ≡ pos 0
beginning_zeros row f width columns reach entry left all place h e le =
    elim (h.behind place) [ inl nothing ↦ nothing | inr rising ↦ absurd (too_small (subst (AreRising (place + 1) reach) e rising)) ]
  where
    too_small : AreRising (place + 1) reach (entry ∷ left) → ⊥
    too_small r = let first : place + 1 ≤ entry.column = r.0 in omega arith

pub beginning_more : (row new : FracRow) (f : ℕ → ℤ) (width columns reach : ℕ) (entry : Entry) (left all : List Entry) → IsBeginning row f width columns reach all → all ≡ entry ∷ left → entry.column < columns → columns ≤ width → new ≡ record { numbers = set row.numbers entry.column entry.number; den = row.den } → IsBeginning new f width columns reach left
beginning_more row new f width columns reach entry left all h e lt le same = subst (λ r. IsBeginning r f width columns reach left) (sym same) (record {
  same_width = length-set row.numbers entry.column entry.number ∙ h.same_width;
  over_one = h.over_one;
  rising = rising_from (entry.column + 1) 0 reach left (omega arith) here.2;
  each = λ column below. at_column column below (cases_eq entry.column column);
  behind = λ place. beside place (cases_eq entry.column place);
  zeros = λ place ge. get_or-set_other row.numbers entry.column place entry.number (pos 0) (apart place ge) ∙ h.zeros place ge;
})
  where
    here : AreRising 0 reach (entry ∷ left)
    here = subst (AreRising 0 reach) e h.rising

    apart : (place : ℕ) → columns ≤ place → place ≢ entry.column
    apart place ge = omega arith

    in_row : entry.column < length row.numbers
    in_row = rw h.same_width (omega arith)

    before : (column : ℕ) → column < columns → number_of row column +ℤ number_in (entry ∷ left) column ≡ f column
    before column below = ap (λ es. number_of row column +ℤ number_in es column) (sym e) ∙ h.each column below

    moved : (x y u v : ℤ) → x ≡ v → y ≡ pos 0 → u ≡ pos 0 → x +ℤ y ≡ u +ℤ v
    moved x y u v p q r = omega (arith, ints)

    at_column : (column : ℕ) → column < columns → (entry.column ≡ column) ⊎ (entry.column ≢ column) → get_or (set row.numbers entry.column entry.number) column (pos 0) +ℤ number_in left column ≡ f column
    at_column column below (inl eq) =
        subst (λ k. get_or (set row.numbers entry.column entry.number) k (pos 0) +ℤ number_in left k ≡ f k) eq
        (moved _ _ (number_of row entry.column) entry.number (get_or-set_same row.numbers entry.column entry.number (pos 0) in_row) (none_before (entry.column + 1) reach left entry.column here.2 (omega arith)) (beginning_zeros row f width columns reach entry left all entry.column h e (omega arith))
        ∙ ap (λ n. number_of row entry.column +ℤ n) (sym (if_same entry.column entry.column entry.number (number_in left entry.column) refl)) ∙ before entry.column lt)
    at_column column below (inr ne) =
        ap (λ x. x +ℤ number_in left column) (get_or-set_other row.numbers entry.column column entry.number (pos 0) (λ s. ne (sym s)))
        ∙ ap (λ n. number_of row column +ℤ n) (sym (if_apart entry.column column entry.number (number_in left column) ne)) ∙ before column below

    beside : (place : ℕ) → (entry.column ≡ place) ⊎ (entry.column ≢ place) → (get_or (set row.numbers entry.column entry.number) place (pos 0) ≡ pos 0) ⊎ AreRising (place + 1) reach left
    beside place (inl eq) = inr (subst (λ k. AreRising (k + 1) reach left) eq here.2)
    beside place (inr ne) =
        elim (h.behind place) [
          | inl nothing ↦ inl (get_or-set_other row.numbers entry.column place entry.number (pos 0) (λ s. ne (sym s)) ∙ nothing)
          | inr rising ↦ inr (later (subst (AreRising (place + 1) reach) e rising))
        ]
      where
        later : AreRising (place + 1) reach (entry ∷ left) → AreRising (place + 1) reach left
        later r = rising_from (entry.column + 1) (place + 1) reach left (omega (arith, r.0)) r.2

pub beginning_done : (row : FracRow) (f : ℕ → ℤ) (width columns reach : ℕ) (left : List Entry) → IsBeginning row f width columns reach left → ((column : ℕ) → column < columns → number_in left column ≡ pos 0) → IsFilledRow row f width columns
beginning_done row f width columns reach left h none = record {
  same_width = h.same_width;
  over_one = h.over_one;
  filled = λ place lt within. nothing_added (number_of row place) (number_in left place) (none place lt) ∙ h.each place lt;
  zeros = h.zeros;
}

pub none_below_next : (from reach columns : ℕ) (entry : Entry) (left all : List Entry) (column : ℕ) → AreRising from reach all → all ≡ entry ∷ left → columns ≤ entry.column → column < columns → number_in all column ≡ pos 0
none_below_next from reach columns entry left all column h e le lt =
    ap (λ es. number_in es column) e ∙ none_before entry.column reach (entry ∷ left) column (above (subst (AreRising from reach) e h)) (omega arith)
  where
    above : AreRising from reach (entry ∷ left) → AreRising entry.column reach (entry ∷ left)
    above r = (omega arith, r.1, r.2)
