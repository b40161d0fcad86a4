-- What stands in a column of a row that is held by its numbers other than 0.
use Rattle.std.proofs.Common.{◌≡◌, ℕ, zero, suc, ◌+◌, ◌<◌, ◌≤◌, ◌≢◌, ℤ, pos, List, [], ◌∷◌, length, get_or, Result, Ok, Err, IfOk, IfErr, refl, sym, ◌∙◌, ap, subst, arith, inl, inr}
use Rattle.std.specs.List.Sorted.{IsSearchInRange, IsBinarySearchResult, IsNonDecreasingBy}
use Rattle.std.specs.Ordering.{nat_cmp, ordering_index}
use Rattle.std.proofs.lemmas.Cmp.{ranked}
use Rattle.std.proofs.lemmas.List.Sorted.{IsNonDecreasingBy-from_default}
use Rattle.std.proofs.lemmas.Bool.{cases_lt}
use Rattle.std.proofs.lemmas.Bool.Decides.{nat_tests}
use Rattle.sums.proofs.Places.{length-list_below, get_or-list_below}
use Rattle.sums.proofs.NumberTests.{if_apart, if_same}
use Rattle.frac_row.specs.Row.{number_of, width_of}
use Rattle.frac_row.specs.declared.entry.Entry.{Entry}
use Rattle.std.proofs.lemmas.List.{get_or_past}
use Rattle.frac_row.specs.Content.{number_in, number_at, AreEntries, IsHeld, content_of, AreRising}

-- stands past the last entry
abbrev pub no_entry : Entry
no_entry = record { column = 0; number = pos 0 }

abbrev pub column_at : List Entry → ℕ → ℕ
column_at entries k = (get_or entries k no_entry).column

-- ---- lists from a column on
pub are_from : (from start width : ℕ) (entries : List Entry) → start ≤ from → AreEntries from width entries → AreEntries start width entries
are_from from start width [] le h = tt
are_from from start width (x ∷ xs) le h = (omega (arith, h.0), h.1, h.2, h.3)

pub are_within : (from width most : ℕ) (entries : List Entry) → width ≤ most → AreEntries from width entries → AreEntries from most entries
are_within from width most [] le h = tt
are_within from width most (x ∷ xs) le h = (h.0, omega (arith, h.1), h.2, are_within (x.column + 1) width most xs le h.3)

pub rising_entries : (from width : ℕ) (entries : List Entry) → AreEntries from width entries → AreRising from width entries
rising_entries from width [] h = tt
rising_entries from width (x ∷ xs) h = (h.0, h.1, rising_entries (x.column + 1) width xs h.3)

pub rising_from : (from start width : ℕ) (entries : List Entry) → start ≤ from → AreRising from width entries → AreRising start width entries
rising_from from start width [] le h = tt
rising_from from start width (x ∷ xs) le h = (omega (arith, h.0), h.1, h.2)

-- nothing stands before the first column
pub none_before : (from width : ℕ) (entries : List Entry) (column : ℕ) → AreRising from width entries → column < from → number_in entries column ≡ pos 0
none_before from width [] column h lt = refl
none_before from width (x ∷ xs) column h lt =
    if_apart x.column column _ _ (apart h.0) ∙ none_before (x.column + 1) width xs column h.2 (omega (arith, h.0))
  where
    apart : from ≤ x.column → x.column ≢ column
    apart le = omega arith

pub nothing_before : (from width : ℕ) (entries : List Entry) (column : ℕ) → AreEntries from width entries → column < from → number_in entries column ≡ pos 0
nothing_before from width entries column h lt = none_before from width entries column (rising_entries from width entries h) lt

-- nor past the last one
pub nothing_past : (from width : ℕ) (entries : List Entry) (column : ℕ) → AreEntries from width entries → width ≤ column → number_in entries column ≡ pos 0
nothing_past from width [] column h le = refl
nothing_past from width (x ∷ xs) column h le =
    if_apart x.column column _ _ (apart h.1) ∙ nothing_past (x.column + 1) width xs column h.3 le
  where
    apart : x.column < width → x.column ≢ column
    apart lt = omega arith

-- ---- by places
from_at : (from width : ℕ) (entries : List Entry) (k : ℕ) → AreEntries from width entries → k < length entries → from ≤ column_at entries k
from_at from width [] k h lt = absurd (omega arith)
from_at from width (x ∷ xs) zero h lt = h.0
from_at from width (x ∷ xs) (suc k) h lt = omega (arith, h.0, from_at (x.column + 1) width xs k h.3 (omega arith))

pub columns_rise : (from width : ℕ) (entries : List Entry) (j k : ℕ) → AreEntries from width entries → j < k → k < length entries → column_at entries j < column_at entries k
columns_rise from width [] j k h lt in_range = absurd (omega arith)
columns_rise from width (x ∷ xs) j zero h lt in_range = absurd (omega arith)
columns_rise from width (x ∷ xs) zero (suc k) h lt in_range = omega (arith, from_at (x.column + 1) width xs k h.3 (omega arith))
columns_rise from width (x ∷ xs) (suc j) (suc k) h lt in_range = columns_rise (x.column + 1) width xs j k h.3 (omega arith) (omega arith)

pub number_at_place : (from width : ℕ) (entries : List Entry) (k : ℕ) → AreEntries from width entries → k < length entries → (get_or entries k no_entry).number ≡ number_in entries (column_at entries k)
number_at_place from width [] k h lt = absurd (omega arith)
number_at_place from width (x ∷ xs) zero h lt = sym (if_same x.column x.column x.number _ refl)
number_at_place from width (x ∷ xs) (suc k) h lt =
    number_at_place (x.column + 1) width xs k h.3 (omega arith) ∙ sym (if_apart x.column (column_at xs k) _ _ (apart (from_at (x.column + 1) width xs k h.3 (omega arith))))
  where
    apart : x.column + 1 ≤ column_at xs k → x.column ≢ column_at xs k
    apart le = omega arith

nothing_found : (entries : List Entry) (column : ℕ) → ((k : ℕ) → k < length entries → column_at entries k ≢ column) → pos 0 ≡ number_in entries column
nothing_found [] column h = refl
nothing_found (x ∷ xs) column h =
    nothing_found xs column (λ k lt. h (suc k) (omega arith)) ∙ sym (if_apart x.column column _ _ (h 0 (omega arith)))

-- what a search by bisection tells
pub record IsFound (entries : List Entry) (column place : ℕ) : Type 0 where
  pub in_range : place < length entries
  pub same : column_at entries place ≡ column

module _ (width : ℕ) (entries : List Entry) (h : AreEntries 0 width entries) (column : ℕ) where
  comparisons_rise : IsNonDecreasingBy (λ entry. ordering_index (nat_cmp entry.column column)) entries
  comparisons_rise = IsNonDecreasingBy-from_default (λ entry. ordering_index (nat_cmp entry.column column)) entries no_entry (λ i j le in_range.
      let rise : column_at entries i ≤ column_at entries j = at_most i j le in_range in
      grind (arith, nat_tests))
    where
      at_most : (i j : ℕ) → i ≤ j → j < length entries → column_at entries i ≤ column_at entries j
      at_most i j le in_range =
          elim (cases_lt i j) [
            | inl lt ↦ let less : column_at entries i < column_at entries j = columns_rise 0 width entries i j h lt in_range in omega arith
            | inr ge ↦ let same : i ≡ j = omega arith in subst (λ k. column_at entries i ≤ column_at entries k) same (omega arith)
          ]

  pub searched : (r : Result ℕ ℕ) → IsSearchInRange r (length entries) → IsBinarySearchResult (λ entry. nat_cmp entry.column column) entries r → (IfOk r (IsFound entries column)) × (IfErr r (λ _. pos 0 ≡ number_in entries column))
  searched (Ok place) in_range equal = (record { in_range = in_range; same = ranked _ column _ (sym (equal no_entry)) }, tt)
  searched (Err place) in_range parted = (tt, nothing_found entries column (λ k lt. apart k lt))
    where
      apart : (k : ℕ) → k < length entries → column_at entries k ≢ column
      apart k lt =
          elim (cases_lt k place) [
            | inl before ↦ let less : column_at entries k < column = ranked _ column _ (sym ((parted comparisons_rise).0 k no_entry (omega arith) before)) in omega arith
            | inr behind ↦ let more : column < column_at entries k = ranked _ column _ (sym ((parted comparisons_rise).1 k no_entry behind lt)) in omega arith
          ]

  pub found_number : (place : ℕ) → IsFound entries column place → (get_or entries place no_entry).number ≡ number_in entries column
  found_number place found = number_at_place 0 width entries place h found.in_range ∙ ap (number_in entries) found.same

-- ---- the row
pub width_of-content : (entries : List Entry) (width : ℕ) (den : ℤ) → width_of (content_of entries width den) ≡ width
unfolding content_of
width_of-content entries width den = length-list_below (number_in entries) width

pub number_of-content : (entries : List Entry) (width : ℕ) (den : ℤ) (column : ℕ) → column < width → number_of (content_of entries width den) column ≡ number_in entries column
unfolding content_of
number_of-content entries width den column lt = get_or-list_below (number_in entries) width column (pos 0) lt

pub den-content : (entries : List Entry) (width : ℕ) (den : ℤ) → (content_of entries width den).den ≡ den
unfolding content_of
den-content entries width den = refl

column_at_within : (from width : ℕ) (entries : List Entry) (k : ℕ) → AreEntries from width entries → k < length entries → column_at entries k < width
column_at_within from width [] k h lt = absurd (omega arith)
column_at_within from width (x ∷ xs) zero h lt = h.1
column_at_within from width (x ∷ xs) (suc k) h lt = column_at_within (x.column + 1) width xs k h.3 (omega arith)

pub number_of-held : (entries : List Entry) (width : ℕ) (den : ℤ) (column : ℕ) → IsHeld entries width → number_of (content_of entries width den) column ≡ number_in entries column
number_of-held entries width den column h =
    elim (cases_lt column width) [
      | inl lt ↦ number_of-content entries width den column lt
      | inr ge ↦ get_or_past _ column (pos 0) (rw width_of-content ge) ∙ sym (nothing_past 0 width entries column h.rising ge)
    ]

pub number_at-held : (entries : List Entry) (width : ℕ) (den : ℤ) (k : ℕ) → IsHeld entries width → k < length entries → number_at entries k ≡ number_of (content_of entries width den) (column_at entries k)
number_at-held entries width den k h lt =
    number_at_place 0 width entries k h.rising lt ∙ sym (number_of-held entries width den (column_at entries k) h)

pub number_of-place : (entries : List Entry) (width : ℕ) (k : ℕ) → IsHeld entries width → k < length entries → column_at entries k < width
number_of-place entries width k h lt = column_at_within 0 width entries k h.rising lt

pub some_at_place : (from width : ℕ) (entries : List Entry) (k : ℕ) → AreEntries from width entries → k < length entries → number_at entries k ≢ pos 0
some_at_place from width [] k h lt = absurd (omega arith)
some_at_place from width (x ∷ xs) zero h lt = h.2
some_at_place from width (x ∷ xs) (suc k) h lt = some_at_place (x.column + 1) width xs k h.3 (omega arith)
