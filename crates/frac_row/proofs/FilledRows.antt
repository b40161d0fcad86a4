-- A row that is filled column by column.
use Rattle.std.proofs.Common.{◌≡◌, ℕ, ◌+◌, ◌<◌, ◌≤◌, ◌≢◌, ℤ, pos, get_or, set, refl, sym, ◌∙◌, subst, arith, inl, inr, length-set, get_or-set_same, get_or-set_other}
use Rattle.std.proofs.lemmas.Bool.{cases_lt}
use Rattle.std.proofs.lemmas.List.{ext_get_or, get_or_past}
use Rattle.sums.specs.Places.{list_below}
use Rattle.sums.proofs.Places.{length-list_below, get_or-list_below}
use Rattle.sums.proofs.Naturals.{none_below_0}
use Rattle.frac_row.specs.declared.row.FracRow.{FracRow}
use Rattle.frac_row.proofs.Rows.{same_row}
use Rattle.frac_row.specs.Lines.{IsFilledRow}

pub filled_more : (row new : FracRow) (f : ℕ → ℤ) (width column : ℕ) (z : ℤ) → IsFilledRow row f width column → column < width → z ≡ f column → new ≡ record { numbers = set row.numbers column z; den = row.den } → IsFilledRow new f width (column + 1)
filled_more row new f width column z h lt is e = subst (λ r. IsFilledRow r f width (column + 1)) (sym e) (record {
  same_width = length-set row.numbers column z ∙ h.same_width;
  over_one = h.over_one;
  filled = λ place below within. elim (cases_lt place column) [
    | inl less ↦ get_or-set_other row.numbers column place z (pos 0) (apart place less) ∙ h.filled place less within
    | inr ge ↦ let same : column ≡ place = omega arith in subst (λ k. get_or (set row.numbers column z) k (pos 0) ≡ f k) same (get_or-set_same row.numbers column z (pos 0) (rw h.same_width lt) ∙ is)
  ];
  zeros = λ place ge. get_or-set_other row.numbers column place z (pos 0) (behind place ge) ∙ h.zeros place (omega arith);
})
  where
    apart : (place : ℕ) → place < column → place ≢ column
    apart place less = omega arith

    behind : (place : ℕ) → column + 1 ≤ place → place ≢ column
    behind place ge = omega arith

pub filled_row : (row : FracRow) (f : ℕ → ℤ) (width column : ℕ) → IsFilledRow row f width column → width ≤ column → row ≡ record { numbers = list_below f width; den = pos 1 }
filled_row row f width column h le =
    same_row row.numbers (list_below f width) row.den (pos 1)
    (ext_get_or (pos 0) _ _ (h.same_width ∙ sym (length-list_below f width)) (λ k in_range. at_place k (rw h.same_width at in_range))) h.over_one
  where
    at_place : (k : ℕ) → k < width → get_or row.numbers k (pos 0) ≡ get_or (list_below f width) k (pos 0)
    at_place k lt = h.filled k (omega arith) lt ∙ sym (get_or-list_below f width k (pos 0) lt)

-- columns in which f is 0 are passed over
pub filled_past : (row : FracRow) (f : ℕ → ℤ) (width column next : ℕ) → IsFilledRow row f width column → column ≤ next → ((place : ℕ) → column ≤ place → place < next → f place ≡ pos 0) → IsFilledRow row f width next
filled_past row f width column next h le none = record {
  same_width = h.same_width;
  over_one = h.over_one;
  filled = λ place lt within. elim (cases_lt place column) [
    | inl less ↦ h.filled place less within
    | inr ge ↦ h.zeros place ge ∙ sym (none place ge lt)
  ];
  zeros = λ place ge. h.zeros place (omega arith);
}

-- other numbers that agree below the column
pub filled_as : (row : FracRow) (f g : ℕ → ℤ) (width column : ℕ) → IsFilledRow row f width column → ((place : ℕ) → place < column → f place ≡ g place) → IsFilledRow row g width column
filled_as row f g width column h same = record {
  same_width = h.same_width;
  over_one = h.over_one;
  filled = λ place lt within. h.filled place lt within ∙ same place lt;
  zeros = h.zeros;
}

-- a row of zeros is filled below its first column
pub filled_none : (row : FracRow) (f : ℕ → ℤ) (width : ℕ) → row ≡ record { numbers = list_below (λ column. pos 0) width; den = pos 1 } → IsFilledRow row f width 0
filled_none row f width e = subst (λ r. IsFilledRow r f width 0) (sym e) (record {
  same_width = length-list_below (λ column. pos 0) width;
  over_one = refl;
  filled = λ place lt within. absurd (none_below_0 place lt);
  zeros = λ place ge. elim (cases_lt place width) [
    | inl lt ↦ get_or-list_below (λ column. pos 0) width place (pos 0) lt
    | inr past ↦ get_or_past (list_below (λ column. pos 0) width) place (pos 0) (rw length-list_below past)
  ];
})
