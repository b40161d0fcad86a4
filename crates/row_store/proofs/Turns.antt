-- Laws of turned rows, and of steps by them.
use Rattle.std.proofs.Common.{◌≡◌, ℕ, ◌<◌, ◌≤◌, ◌≢◌, false, ℤ, pos, ◌<ℤ◌, List, length, map, set, get_or, refl, sym, ◌∙◌, ap, subst, inl, inr, arith, zero, suc, negsuc, [], ◌∷◌, to_z, of_z, length-set, set-set, get_or-set_same, get_or-set_other}
use Rattle.std.specs.Prelude.{neg_ℤ, int_lt}
use Rattle.std.proofs.lemmas.Int.{ints, to_z-of_z}
use Rattle.std.proofs.lemmas.Bool.{cases_eq, cond-true, cond-false}
use Rattle.std.proofs.lemmas.List.{set-get_or, get_or_read, same_lists, get_or_default}
use Rattle.sums.specs.Places.{IsFilledBelow}
use Rattle.sums.proofs.Sizes.{opposite_above}
use mir.Syntax.{w128}
use mir.Val.{SFits}
use lib.ListN.{length-map, get_or-map}
use lib.IntN.{neg_ℤ-neg_ℤ}
use Rattle.frac_row.specs.declared.row.FracRow.{FracRow}
use Rattle.frac_row.specs.Row.{number_of, width_of, IsRow}
use Rattle.frac_row.proofs.Combinations.{opposite_within}
use Rattle.row_store.specs.Table.{no_row, row_at, number_at, columns_of, IsTable}
use Rattle.row_store.specs.Choice.{is_negative}
use Rattle.row_store.specs.Pivot.{pivoted, pivot_growth}
use Rattle.row_store.specs.Steps.{turned_row, turned, made_positive, stepped, step_growth}
use Rattle.row_store.proofs.SignTests.{negative_tested}

-- ---- one row
pub width_of-turned_row : (row : FracRow) → width_of (turned_row row) ≡ width_of row
unfolding turned_row
width_of-turned_row row = length-map row.numbers neg_ℤ

pub number_of-turned_row : (row : FracRow) (column : ℕ) → number_of (turned_row row) column ≡ neg_ℤ (number_of row column)
unfolding turned_row
number_of-turned_row row column = get_or-map neg_ℤ row.numbers column (pos 0)

pub den-turned_row : (row : FracRow) → (turned_row row).den ≡ row.den
unfolding turned_row
den-turned_row row = refl

turned_is_row : (row : FracRow) → IsRow row → IsRow (turned_row row)
turned_is_row row h = record {
  within = λ column. rw (number_of-turned_row row column) (opposite_within (number_of row column) (h.within column));
  den_within = rw (den-turned_row row) h.den_within;
  positive = rw (den-turned_row row) h.positive;
}

row_turned_twice : (row : FracRow) → turned_row (turned_row row) ≡ row
unfolding turned_row
row_turned_twice row = ap (λ xs. record { numbers = xs; den = row.den }) (opposites row.numbers)
  where
    opposites : (xs : List ℤ) → map neg_ℤ (map neg_ℤ xs) ≡ xs
    opposites [] = refl
    opposites (x ∷ xs) = ap (λ y. y ∷ map neg_ℤ (map neg_ℤ xs)) (neg_ℤ-neg_ℤ x) ∙ ap (λ ys. x ∷ ys) (opposites xs)

-- ---- a table
pub length-turned : (table : List FracRow) (row : ℕ) → length (turned table row) ≡ length table
unfolding turned
length-turned table row = length-set table row (turned_row (row_at table row))

pub row_at-turned : (table : List FracRow) (row : ℕ) → row < length table → row_at (turned table row) row ≡ turned_row (row_at table row)
unfolding turned
row_at-turned table row lt = get_or-set_same table row (turned_row (row_at table row)) no_row lt

pub row_at-turned_other : (table : List FracRow) (row other : ℕ) → other ≢ row → row_at (turned table row) other ≡ row_at table other
unfolding turned
row_at-turned_other table row other apart = get_or-set_other table row other (turned_row (row_at table row)) no_row apart

-- what holds of a row and of the turned row holds of each row
each_row : (P : FracRow → Type 0) (table : List FracRow) (row other : ℕ) → row < length table → P (row_at table other) → (P (row_at table row) → P (turned_row (row_at table row))) → P (row_at (turned table row) other)
each_row P table row other lt p q = elim (cases_eq other row) [
  | inl same ↦ subst (λ i. P (row_at (turned table row) i)) (sym same) (subst P (sym (row_at-turned table row lt)) (q (subst (λ i. P (row_at table i)) same p)))
  | inr apart ↦ subst P (sym (row_at-turned_other table row other apart)) p
]

width_of-turned : (table : List FracRow) (row other width : ℕ) → row < length table → width_of (row_at table other) ≡ width → width_of (row_at (turned table row) other) ≡ width
width_of-turned table row other width lt e = each_row (λ r. width_of r ≡ width) table row other lt e (λ f. width_of-turned_row (row_at table row) ∙ f)

pub columns_of-turned : (table : List FracRow) (row : ℕ) → row < length table → columns_of (turned table row) ≡ columns_of table
columns_of-turned table row lt = width_of-turned table row 0 (columns_of table) lt refl

pub turned_is_table : (table : List FracRow) (row : ℕ) → IsTable table → row < length table → IsTable (turned table row)
turned_is_table table row h lt = record {
  tall = rw (length-turned table row) h.tall;
  few_rows = rw (length-turned table row) h.few_rows;
  few_columns = rw (columns_of-turned table row lt) h.few_columns;
  identity = rw (length-turned table row, columns_of-turned table row lt) h.identity;
  same_width = λ other below. width_of-turned table row other (columns_of (turned table row)) lt (h.same_width other (rw (length-turned table row) at below) ∙ sym (columns_of-turned table row lt));
  rows = λ other below. each_row IsRow table row other lt (h.rows other (rw (length-turned table row) at below)) (turned_is_row (row_at table row));
}

pub turned_twice : (table : List FracRow) (row : ℕ) → row < length table → turned (turned table row) row ≡ table
unfolding turned
turned_twice table row lt =
    set-set table row (turned_row (row_at table row)) _
    ∙ ap (set table row) (ap turned_row (row_at-turned table row lt) ∙ row_turned_twice (row_at table row)) ∙ set-get_or table row no_row

-- ---- steps

positive_test : (z : ℤ) → pos 0 <ℤ z → is_negative z ≡ false
positive_test z h = grind (arith, ints)

pub made_positive-same : (table : List FracRow) (row column : ℕ) → pos 0 <ℤ number_at table row column → made_positive table row column ≡ table
unfolding made_positive
made_positive-same table row column above = cond-false (is_negative (number_at table row column)) (turned table row) table (positive_test (number_at table row column) above)

pub made_positive-turned : (table : List FracRow) (row column : ℕ) → number_at table row column <ℤ pos 0 → made_positive table row column ≡ turned table row
unfolding made_positive
made_positive-turned table row column below = cond-true (is_negative (number_at table row column)) (turned table row) table (negative_tested (number_at table row column) below)

pub stepped-same : (table : List FracRow) (row column : ℕ) → pos 0 <ℤ number_at table row column → pivoted table row column ≡ stepped table row column
unfolding stepped
stepped-same table row column above = ap (λ t. pivoted t row column) (sym (made_positive-same table row column above))

pub stepped-turned : (table : List FracRow) (row column : ℕ) → number_at table row column <ℤ pos 0 → pivoted (turned table row) row column ≡ stepped table row column
unfolding stepped
stepped-turned table row column below = ap (λ t. pivoted t row column) (sym (made_positive-turned table row column below))

pub step_growth-same : (table : List FracRow) (row column : ℕ) → pos 0 <ℤ number_at table row column → pivot_growth table row column ≡ step_growth table row column
unfolding step_growth
step_growth-same table row column above = ap (λ t. pivot_growth t row column) (sym (made_positive-same table row column above))

pub step_growth-turned : (table : List FracRow) (row column : ℕ) → number_at table row column <ℤ pos 0 → pivot_growth (turned table row) row column ≡ step_growth table row column
unfolding step_growth
step_growth-turned table row column below = ap (λ t. pivot_growth t row column) (sym (made_positive-turned table row column below))

-- a number other than 0, by its sign
pub by_sign : {X : Type 0} (z : ℤ) → z ≢ pos 0 → (pos 0 <ℤ z → X) → (z <ℤ pos 0 → X) → X
by_sign (pos zero) other above below = absurd (other refl)
by_sign (pos (suc n)) other above below = above (omega (arith, ints))
by_sign (negsuc n) other above below = below (omega (arith, ints))

-- all numbers turned one after another
pub all_turned : (old new : List ℤ) (n : ℕ) → IsFilledBelow (pos 0) (λ k. neg_ℤ (get_or old k (pos 0))) old new n → length old ≤ n → new ≡ map neg_ℤ old
all_turned old new n h le =
    same_lists new (map neg_ℤ old) (h.same_length ∙ sym (length-map old neg_ℤ))
    (λ k d lt. get_or_default new k d (pos 0) lt ∙ h.filled k (omega (arith, h.same_length)) ∙ sym (get_or-map neg_ℤ old k (pos 0)) ∙ get_or_default (map neg_ℤ old) k (pos 0) d (rw (length-map old neg_ℤ) (omega (arith, h.same_length))))

-- a number below 0 is above 0 in the turned row
pub turned_number : (table : List FracRow) (row column : ℕ) → row < length table → number_at table row column <ℤ pos 0 → pos 0 <ℤ number_at (turned table row) row column
turned_number table row column lt below =
    rw (row_at-turned table row lt) (rw (number_of-turned_row (row_at table row) column) (opposite_above (number_at table row column) below))

-- what is neither above 0 nor 0 is below
pub below_zero : (held z : ℤ) → SFits w128 held → held ≡ z → int_lt (pos 0) (to_z w128 (of_z w128 held)) ≡ false → z ≢ pos 0 → z <ℤ pos 0
below_zero held z fits e t other = by_sign z other (λ above. absurd (clash held z (simp to_z-of_z at t) e above)) (λ below. below)
  where
    clash : (held z : ℤ) → int_lt (pos 0) held ≡ false → held ≡ z → pos 0 <ℤ z → ⊥
    clash held z t e above = grind (arith, ints)

-- a row that is written turned
pub is_turned : (table : List FracRow) (row : ℕ) (old new : FracRow) → row < length table → old ≡ get_or table row old → new ≡ turned_row old → set table row new ≡ turned table row
unfolding turned
is_turned table row old new lt read e = ap (set table row) (e ∙ ap turned_row (get_or_read table row old lt read no_row))
