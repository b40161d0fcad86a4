-- What columns and right sides weigh, line by line.
use Rattle.std.proofs.Common.{◌≡◌, ℕ, zero, suc, ◌+◌, ◌<◌, ◌≤◌, ℤ, pos, ◌+ℤ◌, ◌*ℤ◌, List, [], length, get_or, sym, ◌∙◌, ap, subst, arith, inl, inr}
use Rattle.std.specs.Prelude.{replicate}
use Rattle.std.proofs.lemmas.Bool.{cases_lt}
use Rattle.std.proofs.lemmas.List.{ext_get_or, get_or_past, get_or-replicate, length-replicate}
use Rattle.sums.specs.Below.{sum_below_ℤ}
use Rattle.sums.specs.Places.{list_below}
use Rattle.sums.proofs.Places.{get_or-list_below, length-list_below, list_below-agree}
use Rattle.frac_row.specs.Outgrown.{IsWithin}
use Rattle.row_store.specs.declared.problem.Rows.{Rows}
use Rattle.row_store.specs.Problem.{entry}
use Rattle.simplex_frac.specs.end_check.Ends.{value_in}
use Rattle.simplex_frac.specs.end_check.Sums.{AddWithin, AddsWithin, SumsWithin, WeighsWithin, sums_with, weights_of}
use Rattle.simplex_frac.proofs.end_check.Products.{sums_more}

pub record IsWeighing (rows : Rows) (y : ℕ → ℤ) (count : ℕ) (weights : List ℤ) : Type 0 where
  pub is : weights ≡ weights_of rows y count
  pub within : (column : ℕ) → column ≤ rows.columns → SumsWithin y (λ line. entry rows line column) count

pub weights_long : (rows : Rows) (y : ℕ → ℤ) (count : ℕ) → length (weights_of rows y count) ≡ rows.columns + 1
unfolding weights_of
weights_long rows y count = length-list_below _ (rows.columns + 1)

pub weight_is : (rows : Rows) (y : ℕ → ℤ) (count column : ℕ) → column ≤ rows.columns → value_in (weights_of rows y count) column ≡ sum_below_ℤ (λ line. y line *ℤ entry rows line column) count
unfolding weights_of
weight_is rows y count column le = get_or-list_below _ (rows.columns + 1) column (pos 0) (omega (arith, le))

sum_fits : (f g : ℕ → ℤ) (n : ℕ) → SumsWithin f g n → IsWithin (sum_below_ℤ (λ k. f k *ℤ g k) n)
sum_fits f g zero all = omega arith
sum_fits f g (suc n) all = (all.each n (omega arith)).total

pub weighing_within : (rows : Rows) (y : ℕ → ℤ) (count : ℕ) (weights : List ℤ) → IsWeighing rows y count weights → (column : ℕ) → IsWithin (value_in weights column)
weighing_within rows y count weights h column = elim (cases_lt column (rows.columns + 1)) [
  | inl below ↦ subst IsWithin (sym (ap (λ ws. value_in ws column) h.is ∙ weight_is rows y count column (omega (arith, below)))) (sum_fits y (λ line. entry rows line column) count (h.within column (omega (arith, below))))
  | inr past ↦ subst IsWithin (sym (get_or_past weights column (pos 0) (omega (arith, past, ap length h.is, weights_long rows y count)))) (omega arith)
]

pub weighing_begun : (rows : Rows) (y : ℕ → ℤ) (weights : List ℤ) → weights ≡ replicate (rows.columns + 1) (pos 0) → IsWeighing rows y 0 weights
unfolding weights_of
weighing_begun rows y weights zeros = record {
  is = zeros ∙ zeros_are (rows.columns + 1);
  within = λ column le. record { each = λ k below. absurd (omega (arith, below)) };
}
  where
    zeros_are : (n : ℕ) → replicate n (pos 0) ≡ list_below (λ column. pos 0) n
    zeros_are n =
        ext_get_or (pos 0) (replicate n (pos 0)) (list_below (λ column. pos 0) n) (length-replicate n (pos 0) ∙ sym (length-list_below _ n))
        (λ k below.
        let within : k < n = omega (arith, below, length-replicate n (pos 0)) in
        get_or-replicate n k (pos 0) (pos 0) within ∙ sym (get_or-list_below _ n k (pos 0) within))

module _ (rows : Rows) (y : ℕ → ℤ) (count : ℕ) (weights : List ℤ) (h : IsWeighing rows y count weights) (value : ℤ) (line : List ℤ) (value_is : value ≡ y count) (line_is : line ≡ get_or rows.lines count []) where
  long : length weights ≡ rows.columns + 1
  long = ap length h.is ∙ weights_long rows y count

  weight_there : (column : ℕ) → column ≤ rows.columns → value_in weights column ≡ sum_below_ℤ (λ line. y line *ℤ entry rows line column) count
  weight_there column le = ap (λ ws. value_in ws column) h.is ∙ weight_is rows y count column le

  number_there : (column : ℕ) → value_in line column ≡ entry rows count column
  number_there column = ap (λ l. value_in l column) line_is

  module _ (column : ℕ) (le : column ≤ rows.columns) where
    abbrev sum : ℤ
    sum = sum_below_ℤ (λ line. y line *ℤ entry rows line column) count

    comes_to : value_in weights column +ℤ (value *ℤ value_in line column) ≡ sum +ℤ (y count *ℤ entry rows count column)
    comes_to = ap (λ w. w +ℤ (value *ℤ value_in line column)) (weight_there column le) ∙ ap (λ v. sum +ℤ (v *ℤ value_in line column)) value_is ∙ ap (λ n. sum +ℤ (y count *ℤ n)) (number_there column)

    product : value *ℤ value_in line column ≡ y count *ℤ entry rows count column
    product = ap (λ v. v *ℤ value_in line column) value_is ∙ ap (λ n. y count *ℤ n) (number_there column)

    adds_up : AddsWithin (value_in weights column) value (value_in line column) → AddsWithin sum (y count) (entry rows count column)
    adds_up adds = record { product = subst IsWithin product adds.product; total = subst IsWithin comes_to adds.total }

    adds_down : AddsWithin sum (y count) (entry rows count column) → AddsWithin (value_in weights column) value (value_in line column)
    adds_down adds = record { product = subst IsWithin (sym product) adds.product; total = subst IsWithin (sym comes_to) adds.total }

  pub weighing_more : (new : List ℤ) → AddWithin weights value line → new ≡ sums_with weights value line → IsWeighing rows y (suc count) new
  unfolding weights_of sums_with
  weighing_more new adds is = record {
    is = is ∙ ap (list_below (λ column. value_in weights column +ℤ (value *ℤ value_in line column))) long ∙ list_below-agree _ _ (rows.columns + 1) (λ column below. comes_to column (omega (arith, below)));
    within = λ column le. sums_more y (λ l. entry rows l column) count (h.within column le) (adds_up column le (adds.each column (omega (arith, le, long))));
  }

  pub weighing_fails : count < length rows.lines → ¬ (AddWithin weights value line) → ¬ (WeighsWithin rows y)
  weighing_fails below fails all = fails (record { each = λ column inside. let le : column ≤ rows.columns = omega (arith, inside, long) in adds_down column le ((all.each column le).each count below) })

pub weighing_all : (rows : Rows) (y : ℕ → ℤ) (count : ℕ) (weights : List ℤ) → IsWeighing rows y count weights → count ≡ length rows.lines → (WeighsWithin rows y) × (weights ≡ weights_of rows y (length rows.lines))
weighing_all rows y count weights h all = (
  record { each = λ column le. subst (SumsWithin y (λ line. entry rows line column)) all (h.within column le) },
  h.is ∙ ap (weights_of rows y) all,
)
