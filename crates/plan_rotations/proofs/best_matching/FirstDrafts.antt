-- The draft that is made first.
use Rattle.std.proofs.Common.{◌≡◌, ℕ, ◌<◌, ◌≤◌, List, length, slice_index, ◌∙◌, ap, arith}
use Rattle.sums.specs.Places.{list_below}
use Rattle.sums.proofs.Places.{get_or-list_below, length-list_below}
use Rattle.sums.proofs.Naturals.{none_below_0}
use Rattle.plan_rotations.specs.best_matching.Worths.{worth_at}
use Rattle.plan_rotations.specs.best_matching.Drafts.{HasDuals, IsMatched, IsPairing, row_dual}
use Rattle.plan_rotations.specs.declared.best_matching.matching.TheConstants.{MAX_WORTH}
use Rattle.plan_rotations.specs.declared.best_matching.draft.Draft.{Draft}

in_order : (n k : ℕ) (xs : List ℕ) → xs ≡ list_below (λ j. j) n → k < n → slice_index xs k ≡ k
in_order n k xs e lt = ap (λ ys. slice_index ys k) e ∙ get_or-list_below (λ j. j) n k 0 lt

pub first_pairing : (n : ℕ) (draft : Draft) → draft.columns ≡ list_below (λ k. k) n → draft.rows ≡ list_below (λ k. k) n → length draft.row_duals ≡ n
    → draft.column_duals ≡ list_below (λ k. 0) n → IsPairing n draft
first_pairing n draft columns rows row_duals column_duals = record {
  row_duals = row_duals;
  column_duals = ap length column_duals ∙ length-list_below (λ k. 0) n;
  columns = ap length columns ∙ length-list_below (λ k. k) n;
  rows = ap length rows ∙ length-list_below (λ k. k) n;
  column_within = λ k lt. rw (in_order n k draft.columns columns lt) lt;
  row_within = λ k lt. rw (in_order n k draft.rows rows lt) lt;
  row_again = λ k lt. ap (slice_index draft.rows) (in_order n k draft.columns columns lt) ∙ in_order n k draft.rows rows lt;
  column_again = λ k lt. ap (slice_index draft.columns) (in_order n k draft.rows rows lt) ∙ in_order n k draft.columns columns lt;
}

pub first_matched : (worths : List (List ℕ)) (draft : Draft) → draft.columns ≡ list_below (λ k. k) (length worths)
    → draft.column_duals ≡ list_below (λ k. 0) (length worths) → IsMatched worths draft 0 (length worths)
first_matched worths draft columns column_duals = record {
  meet = λ row below. absurd (none_below_0 row below);
  unused = λ row lt _ _. ap (slice_index draft.column_duals) (in_order (length worths) row draft.columns columns lt)
      ∙ ap (λ ys. slice_index ys row) column_duals ∙ get_or-list_below (λ k. 0) (length worths) row 0 lt;
}

pub first_duals : (worths : List (List ℕ)) (draft : Draft) → draft.column_duals ≡ list_below (λ k. 0) (length worths)
    → ((row column : ℕ) → row < length worths → column < length worths → worth_at worths row column ≤ row_dual draft row)
    → ((row : ℕ) → row < length worths → row_dual draft row ≤ MAX_WORTH) → HasDuals worths draft
first_duals worths draft column_duals reach small = record {
  reach = λ row column row_lt column_lt. omega (arith, reach row column row_lt column_lt);
  small = small;
  column_small = λ column lt. omega (arith, ap (λ (ys : List ℕ). slice_index ys column) column_duals, get_or-list_below {X = ℕ} (λ k. 0) (length worths) column 0 lt);
}
