-- The tree that has nothing but its root.
use Rattle.std.proofs.Common.{◌≡◌, ℕ, ◌+◌, ◌<◌, ◌≤◌, List, length, slice_index, sym, ◌∙◌, ap, subst, inl, inr, arith, not-le_of_lt}
use Rattle.sums.specs.Places.{list_below}
use Rattle.sums.proofs.Places.{get_or-list_below, length-list_below}
use Rattle.sums.proofs.Counts.{count_below-none}
use Rattle.plan_rotations.specs.best_matching.Worths.{worth_at}
use Rattle.plan_rotations.specs.best_matching.Drafts.{HasDuals, IsMatched, IsPairing, column_dual, column_of, row_dual}
use Rattle.plan_rotations.specs.best_matching.Trees.{HasSize, IsRowSearch, from_at, gap_at, is_in_tree, turn_of_column}
use Rattle.plan_rotations.specs.declared.best_matching.draft.Draft.{Draft}
use Rattle.plan_rotations.specs.declared.best_matching.tree.Tree.{Tree}
use Rattle.plan_rotations.proofs.best_matching.WideningSteps.{in_or_out}

pub planted : (worths : List (List ℕ)) (draft : Draft) (tree : Tree) (root : ℕ) → IsPairing (length worths) draft → HasDuals worths draft
    → IsMatched worths draft root (length worths) → root < length worths → length tree.gaps ≡ length worths
    → ((column : ℕ) → column < length worths → gap_at tree column + worth_at worths root column ≡ row_dual draft root + column_dual draft column)
    → tree.from ≡ list_below (λ _. root) (length worths) → tree.turns ≡ list_below (λ _. length worths) (length worths) → IsRowSearch worths draft tree root 0
planted worths draft tree root pairing duals matched root_lt gaps gap from turns = record {
  pairing = pairing;
  duals = duals;
  matched = matched;
  size = size;
  stem = record {
    within = λ column lt. subst (λ k. k < length worths) (sym (from_root column lt)) root_lt;
    meet = λ column lt joined. absurd (outside column lt joined);
    before = λ column lt joined. absurd (outside column lt joined);
    outside = λ row lt _ _. out (column_of draft row) (pairing.column_within row lt);
  };
  gaps = record {
    least_root = λ column lt _. at_most _ _ (gap column lt);
    least = λ row column row_lt lt _ joined _. absurd (outside (column_of draft row) (pairing.column_within row row_lt) joined);
    met = λ column lt _. subst (λ k. gap_at tree column + worth_at worths k column ≡ row_dual draft k + column_dual draft column) (sym (from_root column lt)) (gap column lt);
    reached = λ column lt _. inl (from_root column lt);
  };
  turns = record {
    earlier = λ column lt joined. absurd (outside column lt joined);
    count = count_below-none (is_in_tree tree.turns) (length worths) (λ column lt. elim (in_or_out (length worths) column tree size) [
      | inl is ↦ absurd (outside column lt is.1)
      | inr not ↦ not.0
    ]);
  };
}
  where
    size : HasSize (length worths) tree
    size = record {
      gaps = gaps;
      from = ap length from ∙ length-list_below (λ _. root) (length worths);
      turns = ap length turns ∙ length-list_below (λ _. length worths) (length worths);
    }

    from_root : (column : ℕ) → column < length worths → from_at tree column ≡ root
    from_root column lt = ap (λ xs. slice_index xs column) from ∙ get_or-list_below (λ _. root) (length worths) column 0 lt

    turn_is : (column : ℕ) → column < length worths → turn_of_column tree column ≡ length worths
    turn_is column lt = ap (λ xs. slice_index xs column) turns ∙ get_or-list_below (λ _. length worths) (length worths) column 0 lt

    at_most : (a b : ℕ) → a ≡ b → a ≤ b
    at_most a b e = omega arith

    out : (column : ℕ) → column < length worths → length worths ≤ turn_of_column tree column
    out column lt = at_most _ _ (sym (turn_is column lt))

    outside : (column : ℕ) → column < length worths → turn_of_column tree column < length worths → ⊥
    outside column lt joined = not-le_of_lt joined (out column lt)
