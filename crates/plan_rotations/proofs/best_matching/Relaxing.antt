-- What relaxing the gaps from a newly reached row keeps.
use Rattle.std.proofs.Common.{◌≡◌, ℕ, ◌+◌, ◌<◌, ◌≤◌, ◌⊎◌, List, length, slice_index, sym, ap, subst, inl, inr, arith}
use Rattle.std.proofs.lemmas.Bool.{cases_eq}
use Rattle.sums.proofs.Naturals.{less_alike}
use Rattle.plan_rotations.specs.best_matching.Worths.{worth_at}
use Rattle.plan_rotations.specs.best_matching.Drafts.{column_dual, column_of, row_dual}
use Rattle.plan_rotations.specs.best_matching.Trees.{HasGaps, IsStem, IsTreeRelaxed, gap_at, turn_of_column}
use Rattle.plan_rotations.specs.declared.best_matching.draft.Draft.{Draft}
use Rattle.plan_rotations.specs.declared.best_matching.tree.Tree.{Tree}

pub relaxed_stem : (worths : List (List ℕ)) (draft : Draft) (tree relaxed : Tree) (root free tip : ℕ) → IsStem worths draft tree root free → tip < length worths
    → IsTreeRelaxed worths draft tree relaxed tip → IsStem worths draft relaxed root free
relaxed_stem worths draft tree relaxed root free tip s tip_lt r = record {
  within = λ column lt. elim (r.either column lt) [
    | inl same ↦ subst (λ k. k < length worths) (sym same.1) (s.within column lt)
    | inr new ↦ subst (λ k. k < length worths) (sym new.1) tip_lt
  ];
  meet = λ column lt joined.
      let joined_before = was column joined in
      subst (λ k. row_dual draft k + column_dual draft column ≡ worth_at worths k column) (sym (r.kept column lt joined_before)) (s.meet column lt joined_before);
  before = λ column lt joined.
      let joined_before = was column joined in
      subst (λ k. (k ≡ root) ⊎ (turn_of_column relaxed (column_of draft k) < turn_of_column relaxed column)) (sym (r.kept column lt joined_before))
      (elim (s.before column lt joined_before) [
        | inl is_root ↦ inl is_root
        | inr less ↦ inr (less_alike _ _ _ _ (turn _) (turn column) less)
      ]);
  outside = λ row lt after other. subst (λ k. length worths ≤ k) (sym (turn (column_of draft row))) (s.outside row lt after other);
}
  where
    turn : (column : ℕ) → turn_of_column relaxed column ≡ turn_of_column tree column
    turn column = ap (λ xs. slice_index xs column) r.turns

    was : (column : ℕ) → turn_of_column relaxed column < length worths → turn_of_column tree column < length worths
    was column joined = subst (λ k. k < length worths) (turn column) joined

pub relaxed_gaps : (worths : List (List ℕ)) (draft : Draft) (tree relaxed : Tree) (root tip : ℕ) → HasGaps worths draft tree root tip → tip < length worths
    → turn_of_column tree (column_of draft tip) < length worths → IsTreeRelaxed worths draft tree relaxed tip → HasGaps worths draft relaxed root (length worths)
relaxed_gaps worths draft tree relaxed root tip g tip_lt tip_in r = record {
  least_root = λ column lt out. no_more _ _ _ _ (r.less column lt) (g.least_root column lt (was column out));
  least = λ row column row_lt lt _ joined out. elim (cases_eq row tip) [
    | inl same ↦ subst (λ k. gap_at relaxed column + worth_at worths k column ≤ row_dual draft k + column_dual draft column) (sym same) (r.reach column lt (was column out))
    | inr other ↦ no_more _ _ _ _ (r.less column lt) (g.least row column row_lt lt other (subst (λ k. k < length worths) (turn (column_of draft row)) joined) (was column out))
  ];
  met = λ column lt out. elim (r.either column lt) [
    | inl same ↦
        subst (λ k. gap_at relaxed column + worth_at worths k column ≡ row_dual draft k + column_dual draft column) (sym same.1)
        (equal _ _ _ _ same.0 (g.met column lt (was column out)))
    | inr new ↦ subst (λ k. gap_at relaxed column + worth_at worths k column ≡ row_dual draft k + column_dual draft column) (sym new.1) new.0
  ];
  reached = λ column lt out. elim (r.either column lt) [
    | inl same ↦ subst (λ k. (k ≡ root) ⊎ (turn_of_column relaxed (column_of draft k) < length worths)) (sym same.1)
        (elim (g.reached column lt (was column out)) [ inl is_root ↦ inl is_root | inr joined ↦ inr (subst (λ k. k < length worths) (sym (turn _)) joined) ])
    | inr new ↦ subst (λ k. (k ≡ root) ⊎ (turn_of_column relaxed (column_of draft k) < length worths)) (sym new.1) (inr (subst (λ k. k < length worths) (sym (turn _)) tip_in))
  ];
}
  where
    turn : (column : ℕ) → turn_of_column relaxed column ≡ turn_of_column tree column
    turn column = ap (λ xs. slice_index xs column) r.turns

    was : (column : ℕ) → length worths ≤ turn_of_column relaxed column → length worths ≤ turn_of_column tree column
    was column out = subst (λ k. length worths ≤ k) (turn column) out

    no_more : (gap gap' worth duals : ℕ) → gap' ≤ gap → gap + worth ≤ duals → gap' + worth ≤ duals
    no_more gap gap' worth duals less le = omega arith

    equal : (gap gap' worth duals : ℕ) → gap' ≡ gap → gap + worth ≡ duals → gap' + worth ≡ duals
    equal gap gap' worth duals same e = omega arith
