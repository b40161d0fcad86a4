-- The way back through the tree.
use Rattle.std.proofs.Common.{◌≡◌, ◌≢◌, ℕ, ◌<◌, ◌≤◌, sym, ◌∙◌, ap, subst, inl, inr, arith, lt_trans}
use Rattle.std.proofs.lemmas.Bool.{cases_eq}
use Rattle.sums.proofs.Naturals.{past_is_other}
use Rattle.plan_rotations.specs.best_matching.Drafts.{IsPairing, column_of}
use Rattle.plan_rotations.specs.best_matching.Trees.{IsOnTree, IsTurned, IsWay, from_at, turn_of_column}
use Rattle.plan_rotations.specs.declared.best_matching.draft.Draft.{Draft}
use Rattle.plan_rotations.specs.declared.best_matching.tree.Tree.{Tree}
use Rattle.plan_rotations.proofs.best_matching.Exchanging.{HaveExchanged}

-- an exchange with the row that the column was reached from
pub turned_more : (size : ℕ) (old now new : Draft) (tree : Tree) (root free before : ℕ) → IsTurned size old now tree free → IsWay size now tree root free
    → before ≡ from_at tree (column_of now free) → HaveExchanged size now new free before → IsTurned size old new tree free
turned_more size old now new tree root free before turned way from e = record {
  each = λ row lt other. elim (cases_eq row before) [
    | inl same ↦ inr (subst (λ k. IsOnTree size new tree k) (sym same) (on_tree_after size now new tree root free before way from e))
    | inr ne ↦
        let kept : column_of new row ≡ column_of now row = e.others row other ne in
        elim (turned.each row lt other) [
          | inl was ↦ inl (kept ∙ was)
          | inr on ↦ inr (record {
            joined = subst (λ k. turn_of_column tree k < size) (sym kept) on.joined;
            from = ap (from_at tree) kept ∙ on.from;
          })
        ]
  ];
}
  where
    on_tree_after : (size : ℕ) (now new : Draft) (tree : Tree) (root free before : ℕ) → IsWay size now tree root free → before ≡ from_at tree (column_of now free)
        → HaveExchanged size now new free before → IsOnTree size new tree before
    on_tree_after size now new tree root free before way from e = record {
      joined = subst (λ k. turn_of_column tree k < size) (sym e.at_other) way.joined;
      from = ap (from_at tree) e.at_other ∙ sym from;
    }

pub root_on_tree : (size : ℕ) (now new : Draft) (tree : Tree) (root free before : ℕ) → IsWay size now tree root free → before ≡ from_at tree (column_of now free)
    → before ≡ root → HaveExchanged size now new free root → IsOnTree size new tree root
root_on_tree size now new tree root free before way from same e = record {
  joined = subst (λ k. turn_of_column tree k < size) (sym e.at_other) way.joined;
  from = ap (from_at tree) e.at_other ∙ sym from ∙ same;
}

-- the row before stands at a column that joined before
pub earlier_column : (size : ℕ) (now : Draft) (tree : Tree) (root free before : ℕ) → IsWay size now tree root free → column_of now free < size
    → before ≡ from_at tree (column_of now free) → before ≢ root → turn_of_column tree (column_of now before) < turn_of_column tree (column_of now free)
earlier_column size now tree root free before way lt from ne = elim (way.before (column_of now free) lt (omega arith)) [
  | inl same ↦ absurd (ne (from ∙ same))
  | inr less ↦ subst (λ k. turn_of_column tree (column_of now k) < turn_of_column tree (column_of now free)) (sym from) less
]

pub way_more : (size : ℕ) (now new : Draft) (tree : Tree) (root free before : ℕ) → IsWay size now tree root free → column_of now free < size
    → before ≡ from_at tree (column_of now free) → before ≢ root → HaveExchanged size now new free before → IsWay size new tree root free
way_more size now new tree root free before way lt from ne e = record {
  within = way.within;
  joined = subst (λ k. turn_of_column tree k < size) (sym e.at_one) (lt_trans less way.joined);
  before = λ column column_lt le.
      let le_before : turn_of_column tree column ≤ turn_of_column tree (column_of now before) = subst (λ k. turn_of_column tree column ≤ turn_of_column tree k) e.at_one le in
      elim (way.before column column_lt (weaken _ _ _ le_before less)) [
        | inl same ↦ inl same
        | inr earlier ↦ inr (subst (λ k. turn_of_column tree k < turn_of_column tree column) (sym (kept column le_before earlier)) earlier)
      ];
}
  where
    less : turn_of_column tree (column_of now before) < turn_of_column tree (column_of now free)
    less = earlier_column size now tree root free before way lt from ne

    weaken : (a b c : ℕ) → a ≤ b → b < c → a ≤ c
    weaken a b c p q = omega arith

    clash_more : (a b c d : ℕ) → a ≤ b → b < d → c < a → d ≡ c → ⊥
    clash_more a b c d p r q e = omega arith

    kept : (column : ℕ) → turn_of_column tree column ≤ turn_of_column tree (column_of now before) → turn_of_column tree (column_of now (from_at tree column)) < turn_of_column tree column
        → column_of new (from_at tree column) ≡ column_of now (from_at tree column)
    kept column le earlier = e.others (from_at tree column)
        (λ same. clash_more _ _ _ _ le less earlier (ap (λ k. turn_of_column tree (column_of now k)) (sym same)))
        (λ same. past_is_other _ _ _ le earlier (ap (λ k. turn_of_column tree (column_of now k)) (sym same)))

pub before_within : (size : ℕ) (now : Draft) (tree : Tree) (root free before : ℕ) → IsPairing size now → IsWay size now tree root free → free < size
    → before ≡ from_at tree (column_of now free) → before < size
before_within size now tree root free before p way free_lt from = subst (λ k. k < size) (sym from) (way.within (column_of now free) (p.column_within free free_lt))
