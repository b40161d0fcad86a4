-- One turn of the search, and its end.
use Rattle.std.proofs.Common.{◌≡◌, ◌≢◌, ℕ, zero, suc, ◌+◌, ◌<◌, ◌≤◌, nat_lt, Bool, true, false, if◌then◌else◌, List, length, slice_index, sym, ◌∙◌, ap, subst, inl, inr, arith, length-set, not-le_of_lt, le_trans}
use Rattle.std.proofs.lemmas.Bool.{cases_eq, cases_lt}
use Rattle.sums.specs.Below.{count_below}
use Rattle.sums.proofs.OneChanged.{count_below-fewer}
use Rattle.sums.proofs.Places.{length-list_below}
use Rattle.sums.proofs.Sums.{count_below-le}
use Rattle.plan_rotations.specs.best_matching.Worths.{AreWorths}
use Rattle.plan_rotations.specs.best_matching.Drafts.{HasDuals, IsMatched, IsPairing, column_dual, column_of, row_dual, row_of}
use Rattle.plan_rotations.specs.best_matching.Trees.{HasGaps, HasSize, HasTurns, IsRowSearch, IsStem, IsTreeGrown, IsTreeRelaxed, IsWidened, gap_at, is_in_tree, is_reached, turn_of_column}
use Rattle.plan_rotations.specs.declared.best_matching.matching.TheConstants.{MAX_WORTH}
use Rattle.plan_rotations.specs.declared.best_matching.draft.Draft.{Draft}
use Rattle.plan_rotations.specs.declared.best_matching.tree.Tree.{Tree}
use Rattle.plan_rotations.proofs.best_matching.Relaxing.{relaxed_gaps, relaxed_stem}
use Rattle.plan_rotations.proofs.best_matching.Widening.{enough, room, widened_duals, widened_matched, widened_pairing}
use Rattle.plan_rotations.proofs.best_matching.WideningSteps.{AreNumbers, in_or_out, numbers_after, reached_or_not}
use Rattle.plan_rotations.proofs.best_matching.WideningTree.{stem_matched, widened_gaps, widened_stem}

-- where a number below the bound doesn't pass, fewer do than there are
count_below-missing : (p : ℕ → Bool) (n k : ℕ) → k < n → p k ≡ false → count_below p n < n
count_below-missing p zero k lt fails = absurd (omega arith)
count_below-missing p (suc n) k lt fails = elim (cases_lt k n) [
  | inl before ↦ more (p n) (count_below p n) n (count_below-missing p n k before fails)
  | inr after ↦ let same : k ≡ n = omega arith in none (p n) (count_below p n) n (subst (λ i. p i ≡ false) same fails) (count_below-le p n)
]
  where
    more : (b : Bool) (count n : ℕ) → count < n → count + (if b then 1 else 0) < suc n
    more true count n lt = omega arith
    more false count n lt = omega arith

    none : (b : Bool) (count n : ℕ) → b ≡ false → count ≤ n → count + (if b then 1 else 0) < suc n
    none true count n e le = cc
    none false count n e le = omega arith

is_not : {P : Type 0} (b : Bool) → b ≡ true → b ≡ false → P
is_not b e f = cc

-- not all columns can have joined
pub search_ends : (worths : List (List ℕ)) (draft : Draft) (tree : Tree) (root turn : ℕ) → IsRowSearch worths draft tree root turn → root < length worths → length worths ≤ turn → ⊥
search_ends worths draft tree root turn s root_lt all =
    let column_lt = s.pairing.column_within root root_lt in
    let out = s.stem.outside root root_lt (omega arith) (omega arith) in
    elim (in_or_out (length worths) (column_of draft root) tree s.size) [
      | inl is ↦ not-le_of_lt is.1 out
      | inr not ↦ clash _ _ _ (count_below-missing (is_in_tree tree.turns) (length worths) (column_of draft root) column_lt not.0) s.turns.count all
    ]
  where
    clash : (count n turn : ℕ) → count < n → count ≡ turn → n ≤ turn → ⊥
    clash count n turn lt e le = omega arith

pub enough_here : (worths : List (List ℕ)) (draft : Draft) (tree : Tree) (root turn : ℕ) → IsRowSearch worths draft tree root turn → root < length worths
    → (row : ℕ) → row < length draft.columns → is_reached draft.columns tree.turns root row ≡ true → gap_at tree (column_of draft root) ≤ row_dual draft row
enough_here worths draft tree root turn s root_lt row lt reached = elim (reached_or_not (length worths) root row draft tree s.size) [
  | inl is ↦ enough worths draft tree root turn s root_lt row (subst (λ n. row < n) s.pairing.columns lt) is.1
  | inr not ↦ is_not _ reached not.0
]

pub room_here : (worths : List (List ℕ)) (draft : Draft) (tree : Tree) (root turn : ℕ) → AreWorths worths → IsRowSearch worths draft tree root turn → root < length worths
    → (column : ℕ) → column < length draft.columns → is_in_tree tree.turns column ≡ true → column_dual draft column + gap_at tree (column_of draft root) ≤ MAX_WORTH
room_here worths draft tree root turn w s root_lt column lt joined = elim (in_or_out (length worths) column tree s.size) [
  | inl is ↦ room worths draft tree root turn w s root_lt column (subst (λ n. column < n) s.pairing.columns lt) is.1
  | inr not ↦ is_not _ joined not.0
]

-- what holds once the next column has joined, whose row is the tip
pub record IsAfter (worths : List (List ℕ)) (draft : Draft) (tree : Tree) (root turn tip : ℕ) : Type 0 where
  pub pairing : IsPairing (length worths) draft
  pub duals : HasDuals worths draft
  pub matched : IsMatched worths draft root (length worths)
  pub size : HasSize (length worths) tree
  pub stem : IsStem worths draft tree root tip
  pub gaps : HasGaps worths draft tree root tip
  pub turns : HasTurns (length worths) tree (turn + 1)
  pub tip_within : tip < length worths
  pub tip_joined : turn_of_column tree (column_of draft tip) < length worths

turns_after : (size : ℕ) (tree wider : Tree) (turn next : ℕ) → HasSize size tree → HasTurns size tree turn → next < size → size ≤ turn_of_column tree next → turn < size
    → turn_of_column wider next ≡ turn → ((column : ℕ) → column ≢ next → turn_of_column wider column ≡ turn_of_column tree column) → HasSize size wider → HasTurns size wider (turn + 1)
turns_after size tree wider turn next sizes t next_lt next_out turn_lt joins others wide = record {
  earlier = λ column lt joined. elim (cases_eq column next) [
    | inl same ↦ below _ _ (ap (turn_of_column wider) same ∙ joins)
    | inr other ↦ more _ _ _ (others column other) (t.earlier column lt (subst (λ k. k < size) (others column other) joined))
  ];
  count = count_below-fewer (is_in_tree wider.turns) (is_in_tree tree.turns) size next next_lt
      (elim (in_or_out size next wider wide) [ inl is ↦ is.0 | inr not ↦ absurd (apart _ _ _ joins not.1 turn_lt) ])
      (elim (in_or_out size next tree sizes) [ inl is ↦ absurd (not-le_of_lt is.1 next_out) | inr not ↦ not.0 ])
      (λ column lt other. same_test _ _ _ _ (others column other) (wide.turns ∙ sym sizes.turns))
      ∙ ap (λ n. n + 1) t.count;
}
  where
    below : (a turn : ℕ) → a ≡ turn → a < turn + 1
    below a turn e = omega arith

    more : (a b turn : ℕ) → a ≡ b → b < turn → a < turn + 1
    more a b turn e lt = omega arith

    apart : (a b n : ℕ) → a ≡ b → n ≤ a → b < n → ⊥
    apart a b n e ge lt = omega arith

    same_test : (a b m n : ℕ) → a ≡ b → m ≡ n → nat_lt a m ≡ nat_lt b n
    same_test a b m n e f = rw (e, f)

pub one_turn : (worths : List (List ℕ)) (old new : Draft) (tree wider : Tree) (root turn next : ℕ) → AreWorths worths → IsRowSearch worths old tree root turn → root < length worths
    → turn < length worths → next < length old.columns → length old.columns ≤ turn_of_column tree next
    → ((column : ℕ) → column < length old.columns → length old.columns ≤ turn_of_column tree column → gap_at tree next ≤ gap_at tree column)
    → IsWidened (length old.columns) old new tree wider root turn next → IsAfter worths new wider root turn (row_of new next)
one_turn worths old new tree wider root turn next w s root_lt turn_lt next_within next_outside nearest widened = record {
  pairing = pairing;
  duals = widened_duals worths old new tree wider root turn next w s root_lt least a;
  matched = widened_matched worths old new tree wider root turn next s root_lt a;
  size = wide;
  stem = subst (IsStem worths new wider root) (sym (a.row_of next)) (widened_stem worths old new tree wider root turn next s root_lt next_lt next_out turn_lt a);
  gaps = subst (HasGaps worths new wider root) (sym (a.row_of next)) (widened_gaps worths old new tree wider root turn next s root_lt next_lt next_out turn_lt a);
  turns = turns_after (length worths) tree wider turn next s.size s.turns next_lt next_out turn_lt a.joins a.others wide;
  tip_within = pairing.row_within next next_lt;
  tip_joined = subst (λ k. turn_of_column wider k < length worths) (sym (pairing.column_again next next_lt)) (subst (λ k. k < length worths) (sym a.joins) turn_lt);
}
  where
    here : IsWidened (length worths) old new tree wider root turn next
    here = subst (λ n. IsWidened n old new tree wider root turn next) s.pairing.columns widened

    next_lt : next < length worths
    next_lt = subst (λ n. next < n) s.pairing.columns next_within

    next_out : length worths ≤ turn_of_column tree next
    next_out = subst (λ n. n ≤ turn_of_column tree next) s.pairing.columns next_outside

    least : (column : ℕ) → column < length worths → length worths ≤ turn_of_column tree column → gap_at tree next ≤ gap_at tree column
    least = subst (λ n. (column : ℕ) → column < n → n ≤ turn_of_column tree column → gap_at tree next ≤ gap_at tree column) s.pairing.columns nearest

    pairing : IsPairing (length worths) new
    pairing = widened_pairing (length worths) old new tree wider root turn next 0 s.pairing
        (ap length here.row_duals ∙ length-list_below _ (length worths)) (ap length here.column_duals ∙ length-list_below _ (length worths)) here.columns here.rows

    wide : HasSize (length worths) wider
    wide = record {
      gaps = ap length here.gaps ∙ length-list_below _ (length worths);
      from = ap length here.from ∙ s.size.from;
      turns = ap length here.turns ∙ length-set tree.turns next turn ∙ s.size.turns;
    }

    a : AreNumbers (length worths) old new tree wider root turn next (gap_at tree next)
    a = numbers_after (length worths) old new tree wider root turn next s.size next_lt
        (λ row lt reached. le_trans
        (least (column_of old root) (s.pairing.column_within root root_lt) (s.stem.outside root root_lt (omega arith) (omega arith)))
        (enough worths old tree root turn s root_lt row lt reached))
        least here

pub grown_after : (worths : List (List ℕ)) (draft : Draft) (tree : Tree) (root turn tip : ℕ) → IsAfter worths draft tree root turn tip → root ≤ tip → IsTreeGrown worths draft tree root tip
grown_after worths draft tree root turn tip a free = record {
  pairing = a.pairing;
  duals = a.duals;
  matched = a.matched;
  size = a.size;
  stem = a.stem;
  free_within = a.tip_within;
  free_after = free;
  joined = a.tip_joined;
}

pub search_after : (worths : List (List ℕ)) (draft : Draft) (tree relaxed : Tree) (root turn tip : ℕ) → IsAfter worths draft tree root turn tip → tip < root
    → IsTreeRelaxed worths draft tree relaxed tip → IsRowSearch worths draft relaxed root (turn + 1)
search_after worths draft tree relaxed root turn tip a before r = record {
  pairing = a.pairing;
  duals = a.duals;
  matched = a.matched;
  size = r.size;
  stem = relaxed_stem worths draft tree relaxed root (length worths) tip (stem_matched worths draft tree root tip a.stem before) a.tip_within r;
  gaps = relaxed_gaps worths draft tree relaxed root tip a.gaps a.tip_within a.tip_joined r;
  turns = record {
    earlier = λ column lt joined. subst (λ k. k < turn + 1) (sym (ap (λ xs. slice_index xs column) r.turns))
        (a.turns.earlier column lt (subst (λ k. k < length worths) (ap (λ xs. slice_index xs column) r.turns) joined));
    count = ap (λ xs. count_below (is_in_tree xs) (length worths)) r.turns ∙ a.turns.count;
  };
}
