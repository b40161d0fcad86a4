-- What the tests of a check come to.
use Rattle.std.proofs.Common.{◌≡◌, ℕ, suc, ◌+◌, ◌<◌, ◌≤◌, Bool, true, false, cond, ltb, MatchBool, IsTrue, ℤ, pos, ◌+ℤ◌, ◌*ℤ◌, ◌<ℤ◌, ◌≤ℤ◌, List, length, All, refl, sym, ◌∙◌, ap, subst, arith, inl, inr}
use Rattle.std.specs.Prelude.{neg_ℤ, ◌↔◌}
use Rattle.std.proofs.lemmas.Bool.{cases_lt}
use Rattle.std.proofs.lemmas.Bool.Decides.{nat_tests}
use Rattle.std.proofs.lemmas.Int.{ints}
use Rattle.std.proofs.lemmas.List.{get_or_default, get_or_past}
use lib.IntN.{zero-*ℤ}
use Rattle.sums.specs.Below.{sum_below_ℤ}
use Rattle.sums.proofs.Integers.{one-*ℤ, *ℤ-neg_ℤ}
use Rattle.sums.proofs.Tests.{unlike}
use Rattle.sums.proofs.WholeSums.{sum_below_ℤ-same}
use Rattle.frac_row.specs.Outgrown.{IsWithin}
use Rattle.row_store.specs.DualValues.{weighed}
use Rattle.row_store.specs.Problem.{MeetsRows, entry, IsProblem}
use Rattle.row_store.specs.declared.problem.Rows.{Rows}
use Rattle.simplex_frac.specs.end_check.Ends.{AreByLine, IsPricedEnd, IsRefusedEnd, part_in, value_in}
use Rattle.simplex_frac.specs.end_check.Shown.{CostsTheWeight, HasShape, ShowsEnd, ShowsRefusal}
use Rattle.simplex_frac.specs.end_check.Sums.{IsCheckable, MeetsLine, SumsWithin, share_in, weights_of}
use Rattle.simplex_frac.specs.declared.end_check.hint.PointHint.{PointHint}
use Rattle.simplex_frac.specs.declared.end_check.hint.RefusalHint.{RefusalHint}
use Rattle.simplex_frac.proofs.end_check.Weights.{weight_is}

-- ---- a test, as a proposition
pub told : {P : Type 0} (r : Bool) → MatchBool r P (¬ P) → IsTrue r → P
told true is t = is
told false is t = absurd (unlike (sym t))

pub found : {P : Type 0} (r : Bool) → MatchBool r P (¬ P) → P → IsTrue r
found true is p = refl
found false is p = absurd (is p)

-- ---- one number for each line
pub by_line : (rows : Rows) (values : List ℤ) (r : Bool) → length values ≡ length rows.lines → (IsTrue r ↔ All IsWithin values) → MatchBool r (AreByLine rows values) (¬ (AreByLine rows values))
by_line rows values true long is = record {
  long = long;
  within = λ line. elim (cases_lt line (length values)) [
    | inl below ↦ is.0 refl line (pos 0) below
    | inr past ↦ subst IsWithin (sym (get_or_past values line (pos 0) past)) (omega arith)
  ];
}
by_line rows values false long is = λ by. unlike (sym (is.1 (λ k d below. subst IsWithin (get_or_default values k (pos 0) d below) (by.within k))))

-- ---- shares
when_lt : (m n : ℕ) (x y : ℤ) → m < n → cond (ltb m n) x y ≡ x
when_lt m n x y h = grind (arith, nat_tests)

when_ge : (m n : ℕ) (x y : ℤ) → n ≤ m → cond (ltb m n) x y ≡ y
when_ge m n x y h = grind (arith, nat_tests)

pub share_of_column : (point : List ℕ) (scale column : ℕ) → column < length point → share_in point scale column ≡ pos (part_in point column)
unfolding share_in
share_of_column point scale column below = when_lt column (length point) _ _ below

pub share_of_side : (point : List ℕ) (scale column : ℕ) → length point ≤ column → share_in point scale column ≡ neg_ℤ (pos scale)
unfolding share_in
share_of_side point scale column past = when_ge column (length point) _ _ past

-- ---- the cost
pub costs_by : (costs : List ℤ) (hint : PointHint) (point : List ℕ) (weight cost : ℤ) (r : Bool) → point ≡ hint.point → (SumsWithin (value_in costs) (λ column. pos (part_in point column)) (length costs))
    × (cost ≡ sum_below_ℤ (λ column. value_in costs column *ℤ pos (part_in point column)) (length costs))
    → MatchBool r (cost *ℤ hint.dual_scale ≡ weight *ℤ pos hint.scale) (¬ (cost *ℤ hint.dual_scale ≡ weight *ℤ pos hint.scale))
    → MatchBool r (CostsTheWeight costs hint weight) (¬ (CostsTheWeight costs hint weight))
costs_by costs hint point weight cost r here summed same = by_result r same
  where
    facts : (SumsWithin (value_in costs) (λ column. pos (part_in hint.point column)) (length costs)) × (cost ≡ sum_below_ℤ (λ column. value_in costs column *ℤ pos (part_in hint.point column)) (length costs))
    facts = subst (λ p. (SumsWithin (value_in costs) (λ column. pos (part_in p column)) (length costs)) × (cost ≡ sum_below_ℤ (λ column. value_in costs column *ℤ pos (part_in p column)) (length costs))) here summed

    by_result : (r : Bool) → MatchBool r (cost *ℤ hint.dual_scale ≡ weight *ℤ pos hint.scale) (¬ (cost *ℤ hint.dual_scale ≡ weight *ℤ pos hint.scale)) → MatchBool r (CostsTheWeight costs hint weight) (¬ (CostsTheWeight costs hint weight))
    by_result true same = record { within = facts.0; same = ap (λ z. z *ℤ hint.dual_scale) (sym facts.1) ∙ same }
    by_result false other = λ costs_so. other (ap (λ z. z *ℤ hint.dual_scale) facts.1 ∙ costs_so.same)

pub costs_nothing : (costs : List ℤ) (hint : PointHint) (point : List ℕ) (weight : ℤ) → point ≡ hint.point → ¬ (SumsWithin (value_in costs) (λ column. pos (part_in point column)) (length costs)) → ¬ (CostsTheWeight costs hint weight)
costs_nothing costs hint point weight here fails costs_so = fails (subst (λ p. SumsWithin (value_in costs) (λ column. pos (part_in p column)) (length costs)) (sym here) costs_so.within)

-- ---- a line
module _ (rows : Rows) (problem : IsProblem rows) (point : List ℕ) (long : length point ≡ rows.columns) (scale : ℕ) where
  -- a line at the point, less its right side
  pub surplus_is : (line : ℕ) → sum_below_ℤ (λ column. entry rows line column *ℤ share_in point scale column) (rows.columns + 1) ≡ sum_below_ℤ (λ c. entry rows line c *ℤ pos (part_in point c)) rows.columns +ℤ neg_ℤ (entry rows line rows.columns *ℤ pos scale)
  surplus_is line =
      ap (sum_below_ℤ (λ column. entry rows line column *ℤ share_in point scale column)) (one_more rows.columns)
      ∙ ap (λ z. z +ℤ (entry rows line rows.columns *ℤ share_in point scale rows.columns)) (sum_below_ℤ-same _ _ rows.columns (λ c below. ap (λ z. entry rows line c *ℤ z) (share_of_column point scale c (omega (arith, below, long)))))
      ∙ ap (λ z. sum_below_ℤ (λ c. entry rows line c *ℤ pos (part_in point c)) rows.columns +ℤ z) (ap (λ z. entry rows line rows.columns *ℤ z) (share_of_side point scale rows.columns (omega (arith, long))) ∙ *ℤ-neg_ℤ (entry rows line rows.columns) (pos scale))
    where
      one_more : (n : ℕ) → n + 1 ≡ suc n
      one_more n = omega arith

  pub lines_meet : ((line : ℕ) → line < length rows.lines → MeetsLine rows point scale line) → MeetsRows rows scale (part_in point)
  lines_meet all = record { each = λ line below. no_more _ _ (sym (surplus_is line) ∙ (all line below).nothing) }
    where
      no_more : (a b : ℤ) → a +ℤ neg_ℤ b ≡ pos 0 → a ≡ b
      no_more a b e = omega (arith, ints)

  pub meets_each : MeetsRows rows scale (part_in point) → ((line : ℕ) → line < length rows.lines → SumsWithin (entry rows line) (share_in point scale) (rows.columns + 1)) → (line : ℕ) → line < length rows.lines → MeetsLine rows point scale line
  meets_each meets within line below = record { within = within line below; nothing = surplus_is line ∙ nothing _ _ (meets.each line below) }
    where
      nothing : (a b : ℤ) → a ≡ b → a +ℤ neg_ℤ b ≡ pos 0
      nothing a b e = omega (arith, ints)

-- ---- an end
module _ (rows : Rows) (problem : IsProblem rows) (hint : PointHint) (weights : List ℤ) (is : weights ≡ weights_of rows (value_in hint.duals) (length rows.lines)) where
  weight_there : (column : ℕ) → column ≤ rows.columns → value_in weights column ≡ weighed rows (value_in hint.duals) column
  weight_there column le = ap (λ ws. value_in ws column) is ∙ weight_is rows (value_in hint.duals) (length rows.lines) column le

  once : (s c : ℤ) → s *ℤ c ≡ (pos 1 *ℤ s) *ℤ c
  once s c = ap (λ z. z *ℤ c) (sym (one-*ℤ s))

  pub shown_end : HasShape rows hint → ShowsEnd rows hint weights → IsPricedEnd rows hint
  shown_end shape shows = record {
    duals = shape.duals;
    values = record {
      some = shape.dual_scale;
      under = λ column below. subst (λ z. z ≤ℤ ((pos 1 *ℤ hint.dual_scale) *ℤ value_in rows.costs column)) (weight_there column (omega (arith, below))) (subst (λ z. value_in weights column ≤ℤ z) (once hint.dual_scale (value_in rows.costs column)) (shows.under column (omega (arith, below, problem.costs))));
    };
    long = shape.long;
    some = shape.some;
    meets = lines_meet rows problem hint.point shape.long hint.scale shows.meets;
    same = subst (λ n. sum_below_ℤ (λ c. value_in rows.costs c *ℤ pos (part_in hint.point c)) n *ℤ hint.dual_scale ≡ weighed rows (value_in hint.duals) rows.columns *ℤ pos hint.scale) problem.costs (shows.cost.same ∙ ap (λ z. z *ℤ pos hint.scale) (weight_there rows.columns (omega arith)));
  }

  pub end_shows : IsPricedEnd rows hint → IsCheckable rows hint → ShowsEnd rows hint weights
  end_shows end within = record {
    under = λ column below.
        let inside : column < rows.columns = omega (arith, below, problem.costs) in
        subst (λ z. value_in weights column ≤ℤ z) (sym (once hint.dual_scale (value_in rows.costs column))) (subst (λ z. z ≤ℤ ((pos 1 *ℤ hint.dual_scale) *ℤ value_in rows.costs column)) (sym (weight_there column (omega (arith, inside)))) (end.values.under column inside));
    meets = meets_each rows problem hint.point end.long hint.scale end.meets within.lines;
    cost = record {
      within = subst (SumsWithin (value_in rows.costs) (λ column. pos (part_in hint.point column))) (sym problem.costs) within.cost;
      same = subst (λ n. sum_below_ℤ (λ c. value_in rows.costs c *ℤ pos (part_in hint.point c)) n *ℤ hint.dual_scale ≡ value_in weights rows.columns *ℤ pos hint.scale) (sym problem.costs) (end.same ∙ ap (λ z. z *ℤ pos hint.scale) (sym (weight_there rows.columns (omega arith))));
    };
  }

-- ---- a refusal
module _ (rows : Rows) (hint : RefusalHint) (weights : List ℤ) (is : weights ≡ weights_of rows (value_in hint.multipliers) (length rows.lines)) where
  weight_of : (column : ℕ) → column ≤ rows.columns → value_in weights column ≡ weighed rows (value_in hint.multipliers) column
  weight_of column le = ap (λ ws. value_in ws column) is ∙ weight_is rows (value_in hint.multipliers) (length rows.lines) column le

  nothing : (c : ℤ) → (pos 0 *ℤ pos 1) *ℤ c ≡ pos 0
  nothing c = ap (λ z. z *ℤ c) (zero-*ℤ (pos 1)) ∙ zero-*ℤ c

  pub shown_refusal : AreByLine rows hint.multipliers → ShowsRefusal rows.columns weights → IsRefusedEnd rows hint
  shown_refusal by shows = record {
    multipliers = by;
    values = record {
      some = one_above;
      under = λ column below. subst (λ z. z ≤ℤ ((pos 0 *ℤ pos 1) *ℤ value_in rows.costs column)) (weight_of column (omega (arith, below))) (subst (λ z. value_in weights column ≤ℤ z) (sym (nothing (value_in rows.costs column))) (shows.none column below));
    };
    more = record { sides = subst (λ z. pos 0 <ℤ z) (weight_of rows.columns (omega arith)) shows.more };
  }
    where
      one_above : pos 0 <ℤ pos 1
      one_above = omega (arith, ints)

  pub refusal_shows : IsRefusedEnd rows hint → ShowsRefusal rows.columns weights
  refusal_shows end = record {
    more = subst (λ z. pos 0 <ℤ z) (sym (weight_of rows.columns (omega arith))) end.more.sides;
    none = λ column below. subst (λ z. z ≤ℤ pos 0) (sym (weight_of column (omega (arith, below)))) (subst (λ z. weighed rows (value_in hint.multipliers) column ≤ℤ z) (nothing (value_in rows.costs column)) (end.values.under column below));
  }
