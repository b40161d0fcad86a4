-- The leaving row has the least ratio of right side to entry.
use Rattle.std.proofs.Common.{◌≡◌, ℕ, zero, suc, ◌<◌, Bool, true, false, cond, ◌&&◌, ℤ, pos, ◌*ℤ◌, ◌<ℤ◌, ◌≤ℤ◌, List, Option, Some, None, option_map, int_cmp, refl, sym, ◌∙◌, ap, subst, inl, inr, arith}
use Rattle.std.proofs.lemmas.Int.{ints}
use Rattle.std.proofs.lemmas.Bool.{both_ways, cases_lt}
use Rattle.std.proofs.lemmas.Cmp.{int_ranked}
use Rattle.std.specs.declared.cmp.Ordering.{Ordering}
use Rattle.std.specs.declared.cmp.Ordering.TheVariants.{Less, Equal, Greater}
use lib.IntN.{*ℤ_comm}
use lib.Signed.{≤ℤ_refl}
use Rattle.sums.proofs.Integers.{*ℤ_left_comm}
use Rattle.sums.proofs.Orders.{factor_le}
use Rattle.sums.proofs.Signs.{factor_le_cancel}
use Rattle.sums.proofs.Naturals.{none_below_0}
use Rattle.sums.proofs.Sizes.{above_is_some}
use Rattle.sums.proofs.Tests.{none_some}
use Rattle.frac_row.specs.Ratio.{ratio_cmp}
use Rattle.frac_row.specs.declared.row.FracRow.{FracRow}
use Rattle.row_store.specs.Table.{number_at, height_of, right_side}
use Rattle.row_store.specs.Choice.{is_positive, is_first, goes_first, better, candidate_at, best_below, leaving}
use Rattle.row_store.specs.declared.choice.Candidate.{Candidate}
use Rattle.row_store.proofs.Choices.{IsBest, best_is}
use Rattle.row_store.proofs.SignTests.{positive_is}

-- no line below a bound with a positive entry has a lesser ratio
record IsLeast (table : List FracRow) (column bound : ℕ) (best : Candidate) : Type 0 where
  positive : pos 0 <ℤ best.entry
  least : (line : ℕ) → line < bound → pos 0 <ℤ number_at table line column → (best.right_side *ℤ number_at table line column) ≤ℤ (right_side table line *ℤ best.entry)

abbrev AreBest : List FracRow → ℕ → ℕ → Option Candidate → Type 0
AreBest table column bound None = (line : ℕ) → line < bound → number_at table line column ≤ℤ pos 0
AreBest table column bound (Some best) = IsLeast table column bound best

pub test_other : (z : ℤ) → is_positive z ≡ false → z ≤ℤ pos 0
test_other z h = grind (arith, ints)

-- what goes first has no greater number, what does not no lesser one
first_is_no_more : (o : Ordering) (a b : ℤ) (m n : ℕ) → o ≡ int_cmp a b → is_first o m n ≡ true → a ≤ℤ b
first_is_no_more Less a b m n e t = let lt : a <ℤ b = int_ranked a b Less e in omega (arith, ints)
first_is_no_more Equal a b m n e t = let same : a ≡ b = int_ranked a b Equal e in omega (arith, ints)
first_is_no_more Greater a b m n e t = absurd (both_ways false refl t)

other_is_no_less : (o : Ordering) (a b : ℤ) (m n : ℕ) → o ≡ int_cmp a b → is_first o m n ≡ false → b ≤ℤ a
other_is_no_less Less a b m n e t = absurd (both_ways true t refl)
other_is_no_less Equal a b m n e t = let same : a ≡ b = int_ranked a b Equal e in omega (arith, ints)
other_is_no_less Greater a b m n e t = let lt : b <ℤ a = int_ranked a b Greater e in omega (arith, ints)

pub goes_before : (one other : Candidate) → goes_first one other ≡ true → (one.right_side *ℤ other.entry) ≤ℤ (other.right_side *ℤ one.entry)
unfolding goes_first
goes_before one other t = first_is_no_more (ratio_cmp one.right_side one.entry other.right_side other.entry) _ _ one.basic other.basic refl t

pub goes_after : (one other : Candidate) → goes_first one other ≡ false → (other.right_side *ℤ one.entry) ≤ℤ (one.right_side *ℤ other.entry)
unfolding goes_first
goes_after one other t = other_is_no_less (ratio_cmp one.right_side one.entry other.right_side other.entry) _ _ one.basic other.basic refl t

-- ratios in order: a over p, then b over q, then c over r
ratios_chain : (a p b q c r : ℤ) → pos 0 <ℤ p → pos 0 <ℤ q → pos 0 <ℤ r → (a *ℤ q) ≤ℤ (b *ℤ p) → (b *ℤ r) ≤ℤ (c *ℤ q) → (a *ℤ r) ≤ℤ (c *ℤ p)
ratios_chain a p b q c r hp hq hr ab bc =
    let left : (r *ℤ (a *ℤ q)) ≤ℤ (r *ℤ (b *ℤ p)) = factor_le r (a *ℤ q) (b *ℤ p) (above_is_some r hr) ab in
    let right : (p *ℤ (b *ℤ r)) ≤ℤ (p *ℤ (c *ℤ q)) = factor_le p (b *ℤ r) (c *ℤ q) (above_is_some p hp) bc in
    factor_le_cancel q (a *ℤ r) (c *ℤ p) hq (joined _ _ _ _ _ _ left right (turn r a q ∙ ap (λ x. q *ℤ x) (*ℤ_comm r a)) (turn r b p ∙ ap (λ x. p *ℤ x) (*ℤ_comm r b)) (turn p c q ∙ ap (λ x. q *ℤ x) (*ℤ_comm p c)))
  where
    turn : (x y z : ℤ) → x *ℤ (y *ℤ z) ≡ z *ℤ (x *ℤ y)
    turn x y z = ap (λ w. x *ℤ w) (*ℤ_comm y z) ∙ *ℤ_left_comm x z y

    joined : (u v v' w u' w' : ℤ) → u ≤ℤ v → v' ≤ℤ w → u ≡ u' → v ≡ v' → w ≡ w' → u' ≤ℤ w'
    joined u v v' w u' w' p q e f g = omega (arith, ints)

-- one line more
best_step : (table : List FracRow) (basis : List ℕ) (column row : ℕ) (o : Option Candidate) → AreBest table column row o → AreBest table column (suc row) (better o (candidate_at table basis column row))
unfolding better
best_step table basis column row None h = by_sign (is_positive (number_at table row column)) refl
  where
    by_sign : (b : Bool) → is_positive (number_at table row column) ≡ b → AreBest table column (suc row) (cond b (Some (candidate_at table basis column row)) None)
    by_sign true t = record { positive = positive_is _ t; least = λ line lt some. at_place line lt some }
      where
        at_place : (line : ℕ) → line < suc row → pos 0 <ℤ number_at table line column → (right_side table row *ℤ number_at table line column) ≤ℤ (right_side table line *ℤ number_at table row column)
        at_place line lt some = elim (cases_lt line row) [
          | inl less ↦ absurd (clash _ some (h line less))
          | inr ge ↦ let same : line ≡ row = omega arith in subst (λ i. (right_side table row *ℤ number_at table i column) ≤ℤ (right_side table i *ℤ number_at table row column)) (sym same) (≤ℤ_refl _)
        ]
          where
            clash : (x : ℤ) → pos 0 <ℤ x → x ≤ℤ pos 0 → ⊥
            clash x p q = omega (arith, ints)
    by_sign false t = λ line lt. elim (cases_lt line row) [
      | inl less ↦ h line less
      | inr ge ↦ let same : line ≡ row = omega arith in subst (λ i. number_at table i column ≤ℤ pos 0) (sym same) (test_other _ t)
    ]
best_step table basis column row (Some best) h =
    by_tests (is_positive (number_at table row column)) (goes_first (candidate_at table basis column row) best) refl refl
  where
    clash : (x : ℤ) → pos 0 <ℤ x → x ≤ℤ pos 0 → ⊥
    clash x p q = omega (arith, ints)

    -- the best so far stays, where it is no more than the line
    stays : (pos 0 <ℤ number_at table row column → (best.right_side *ℤ number_at table row column) ≤ℤ (right_side table row *ℤ best.entry)) → IsLeast table column (suc row) best
    stays last = record { positive = h.positive; least = λ line lt some. at_place line lt some }
      where
        at_place : (line : ℕ) → line < suc row → pos 0 <ℤ number_at table line column → (best.right_side *ℤ number_at table line column) ≤ℤ (right_side table line *ℤ best.entry)
        at_place line lt some = elim (cases_lt line row) [
          | inl less ↦ h.least line less some
          | inr ge ↦ let same : line ≡ row = omega arith in subst (λ i. (best.right_side *ℤ number_at table i column) ≤ℤ (right_side table i *ℤ best.entry)) (sym same) (last (subst (λ i. pos 0 <ℤ number_at table i column) same some))
        ]

    by_tests : (b c : Bool) → is_positive (number_at table row column) ≡ b → goes_first (candidate_at table basis column row) best ≡ c → AreBest table column (suc row) (cond (b && c) (Some (candidate_at table basis column row)) (Some best))
    by_tests true true t f = record { positive = positive_is _ t; least = λ line lt some. at_place line lt some }
      where
        at_place : (line : ℕ) → line < suc row → pos 0 <ℤ number_at table line column → (right_side table row *ℤ number_at table line column) ≤ℤ (right_side table line *ℤ number_at table row column)
        at_place line lt some = elim (cases_lt line row) [
          | inl less ↦ ratios_chain _ _ best.right_side best.entry _ _ (positive_is _ t) h.positive some (goes_before (candidate_at table basis column row) best f) (h.least line less some)
          | inr ge ↦ let same : line ≡ row = omega arith in subst (λ i. (right_side table row *ℤ number_at table i column) ≤ℤ (right_side table i *ℤ number_at table row column)) (sym same) (≤ℤ_refl _)
        ]
    by_tests true false t f = stays (λ _. goes_after (candidate_at table basis column row) best f)
    by_tests false c t f = stays (λ some. absurd (clash _ some (test_other _ t)))

best_below_is : (table : List FracRow) (basis : List ℕ) (column bound : ℕ) → AreBest table column bound (best_below table basis column bound)
best_below_is table basis column zero = λ line lt. absurd (none_below_0 line lt)
best_below_is table basis column (suc row) = best_step table basis column row (best_below table basis column row) (best_below_is table basis column row)

-- no line has a positive entry where none leaves
pub none_leaves : (table : List FracRow) (basis : List ℕ) (column line : ℕ) → leaving table basis column ≡ None → line < height_of table → number_at table line column ≤ℤ pos 0
unfolding leaving
none_leaves table basis column line e lt = of_best (best_below table basis column (height_of table)) e (best_below_is table basis column (height_of table)) line lt
  where
    of_best : (o : Option Candidate) → option_map (λ best. best.row) o ≡ None → AreBest table column (height_of table) o → (line : ℕ) → line < height_of table → number_at table line column ≤ℤ pos 0
    of_best None e h = h
    of_best (Some best) e h = absurd (some_none e)
      where
        some_none : Some best.row ≡ None → ⊥
        some_none e = cc

-- no line with a positive entry has a lesser ratio than the one that leaves
pub leaves_least : (table : List FracRow) (basis : List ℕ) (column row line : ℕ) → leaving table basis column ≡ Some row → line < height_of table → pos 0 <ℤ number_at table line column → (right_side table row *ℤ number_at table line column) ≤ℤ (right_side table line *ℤ number_at table row column)
unfolding leaving
leaves_least table basis column row line e lt some = of_best (best_below table basis column (height_of table)) refl e (best_below_is table basis column (height_of table))
  where
    of_best : (o : Option Candidate) → best_below table basis column (height_of table) ≡ o → option_map (λ best. best.row) o ≡ Some row → AreBest table column (height_of table) o → (right_side table row *ℤ number_at table line column) ≤ℤ (right_side table line *ℤ number_at table row column)
    of_best None p e h = absurd (none_some e)
    of_best (Some best) p e h =
        let is : IsBest table basis column (height_of table) best = best_is table basis column (height_of table) best p in
        let same : best.row ≡ row = cc in
        let side : best.right_side ≡ right_side table row = ap (λ c. c.right_side) is.is ∙ ap (right_side table) same in
        let entry : best.entry ≡ number_at table row column = ap (λ c. c.entry) is.is ∙ ap (λ r. number_at table r column) same in
        rw (sym side, sym entry) (h.least line lt some)
