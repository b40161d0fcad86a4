-- The weights that a list of them gives to pairs.
use Rattle.std.proofs.Common.{◌≡◌, ◌≢◌, ℕ, zero, suc, ◌<◌, Bool, true, false, cond, ◌==◌, ◌&&◌, if◌then◌else◌, List, [], ◌∷◌, ◌++◌, get_or, ℤ, pos, ◌*ℤ◌, ◌≤ℤ◌, unsigned_abs, refl, sym, ◌∙◌, ap, subst, ◌⊎◌, inl, inr, arith}
use mathlib.Core.Bool.{false≢true}
use Rattle.std.proofs.lemmas.Bool.{cases_lt}
use Rattle.std.proofs.lemmas.Bool.Decides.{nat_tests}
use Rattle.std.proofs.lemmas.Int.{ints}
use Rattle.sums.proofs.Tests.{by_test}
use Rattle.frac_row.specs.declared.row.FracRow.{FracRow}
use Rattle.fleet_model.specs.declared.parts.Pair.{Pair}
use Rattle.fleet_model.specs.declared.tables.Tables.{Tables}
use Rattle.fleet_model.specs.Kept.{Domains, pairs_kept}
use Rattle.fleet_model.specs.Schedule.{leg_on}
use Rattle.row_store.specs.Table.{height_of, right_side, row_at}
use Rattle.simplex_frac.specs.dual_lift.Parts.{AreParts, part_below, part_of}
use Rattle.simplex_frac.specs.dual_lift.Scales.{scale_below}
use Rattle.simplex_frac.proofs.dual_lift.BasicPoints.{HaveColumns, no_part, part_there}
use Rattle.simplex_frac.proofs.dual_lift.LeastScales.{HaveDens, part_is, scale_has, signed_part}
use Rattle.lp_rows.specs.Layout.{Starts, all_kept, concat_below, pair_at_column}
use Rattle.lp_rows.proofs.ColumnPlaces.{pair_once}
use Rattle.dual_bound.specs.Mixed.{is_weight_of, weight_after, weight_in}
use Rattle.dual_bound.specs.declared.mixed.Mixed.{Mixed}
use Rattle.dual_bound.specs.declared.mixed.Weight.{Weight}
use Rattle.price_lift.specs.Parts.{weight_where, weights_at}
use Rattle.price_lift.specs.Weights.{AreBasicWeights, IsBasicIn}

-- ---- the weight after entries
after_append : (w : ℤ) (xs ys : List Weight) (p : Pair) → weight_after w (xs ++ ys) p ≡ weight_after (weight_after w xs p) ys p
unfolding weight_after
after_append w [] ys p = refl
after_append w (x ∷ xs) ys p = after_append (if is_weight_of p x then x.weight else w) xs ys p

same_pair : (q p : Pair) → ((q.leg == p.leg) && (q.choice == p.choice)) ≡ true → q ≡ p
same_pair q p e =
    let leg : q.leg ≡ p.leg = grind (arith, nat_tests) in
    let fleet : q.choice ≡ p.choice = grind (arith, nat_tests) in
    ap (λ l. leg_on l q.choice) leg ∙ ap (λ f. leg_on p.leg f) fleet

at_itself : (p : Pair) → ((p.leg == p.leg) && (p.choice == p.choice)) ≡ true
at_itself p = grind (arith, nat_tests)

zero_size : (z : ℤ) → (unsigned_abs z == 0) ≡ true → z ≡ pos 0
zero_size z e = let none : unsigned_abs z ≡ 0 = grind (arith, nat_tests) in omega (arith, ints)

another : (q p : Pair) (z w : ℤ) → ((q.leg == p.leg) && (q.choice == p.choice)) ≡ false → weight_after w (weight_where q z) p ≡ w
unfolding weight_after
another q p z w other = by_zero (unsigned_abs z == 0)
  where
    by_zero : (b : Bool) → weight_after w (if b then [] else record { leg = q.leg; choice = q.choice; weight = z } ∷ []) p ≡ w
    by_zero true = refl
    by_zero false = ap (λ b. cond b z w) other

itself : (q p : Pair) (z : ℤ) → ((q.leg == p.leg) && (q.choice == p.choice)) ≡ true → weight_after (pos 0) (weight_where q z) p ≡ z
unfolding weight_after
itself q p z same = by_test (unsigned_abs z == 0)
    (λ e. ap (λ b. weight_after (pos 0) (if b then [] else record { leg = q.leg; choice = q.choice; weight = z } ∷ []) p) e ∙ sym (zero_size z e))
    (λ e. ap (λ b. weight_after (pos 0) (if b then [] else record { leg = q.leg; choice = q.choice; weight = z } ∷ []) p) e ∙ ap (λ b. cond b z (pos 0)) same)

-- the pair of a column has the weight there, and any other pair 0
module _ (pairs : List Pair) (parts : List ℤ) (p : Pair) where
  abbrev pair : ℕ → Pair
  pair c = get_or pairs c (leg_on 0 0)

  abbrev weight_below : ℕ → ℤ
  weight_below n = weight_after (pos 0) (concat_below (weights_at pairs parts) n) p

  abbrev pub IsFound : ℕ → Type 0
  IsFound n = (c : ℕ) × (c < n) × (pair c ≡ p) × (weight_below n ≡ get_or parts c (pos 0))

  abbrev pub IsMissing : ℕ → Type 0
  IsMissing n = ((c : ℕ) → c < n → pair c ≢ p) × (weight_below n ≡ pos 0)

  none : weight_below 0 ≡ pos 0
  unfolding weight_after
  none = refl

  more : (n : ℕ) → weight_below (suc n) ≡ weight_after (weight_below n) (weight_where (pair n) (get_or parts n (pos 0))) p
  more n = after_append (pos 0) (concat_below (weights_at pairs parts) n) (weights_at pairs parts n) p

  here : (n : ℕ) → ((pair n).leg == p.leg && ((pair n).choice == p.choice)) ≡ true → weight_below n ≡ pos 0 → IsFound (suc n)
  here n same before =
      (n, omega arith, same_pair (pair n) p same, more n ∙ ap (λ w. weight_after w (weight_where (pair n) (get_or parts n (pos 0))) p) before ∙ itself (pair n) p (get_or parts n (pos 0)) same)

  pub find : (n : ℕ) → ((c d : ℕ) → c < n → d < n → pair c ≡ pair d → c ≡ d) → IsFound n ⊎ IsMissing n
  find zero once = inr (λ c below. absurd (omega arith), none)
  find (suc n) once = elim (find n (λ c d less there. once c d (omega arith) (omega arith))) [
    | inl found ↦ by_test ((pair n).leg == p.leg && ((pair n).choice == p.choice))
        (λ e.
        let twice : found.0 ≡ n = once found.0 n (omega (arith, found.1)) (omega arith) (found.2 ∙ sym (same_pair (pair n) p e)) in
        absurd (omega (arith, found.1, twice)))
        (λ e. inl (found.0, omega (arith, found.1), found.2, more n ∙ another (pair n) p (get_or parts n (pos 0)) (weight_below n) e ∙ found.3))
    | inr missing ↦ by_test ((pair n).leg == p.leg && ((pair n).choice == p.choice))
        (λ e. inl (here n e missing.1))
        (λ e. inr (
          λ c below same. elim (cases_lt c n) [
            | inl before ↦ missing.0 c before same
            | inr last ↦
                let at : c ≡ n = omega arith in
                absurd (false≢true (sym e ∙ subst (λ q. (q.leg == p.leg && (q.choice == p.choice)) ≡ true) (sym (ap pair (sym at) ∙ same)) (at_itself p)))
          ],
          more n ∙ another (pair n) p (get_or parts n (pos 0)) (weight_below n) e ∙ missing.1,
        ))
  ]

-- ---- the weights of pairs, by the parts of their columns
module _ (t : Tables) (keeps : Domains) (starts : Starts) (mixed : Mixed) (part : ℕ → ℕ) (parts : List ℤ) (are : AreParts part (pairs_kept t keeps) parts)
    (list : mixed.weights ≡ concat_below (weights_at (all_kept t keeps) parts) (pairs_kept t keeps)) where
  weight_is : (p : Pair) → weight_in mixed p ≡ weight_after (pos 0) (concat_below (weights_at (all_kept t keeps) parts) (pairs_kept t keeps)) p
  weight_is p = ap (λ ws. weight_after (pos 0) ws p) list

  found : (p : Pair) → IsFound (all_kept t keeps) parts p (pairs_kept t keeps) ⊎ IsMissing (all_kept t keeps) parts p (pairs_kept t keeps)
  found p = find (all_kept t keeps) parts p (pairs_kept t keeps) (pair_once t keeps starts)

  -- the weight of a pair: at its column, or 0 where it has none
  pub by_column : (p : Pair) (P : ℤ → Type 0) → ((c : ℕ) → c < pairs_kept t keeps → pair_at_column t keeps c ≡ p → P (pos (part c)))
      → (((c : ℕ) → c < pairs_kept t keeps → pair_at_column t keeps c ≢ p) → P (pos 0)) → P (weight_in mixed p)
  by_column p P there missing = elim (found p) [
    | inl here ↦ subst P (sym (weight_is p ∙ here.3 ∙ are.each here.0 here.1)) (there here.0 here.1 here.2)
    | inr none ↦ subst P (sym (weight_is p ∙ none.1)) (missing none.0)
  ]

-- ---- .. at a basic point
module _ (t : Tables) (keeps : Domains) (starts : Starts) (table : List FracRow) (basis : List ℕ) (mixed : Mixed) (parts : List ℤ)
    (own : HaveColumns basis (height_of table)) (dens : HaveDens table (height_of table)) (sides : (line : ℕ) → line < height_of table → pos 0 ≤ℤ right_side table line) where
  abbrev scale : ℕ
  scale = scale_below table basis (pairs_kept t keeps) (height_of table)

  module _ (is_scale : mixed.scale ≡ pos scale) (are : AreParts (part_below table basis scale (height_of table)) (pairs_kept t keeps) parts)
      (list : mixed.weights ≡ concat_below (weights_at (all_kept t keeps) parts) (pairs_kept t keeps)) where
    -- the weight of a line's basic pair
    pub basic_weight : (line : ℕ) (p : Pair) → line < height_of table → IsBasicIn t keeps basis line p → weight_in mixed p ≡ pos (part_of table scale line)
    basic_weight line p below basic =
        by_column t keeps starts mixed (part_below table basis scale (height_of table)) parts are list p (λ w. w ≡ pos (part_of table scale line))
        (λ c there same.
        let at : c ≡ get_or basis line 0 = pair_once t keeps starts c (get_or basis line 0) there basic.of_pair (same ∙ sym basic.same) in
        ap (λ k. pos (part_below table basis scale (height_of table) k)) at ∙ ap pos (part_there table basis scale (height_of table) line own below))
        (λ missing. absurd (missing (get_or basis line 0) basic.of_pair basic.same))

    no_weight : (p : Pair) → ((line : ℕ) → line < height_of table → ¬ (IsBasicIn t keeps basis line p)) → weight_in mixed p ≡ pos 0
    no_weight p other =
        by_column t keeps starts mixed (part_below table basis scale (height_of table)) parts are list p (λ w. w ≡ pos 0)
        (λ c there same. ap pos (no_part table basis scale (height_of table) c (λ line below at.
        other line below (record { of_pair = subst (λ k. k < pairs_kept t keeps) (sym at) there; same = ap (pair_at_column t keeps) at ∙ same }))))
        (λ missing. refl)

    pub are_basic : AreBasicWeights t keeps table basis mixed
    are_basic = record {
      scale = is_scale;
      basic = λ line p below basic.
          ap (λ w. w *ℤ (row_at table line).den) (basic_weight line p below basic)
          ∙ signed_part (part_of table scale line) scale (row_at table line).den (right_side table line)
          (part_is table scale line (dens.each line below) (scale_has table basis (pairs_kept t keeps) (height_of table) line below basic.of_pair)) (dens.each line below) (sides line below)
          ∙ ap (λ s. right_side table line *ℤ s) (sym is_scale);
      others = λ p pair other. no_weight p other;
    }
