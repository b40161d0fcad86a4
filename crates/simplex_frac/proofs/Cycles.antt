-- Pivots that come back to the same basic columns: there are none, by the greatest column that enters among them.
use Rattle.std.proofs.Common.{◌≡◌, ◌≢◌, ℕ, zero, suc, ◌+◌, ◌<◌, ◌≤◌, Bool, true, false, length, ℤ, pos, ◌-ℤ◌, ◌*ℤ◌, ◌<ℤ◌, ◌≤ℤ◌, refl, sym, ◌∙◌, ap, subst, inl, inr, arith, get_or-set_same, get_or-set_other}
use Rattle.std.specs.Prelude.{neg_ℤ}
use Rattle.std.proofs.lemmas.Int.{ints, by_lt_z}
use Rattle.std.proofs.lemmas.Bool.{cases_eq, cases_lt}
use lib.IntN.{*ℤ_comm, *ℤ-zero}
use Rattle.sums.specs.Below.{sum_below_ℤ, max_below}
use Rattle.sums.proofs.Integers.{*ℤ_assoc}
use Rattle.sums.proofs.Maxima.{max_below-upper, max_below-attained}
use Rattle.sums.proofs.Naturals.{zero_at_most, past_is_other}
use Rattle.sums.proofs.Products.{product_below, product_beside, product_positive, beside_times}
use Rattle.sums.proofs.Ranks.{is_place, place_found, place_is, no_place}
use Rattle.sums.proofs.Signs.{product_at_least_0, product_below_0}
use Rattle.sums.proofs.Sizes.{above_is_some, opposite_some}
use Rattle.sums.proofs.Tests.{by_test, no_both, never_passes}
use Rattle.row_store.specs.declared.problem.Rows.{Rows}
use Rattle.row_store.specs.Table.{row_at, number_at}
use Rattle.row_store.specs.Points.{surplus}
use Rattle.row_store.specs.Problem.{first_table}
use Rattle.simplex_frac.specs.Tableaux.{Tableau}
use Rattle.simplex_frac.specs.ReachedTables.{den_at, IsReachedBySteps}
use Rattle.simplex_frac.proofs.BasicSums.{IsBasicTable, basic_table, basic, basic_apart, common_scale, scale_over, scale_positive, scale_over_positive}
use Rattle.simplex_frac.proofs.FirstPoints.{MeetsFirst}
use Rattle.simplex_frac.proofs.ReachedPoints.{has_tables, kept}
use Rattle.simplex_frac.proofs.Rises.{rise_point, rise_below, rise_meets, rise_at_column, rise_elsewhere, rise_at_line}
use Rattle.simplex_frac.proofs.SameBases.{AreBasicIn, same_values}
use Rattle.simplex_frac.proofs.OnePivot.{IsOnePivot, NoLess, Rises, side_of, no_less_same, no_less_chain, values_rise, own_zero, other_zero, other_was_zero}
use Rattle.simplex_frac.proofs.Pairs.{equal_values, stands, times_some, times_none, times_zero, times_below, sums_not_below, clash}
use Rattle.simplex_frac.proofs.TurnCauses.{Improves, ImprovesNot}

-- a column is some line's basic one
abbrev pub is_basic : Rows → Tableau → ℕ → Bool
is_basic rows now c = is_place (basic now.basis) (length rows.lines) c

-- ---- basic columns over one pivot
module _ (rows : Rows) (old new : Tableau) (row column : ℕ) (p : IsOnePivot rows old new row column) where
  new_at_row : basic new.basis row ≡ column
  new_at_row =
      ap (λ b. basic b row) p.basis
      ∙ get_or-set_same old.basis row column 0 (subst (λ n. row < n) (sym (has_tables rows old.table old.basis p.reached).basis_in) p.line)

  new_elsewhere : (line : ℕ) → line ≢ row → basic new.basis line ≡ basic old.basis line
  new_elsewhere line apart = ap (λ b. basic b line) p.basis ∙ get_or-set_other old.basis row line column 0 apart

  comes_in : is_basic rows new column ≡ true
  comes_in = place_is (basic new.basis) (length rows.lines) column row p.line new_at_row

  -- the entering column is not basic, for its pair of numbers is below 0
  entering_is_new : is_basic rows old column ≡ false
  entering_is_new = never_passes _ (λ on. of_line (place_found (basic old.basis) (length rows.lines) column on))
    where
      no_improving : (x y : ℤ) → Improves x y → x ≡ pos 0 → y ≡ pos 0 → ⊥
      no_improving x y i e f = below y (i.cost e) f
        where
          below : (y : ℤ) → y <ℤ pos 0 → y ≡ pos 0 → ⊥
          below y p e = omega (arith, ints)

      of_line : (line : ℕ) × (line < length rows.lines) × (basic old.basis line ≡ column) → ⊥
      of_line (line, lt, e) =
          let t : IsBasicTable rows old.table old.basis = basic_table rows old.table old.basis p.reached in
          no_improving _ _ p.improves
          (ap (number_at old.table (length rows.lines)) (sym e) ∙ t.units.others line (length rows.lines) lt (omega arith) (λ same. past_is_other (length rows.lines) line (length rows.lines) (omega arith) lt same))
          (ap (number_at old.table (length rows.lines + 1)) (sym e) ∙ t.units.others line (length rows.lines + 1) lt (omega arith) (λ same. past_is_other (length rows.lines + 1) line (length rows.lines) (omega arith) lt same))

  comes : (c : ℕ) → is_basic rows old c ≡ false → is_basic rows new c ≡ true → column ≡ c
  comes c off on = of_line (place_found (basic new.basis) (length rows.lines) c on)
    where
      of_line : (line : ℕ) × (line < length rows.lines) × (basic new.basis line ≡ c) → column ≡ c
      of_line (line, lt, e) = elim (cases_eq line row) [
        | inl same ↦ sym new_at_row ∙ ap (basic new.basis) (sym same) ∙ e
        | inr apart ↦ absurd (no_place (basic old.basis) (length rows.lines) c line off lt (sym (new_elsewhere line apart) ∙ e))
      ]

  goes : (c : ℕ) → is_basic rows old c ≡ true → is_basic rows new c ≡ false → basic old.basis row ≡ c
  goes c on off = of_line (place_found (basic old.basis) (length rows.lines) c on)
    where
      of_line : (line : ℕ) × (line < length rows.lines) × (basic old.basis line ≡ c) → basic old.basis row ≡ c
      of_line (line, lt, e) = elim (cases_eq line row) [
        | inl same ↦ ap (basic old.basis) (sym same) ∙ e
        | inr apart ↦ absurd (no_place (basic new.basis) (length rows.lines) c line off lt (new_elsewhere line apart ∙ e))
      ]

-- ---- pivots from one table to another with the same basic columns
-- the greatest column that enters, and a pivot at which it leaves
record IsGreatest (now : ℕ → Tableau) (row column : ℕ → ℕ) (pivots enters leaves : ℕ) : Type 0 where
  enters_in : enters < pivots
  leaves_in : leaves < pivots
  most : (k : ℕ) → k < pivots → column k ≤ column enters
  is : basic (now leaves).basis (row leaves) ≡ column enters

module _ (rows : Rows) (now : ℕ → Tableau) (row column : ℕ → ℕ) (pivots : ℕ) (some : 0 < pivots) (reached : (k : ℕ) → k ≤ pivots → IsReachedBySteps rows (now k).table (now k).basis) (each : (k : ℕ) → k < pivots → IsOnePivot rows (now k) (now (suc k)) (row k) (column k)) (same : (c : ℕ) → is_basic rows (now 0) c ≡ is_basic rows (now pivots) c) where
  -- ---- which columns come and go
  came_between : (i j c : ℕ) → i ≤ j → j ≤ pivots → is_basic rows (now i) c ≡ false → is_basic rows (now j) c ≡ true → (k : ℕ) × (k < pivots) × (column k ≡ c)
  came_between i zero c le within off on = absurd (no_both off (subst (λ k. is_basic rows (now k) c ≡ true) (zero_at_most i le) on))
  came_between i (suc j) c le within off on = by_test (is_basic rows (now j) c)
      (λ before. elim (cases_lt i (suc j)) [
        | inl lt ↦ came_between i j c (omega arith) (omega arith) off before
        | inr ge ↦ let last : suc j ≡ i = omega arith in absurd (no_both off (subst (λ k. is_basic rows (now k) c ≡ true) last on))
      ])
      (λ new. (j, omega arith, comes rows (now j) (now (suc j)) (row j) (column j) (each j (omega arith)) c new on))

  went_between : (i j c : ℕ) → i ≤ j → j ≤ pivots → is_basic rows (now i) c ≡ true → is_basic rows (now j) c ≡ false → (k : ℕ) × (k < pivots) × (basic (now k).basis (row k) ≡ c)
  went_between i zero c le within on off = absurd (no_both off (subst (λ k. is_basic rows (now k) c ≡ true) (sym (zero_at_most i le)) on))
  went_between i (suc j) c le within on off = by_test (is_basic rows (now j) c)
      (λ before. (j, omega arith, goes rows (now j) (now (suc j)) (row j) (column j) (each j (omega arith)) c before off))
      (λ new. elim (cases_lt i (suc j)) [
        | inl lt ↦ went_between i j c (omega arith) (omega arith) on new
        | inr ge ↦ let last : i ≡ suc j = omega arith in absurd (no_both off (subst (λ k. is_basic rows (now k) c ≡ true) last on))
      ])

  -- a column that is basic at one table and not at another comes, and goes
  came : (k l c : ℕ) → k ≤ pivots → l ≤ pivots → is_basic rows (now k) c ≡ true → is_basic rows (now l) c ≡ false → (i : ℕ) × (i < pivots) × (column i ≡ c)
  came k l c k_in l_in on off = by_test (is_basic rows (now 0) c)
      (λ start. came_between l pivots c l_in (omega arith) off (sym (same c) ∙ start))
      (λ start. came_between 0 k c (omega arith) k_in start on)

  went : (k l c : ℕ) → k ≤ pivots → l ≤ pivots → is_basic rows (now k) c ≡ true → is_basic rows (now l) c ≡ false → (i : ℕ) × (i < pivots) × (basic (now i).basis (row i) ≡ c)
  went k l c k_in l_in on off = by_test (is_basic rows (now 0) c)
      (λ start. went_between 0 l c (omega arith) l_in start off)
      (λ start. went_between k pivots c k_in (omega arith) on (sym (same c) ∙ start))

  -- ---- the values of the two rows below the lines, all over one scale
  scale : ℕ → ℤ
  scale other = product_below (λ k. den_at (now k).table other) (suc pivots)

  value : ℕ → ℕ → ℤ
  value other k = side_of rows (now k) other *ℤ product_beside (λ i. den_at (now i).table other) k (suc pivots)

  value_times : (other k : ℕ) → k ≤ pivots → value other k *ℤ den_at (now k).table other ≡ side_of rows (now k) other *ℤ scale other
  unfolding value scale
  value_times other k within =
      *ℤ_assoc (side_of rows (now k) other) (product_beside (λ i. den_at (now i).table other) k (suc pivots)) (den_at (now k).table other)
      ∙ ap (λ z. side_of rows (now k) other *ℤ z) (beside_times (λ i. den_at (now i).table other) k (suc pivots) (omega arith))

  dens : (other k : ℕ) → other < length rows.lines + 2 → k ≤ pivots → pos 0 <ℤ den_at (now k).table other
  dens other k lt within = (has_tables rows (now k).table (now k).basis (reached k within)).dens other lt

  scale_above : (other : ℕ) → other < length rows.lines + 2 → pos 0 <ℤ scale other
  unfolding scale
  scale_above other lt = product_positive (λ k. den_at (now k).table other) (suc pivots) (λ k below. dens other k lt (omega arith))

  rises : (k : ℕ) → k < pivots → Rises (value (length rows.lines) k) (value (length rows.lines + 1) k) (value (length rows.lines) (suc k)) (value (length rows.lines + 1) (suc k)) (side_of rows (now k) (row k))
  rises k lt =
      values_rise rows (now k) (now (suc k)) (row k) (column k) (each k lt) (scale (length rows.lines)) (scale (length rows.lines + 1)) _ _ _ _ (scale_above (length rows.lines) (omega arith)) (scale_above (length rows.lines + 1) (omega arith))
      (value_times (length rows.lines) k (omega arith)) (value_times (length rows.lines) (suc k) lt) (value_times (length rows.lines + 1) k (omega arith)) (value_times (length rows.lines + 1) (suc k) lt)

  later : (i j : ℕ) → i ≤ j → j ≤ pivots → NoLess (value (length rows.lines) i) (value (length rows.lines + 1) i) (value (length rows.lines) j) (value (length rows.lines + 1) j)
  later i zero le within = subst (λ k. NoLess (value (length rows.lines) k) (value (length rows.lines + 1) k) (value (length rows.lines) 0) (value (length rows.lines + 1) 0)) (zero_at_most i le) (no_less_same _ _)
  later i (suc j) le within = elim (cases_lt i (suc j)) [
    | inl lt ↦ no_less_chain _ _ _ _ _ _ (later i j (omega arith) (omega arith)) (rises j (omega arith)).no_less
    | inr ge ↦ let last : suc j ≡ i = omega arith in
        subst (λ k. NoLess (value (length rows.lines) k) (value (length rows.lines + 1) k) (value (length rows.lines) (suc j)) (value (length rows.lines + 1) (suc j))) last (no_less_same _ _)
  ]

  alike : AreBasicIn rows (now 0).basis (now pivots).basis
  alike = record {
    each = λ line lt. place_found (basic (now pivots).basis) (length rows.lines) (basic (now 0).basis line)
        (sym (same (basic (now 0).basis line)) ∙ place_is (basic (now 0).basis) (length rows.lines) (basic (now 0).basis line) line lt refl);
  }

  ends_alike : (other : ℕ) → length rows.lines ≤ other → other < length rows.lines + 2 → value other 0 ≡ value other pivots
  ends_alike other ge lt =
      equal_values _ _ (den_at (now 0).table other) (den_at (now pivots).table other) (side_of rows (now 0) other) (side_of rows (now pivots) other) (scale other) (dens other 0 lt (omega arith)) (dens other pivots lt (omega arith))
      (value_times other 0 (omega arith)) (value_times other pivots (omega arith))
      (same_values rows (now 0).table (now pivots).table (now 0).basis (now pivots).basis other (reached 0 (omega arith)) (reached pivots (omega arith)) alike ge lt)

  -- so each pivot row's right side is 0
  degenerate : (k : ℕ) → k < pivots → side_of rows (now k) (row k) ≡ pos 0
  degenerate k lt =
      stands _ _ _ _ _ _ _ _ _ (later 0 k (omega arith) (omega arith)) (rises k lt) (later (suc k) pivots lt (omega arith))
      (ends_alike (length rows.lines) (omega arith) (omega arith)) (ends_alike (length rows.lines + 1) (omega arith) (omega arith))

  -- ---- a column that is at 0 stays there
  next_0 : (k c : ℕ) → k < pivots → ((line : ℕ) → line < length rows.lines → basic (now k).basis line ≡ c → side_of rows (now k) line ≡ pos 0)
      → (line : ℕ) → line < length rows.lines → basic (now (suc k)).basis line ≡ c → side_of rows (now (suc k)) line ≡ pos 0
  next_0 k c lt h line below e = elim (cases_eq line (row k)) [
    | inl here ↦ subst (λ r. side_of rows (now (suc k)) r ≡ pos 0) (sym here) (own_zero rows (now k) (now (suc k)) (row k) (column k) (each k lt) (degenerate k lt))
    | inr apart ↦ other_zero rows (now k) (now (suc k)) (row k) (column k) (each k lt) line (omega arith) apart (degenerate k lt)
        (h line below (sym (new_elsewhere rows (now k) (now (suc k)) (row k) (column k) (each k lt) line apart) ∙ e))
  ]

  before_0 : (k c : ℕ) → k < pivots → ((line : ℕ) → line < length rows.lines → basic (now (suc k)).basis line ≡ c → side_of rows (now (suc k)) line ≡ pos 0)
      → (line : ℕ) → line < length rows.lines → basic (now k).basis line ≡ c → side_of rows (now k) line ≡ pos 0
  before_0 k c lt h line below e = elim (cases_eq line (row k)) [
    | inl here ↦ subst (λ r. side_of rows (now k) r ≡ pos 0) (sym here) (degenerate k lt)
    | inr apart ↦ other_was_zero rows (now k) (now (suc k)) (row k) (column k) (each k lt) line (omega arith) apart (degenerate k lt)
        (h line below (new_elsewhere rows (now k) (now (suc k)) (row k) (column k) (each k lt) line apart ∙ e))
  ]

  later_0 : (i j c : ℕ) → i ≤ j → j ≤ pivots → ((line : ℕ) → line < length rows.lines → basic (now i).basis line ≡ c → side_of rows (now i) line ≡ pos 0)
      → (line : ℕ) → line < length rows.lines → basic (now j).basis line ≡ c → side_of rows (now j) line ≡ pos 0
  later_0 i zero c le within h = subst (λ k. (line : ℕ) → line < length rows.lines → basic (now k).basis line ≡ c → side_of rows (now k) line ≡ pos 0) (sym (zero_at_most i le)) h
  later_0 i (suc j) c le within h = elim (cases_lt i (suc j)) [
    | inl lt ↦ next_0 j c (omega arith) (later_0 i j c (omega arith) (omega arith) h)
    | inr ge ↦ let last : i ≡ suc j = omega arith in subst (λ k. (line : ℕ) → line < length rows.lines → basic (now k).basis line ≡ c → side_of rows (now k) line ≡ pos 0) last h
  ]

  earlier_0 : (i j c : ℕ) → i ≤ j → j ≤ pivots → ((line : ℕ) → line < length rows.lines → basic (now j).basis line ≡ c → side_of rows (now j) line ≡ pos 0)
      → (line : ℕ) → line < length rows.lines → basic (now i).basis line ≡ c → side_of rows (now i) line ≡ pos 0
  earlier_0 i zero c le within h = subst (λ k. (line : ℕ) → line < length rows.lines → basic (now k).basis line ≡ c → side_of rows (now k) line ≡ pos 0) (zero_at_most i le) h
  earlier_0 i (suc j) c le within h = elim (cases_lt i (suc j)) [
    | inl lt ↦ earlier_0 i j c (omega arith) (omega arith) (before_0 j c (omega arith) h)
    | inr ge ↦ let last : suc j ≡ i = omega arith in subst (λ k. (line : ℕ) → line < length rows.lines → basic (now k).basis line ≡ c → side_of rows (now k) line ≡ pos 0) last h
  ]

  -- a column that is not basic at some table is at 0 where it is
  new_is_at_0 : (l k c : ℕ) → l ≤ pivots → k ≤ pivots → is_basic rows (now l) c ≡ false → (line : ℕ) → line < length rows.lines → basic (now k).basis line ≡ c → side_of rows (now k) line ≡ pos 0
  new_is_at_0 l k c l_in k_in off = elim (cases_lt l k) [
    | inl lt ↦ later_0 l k c (omega arith) k_in (λ line below e. absurd (no_place (basic (now l).basis) (length rows.lines) c line off below e))
    | inr ge ↦ earlier_0 k l c ge l_in (λ line below e. absurd (no_place (basic (now l).basis) (length rows.lines) c line off below e))
  ]

  -- ---- the direction of one pivot at the rows of another table, column by column
  term : (l k c : ℕ) → IsGreatest now row column pivots l k
      → ImprovesNot (number_at (now l).table (length rows.lines) c *ℤ rise_point rows (now k).table (now k).basis (column k) c) (number_at (now l).table (length rows.lines + 1) c *ℤ rise_point rows (now k).table (now k).basis (column k) c)
  term l k c g = by_test (is_basic rows (now l) c) at_basic (λ off. elim (cases_eq (column k) c) [
    | inl same_column ↦ at_entering same_column
    | inr other ↦ by_test (is_basic rows (now k) c) (λ on. at_line off other on (place_found (basic (now k).basis) (length rows.lines) c on)) (λ none. at_neither other none)
  ])
    where
      t : IsBasicTable rows (now k).table (now k).basis
      t = basic_table rows (now k).table (now k).basis (each k g.leaves_in).reached

      at_basic : is_basic rows (now l) c ≡ true → ImprovesNot (number_at (now l).table (length rows.lines) c *ℤ rise_point rows (now k).table (now k).basis (column k) c) (number_at (now l).table (length rows.lines + 1) c *ℤ rise_point rows (now k).table (now k).basis (column k) c)
      at_basic on = of_line (place_found (basic (now l).basis) (length rows.lines) c on)
        where
          of_line : (line : ℕ) × (line < length rows.lines) × (basic (now l).basis line ≡ c) → ImprovesNot (number_at (now l).table (length rows.lines) c *ℤ rise_point rows (now k).table (now k).basis (column k) c) (number_at (now l).table (length rows.lines + 1) c *ℤ rise_point rows (now k).table (now k).basis (column k) c)
          of_line (line, lt, e) =
              let u : IsBasicTable rows (now l).table (now l).basis = basic_table rows (now l).table (now l).basis (each l g.enters_in).reached in
              times_none _ _ _
              (ap (number_at (now l).table (length rows.lines)) (sym e) ∙ u.units.others line (length rows.lines) lt (omega arith) (λ same. past_is_other (length rows.lines) line (length rows.lines) (omega arith) lt same))
              (ap (number_at (now l).table (length rows.lines + 1)) (sym e) ∙ u.units.others line (length rows.lines + 1) lt (omega arith) (λ same. past_is_other (length rows.lines + 1) line (length rows.lines) (omega arith) lt same))

      off_column : is_basic rows (now k) (column k) ≡ false
      off_column = entering_is_new rows (now k) (now (suc k)) (row k) (column k) (each k g.leaves_in)

      -- the entering column comes before the greatest, and rises
      at_entering : column k ≡ c → ImprovesNot (number_at (now l).table (length rows.lines) c *ℤ rise_point rows (now k).table (now k).basis (column k) c) (number_at (now l).table (length rows.lines + 1) c *ℤ rise_point rows (now k).table (now k).basis (column k) c)
      at_entering e =
          subst (λ j. ImprovesNot (number_at (now l).table (length rows.lines) j *ℤ rise_point rows (now k).table (now k).basis (column k) j) (number_at (now l).table (length rows.lines + 1) j *ℤ rise_point rows (now k).table (now k).basis (column k) j)) e
          (times_some _ _ _ ((each l g.enters_in).earlier (column k) (less (column k) (column l) (g.most k g.leaves_in) differs))
          (subst (λ z. pos 0 ≤ℤ z) (sym (rise_at_column rows (now k).table (now k).basis (column k) (λ line lt same. no_place (basic (now k).basis) (length rows.lines) (column k) line off_column lt same))) (above_is_some _ (scale_positive rows (now k).table (now k).basis t))))
        where
          differs : column k ≢ column l
          differs e = no_place (basic (now k).basis) (length rows.lines) (column k) (row k) off_column (each k g.leaves_in).line (g.is ∙ sym e)

          less : (m n : ℕ) → m ≤ n → m ≢ n → m < n
          less m n p q = omega arith

      at_neither : column k ≢ c → is_basic rows (now k) c ≡ false → ImprovesNot (number_at (now l).table (length rows.lines) c *ℤ rise_point rows (now k).table (now k).basis (column k) c) (number_at (now l).table (length rows.lines + 1) c *ℤ rise_point rows (now k).table (now k).basis (column k) c)
      at_neither other none = times_zero _ _ _ (rise_elsewhere rows (now k).table (now k).basis (column k) c other (λ line lt same. no_place (basic (now k).basis) (length rows.lines) c line none lt same))

      at_line : is_basic rows (now l) c ≡ false → column k ≢ c → is_basic rows (now k) c ≡ true → (line : ℕ) × (line < length rows.lines) × (basic (now k).basis line ≡ c) → ImprovesNot (number_at (now l).table (length rows.lines) c *ℤ rise_point rows (now k).table (now k).basis (column k) c) (number_at (now l).table (length rows.lines + 1) c *ℤ rise_point rows (now k).table (now k).basis (column k) c)
      at_line off other on (line, lt, e) = elim (cases_eq c (column l)) [
        | inl greatest ↦ at_greatest greatest
        | inr apart ↦ at_lesser (less c (column l) (within (came k l c (omega (arith, g.leaves_in)) (omega (arith, g.enters_in)) on off)) apart)
      ]
        where
          less : (m n : ℕ) → m ≤ n → m ≢ n → m < n
          less m n p q = omega arith

          within : (i : ℕ) × (i < pivots) × (column i ≡ c) → c ≤ column l
          within (i, i_in, is) = subst (λ j. j ≤ column l) is (g.most i i_in)

          rise : rise_point rows (now k).table (now k).basis (column k) c ≡ neg_ℤ (number_at (now k).table line (column k)) *ℤ scale_over (now k).table (length rows.lines) line
          rise =
              ap (rise_point rows (now k).table (now k).basis (column k)) (sym e)
              ∙ rise_at_line rows (now k).table (now k).basis (column k) line t lt (λ same. other (same ∙ e))

          above : pos 0 <ℤ scale_over (now k).table (length rows.lines) line
          above = scale_over_positive rows (now k).table (now k).basis line t

          -- the greatest falls, for it leaves, and it enters at the other table
          at_greatest : c ≡ column l → ImprovesNot (number_at (now l).table (length rows.lines) c *ℤ rise_point rows (now k).table (now k).basis (column k) c) (number_at (now l).table (length rows.lines + 1) c *ℤ rise_point rows (now k).table (now k).basis (column k) c)
          at_greatest is =
              times_below _ _ _ (subst (λ j. Improves (number_at (now l).table (length rows.lines) j) (number_at (now l).table (length rows.lines + 1) j)) (sym is) (each l g.enters_in).improves)
              (subst (λ z. z <ℤ pos 0) (sym rise) (falls _ _ positive above))
            where
              here : line ≡ row k
              here = basic_apart rows (now k).table (now k).basis line (row k) t lt (each k g.leaves_in).line (e ∙ is ∙ sym g.is)

              positive : pos 0 <ℤ number_at (now k).table line (column k)
              positive = subst (λ r. pos 0 <ℤ number_at (now k).table r (column k)) (sym here) (each k g.leaves_in).positive

              falls : (a s : ℤ) → pos 0 <ℤ a → pos 0 <ℤ s → (neg_ℤ a *ℤ s) <ℤ pos 0
              falls a s p q = subst (λ z. z <ℤ pos 0) (*ℤ_comm s (neg_ℤ a)) (product_below_0 s (neg_ℤ a) q (below a p))
                where
                  below : (a : ℤ) → pos 0 <ℤ a → neg_ℤ a <ℤ pos 0
                  below a p = omega (arith, ints)

          -- a lesser one doesn't fall, or it would leave before the greatest
          at_lesser : c < column l → ImprovesNot (number_at (now l).table (length rows.lines) c *ℤ rise_point rows (now k).table (now k).basis (column k) c) (number_at (now l).table (length rows.lines + 1) c *ℤ rise_point rows (now k).table (now k).basis (column k) c)
          at_lesser lesser =
              times_some _ _ _ ((each l g.enters_in).earlier c lesser)
              (subst (λ z. pos 0 ≤ℤ z) (sym rise) (product_at_least_0 _ _ (opposite_some _ (by_lt_z (pos 0) (number_at (now k).table line (column k)) (λ positive. absurd (tie positive)) (λ none. none))) (above_is_some _ above)))
            where
              tie : pos 0 <ℤ number_at (now k).table line (column k) → ⊥
              tie positive =
                  before (basic (now k).basis (row k)) (basic (now k).basis line) (column l) c g.is e lesser
                  ((each k g.leaves_in).ties line lt positive (new_is_at_0 l k c (omega (arith, g.enters_in)) (omega (arith, g.leaves_in)) off line lt e))
                where
                  before : (a b q c : ℕ) → a ≡ q → b ≡ c → c < q → a ≤ b → ⊥
                  before a b q c e f lt le = omega arith

  -- ---- so at the other table the direction is not below 0, and at its own it is
  impossible : (l k : ℕ) → IsGreatest now row column pivots l k → ⊥
  unfolding surplus
  impossible l k g =
      clash (rest (length rows.lines)) (rest (length rows.lines + 1)) _ _ _ _ _ _ (common_scale (now k).table (length rows.lines)) _ _
      (scale_positive rows (now k).table (now k).basis t) (dens (length rows.lines) k (omega arith) (omega (arith, g.leaves_in))) (dens (length rows.lines + 1) k (omega arith) (omega (arith, g.leaves_in)))
      (dens (length rows.lines) l (omega arith) (omega (arith, g.enters_in))) (dens (length rows.lines + 1) l (omega arith) (omega (arith, g.enters_in))) (each k g.leaves_in).improves
      (at_own (length rows.lines) (omega arith) (omega arith)) (at_own (length rows.lines + 1) (omega arith) (omega arith)) (at_other (length rows.lines) (omega arith)) (at_other (length rows.lines + 1) (omega arith))
      (sums_not_below _ _ (rows.columns + length rows.lines) (λ c lt. term l k c g))
    where
      t : IsBasicTable rows (now k).table (now k).basis
      t = basic_table rows (now k).table (now k).basis (each k g.leaves_in).reached

      rest : ℕ → ℤ
      rest other = surplus (row_at (first_table rows) other) (rows.columns + length rows.lines) (rise_point rows (now k).table (now k).basis (column k)) (pos 0)

      met : MeetsFirst rows (rise_point rows (now k).table (now k).basis (column k)) (pos 0)
      met = rise_meets rows (now k).table (now k).basis (column k) (each k g.leaves_in).reached (each k g.leaves_in).real

      at_own : (other : ℕ) → length rows.lines ≤ other → other < length rows.lines + 2 → common_scale (now k).table (length rows.lines) *ℤ number_at (now k).table other (column k) ≡ surplus (row_at (first_table rows) other) (rows.columns + length rows.lines) (rise_point rows (now k).table (now k).basis (column k)) (pos 0) *ℤ den_at (now k).table other
      at_own other ge lt =
          sym (rise_below rows (now k).table (now k).basis (column k) other t (each k g.leaves_in).real ge lt)
          ∙ kept rows (now k).table (now k).basis (rise_point rows (now k).table (now k).basis (column k)) (pos 0) other (each k g.leaves_in).reached met lt

      at_other : (other : ℕ) → other < length rows.lines + 2 → sum_below_ℤ (λ c. number_at (now l).table other c *ℤ rise_point rows (now k).table (now k).basis (column k) c) (rows.columns + length rows.lines) ≡ surplus (row_at (first_table rows) other) (rows.columns + length rows.lines) (rise_point rows (now k).table (now k).basis (column k)) (pos 0) *ℤ den_at (now l).table other
      at_other other lt =
          alone _ _ (*ℤ-zero (number_at (now l).table other (rows.columns + length rows.lines)))
          ∙ kept rows (now l).table (now l).basis (rise_point rows (now k).table (now k).basis (column k)) (pos 0) other (each l g.enters_in).reached met lt
        where
          alone : (a b : ℤ) → b ≡ pos 0 → a ≡ a -ℤ b
          alone a b e = omega (arith, ints)

  pub no_cycle : ⊥
  no_cycle = of_greatest (max_below-attained column pivots some)
    where
      of_greatest : (l : ℕ) × (l < pivots) × (column l ≡ max_below column pivots) → ⊥
      of_greatest (l, l_in, is) = of_leaving (went (suc l) l (column l) l_in (omega arith) (comes_in rows (now l) (now (suc l)) (row l) (column l) (each l l_in)) (entering_is_new rows (now l) (now (suc l)) (row l) (column l) (each l l_in)))
        where
          of_leaving : (k : ℕ) × (k < pivots) × (basic (now k).basis (row k) ≡ column l) → ⊥
          of_leaving (k, k_in, leaves) = impossible l k (record {
            enters_in = l_in;
            leaves_in = k_in;
            most = λ i i_in. subst (λ m. column i ≤ m) (sym is) (max_below-upper column pivots i i_in);
            is = leaves;
          })
