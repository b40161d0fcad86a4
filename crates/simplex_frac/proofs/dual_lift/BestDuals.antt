-- The dual values at a cheapest point weigh no column above its cost.
use Rattle.std.proofs.Common.{◌≡◌, ℕ, ◌+◌, ◌<◌, ◌≤◌, cond, nat_lt, List, length, get_or, ℤ, pos, negsuc, neg_ℤ, ◌+ℤ◌, ◌-ℤ◌, ◌*ℤ◌, ◌<ℤ◌, ◌≤ℤ◌, unsigned_abs, sym, ◌∙◌, ap, subst, ◌⊎◌, inl, inr, arith}
use Rattle.std.proofs.lemmas.Bool.Decides.{nat_tests}
use Rattle.std.proofs.lemmas.Int.{ints}
use Rattle.std.proofs.lemmas.List.{get_or_past}
use lib.IntN.{*ℤ_comm, *ℤ-zero}
use Rattle.sums.specs.Below.{sum_below_ℤ}
use Rattle.sums.specs.Divisors.{gcd}
use Rattle.sums.proofs.Division.{*ℤ-int_div, positive_factor}
use Rattle.sums.proofs.Divisors.{gcd_is, gcd_positive}
use Rattle.sums.proofs.Integers.{*ℤ-+ℤ, *ℤ--ℤ, -ℤ-*ℤ, *ℤ-neg_ℤ, *ℤ_assoc, *ℤ_left_comm, neg_ℤ-*ℤ, positive_product, minus_one-*ℤ}
use Rattle.sums.proofs.Maxima.{max_below-upper}
use Rattle.sums.proofs.WholeSums.{*ℤ-sum_below_ℤ, sum_below_ℤ-same}
use Rattle.sums.proofs.WholeSwaps.{sum_below_ℤ-+ℤ}
use Rattle.sums.proofs.Signs.{product_at_least_0, factor_at_least_0}
use Rattle.sums.proofs.Sizes.{above_is_some, pos_above, size_above}
use Rattle.frac_row.specs.declared.row.FracRow.{FracRow}
use Rattle.row_store.specs.Problem.{entry}
use Rattle.row_store.specs.declared.problem.Rows.{Rows}
use Rattle.row_store.specs.Table.{cost_row, height_of, number_at, phase_row, right_side}
use Rattle.simplex_frac.specs.ReachedTables.{IsTableOf, ReadsOff, amount_at, den_at, identity_at, weighed}
use Rattle.simplex_frac.specs.LastTables.{IsBestTable, IsNoPointTable}
use Rattle.simplex_frac.specs.dual_lift.Duals.{best_scale, best_value, cost_den, cost_number, cost_part, den_divisor, identity_column, phase_den, phase_number, phase_part, phase_value, phases_added, phases_wanted, real_columns}
use Rattle.simplex_frac.proofs.dual_lift.Ceilings.{phases_enough}

pub when_lt : (m n : ℕ) (x y : ℤ) → m < n → cond (nat_lt m n) x y ≡ x
when_lt m n x y h = grind (arith, nat_tests)

pub when_ge : (m n : ℕ) (x y : ℤ) → n ≤ m → cond (nat_lt m n) x y ≡ y
when_ge m n x y h = grind (arith, nat_tests)

-- ---- the parts of the denominators

module _ (table : List FracRow) (phase_some : pos 0 <ℤ phase_den table) (cost_some : pos 0 <ℤ cost_den table) where
  abbrev divisor : ℕ
  divisor = gcd (unsigned_abs (phase_den table)) (unsigned_abs (cost_den table))

  pub phase_part_times : den_divisor table *ℤ phase_part table ≡ phase_den table
  unfolding phase_part
  phase_part_times = *ℤ-int_div (phase_den table) divisor (gcd_is (unsigned_abs (phase_den table)) (unsigned_abs (cost_den table))).0

  pub cost_part_times : den_divisor table *ℤ cost_part table ≡ cost_den table
  unfolding cost_part
  cost_part_times = *ℤ-int_div (cost_den table) divisor (gcd_is (unsigned_abs (phase_den table)) (unsigned_abs (cost_den table))).1

  pub divisor_some : pos 0 <ℤ den_divisor table
  divisor_some = pos_above (gcd (unsigned_abs (phase_den table)) (unsigned_abs (cost_den table))) (gcd_positive (unsigned_abs (phase_den table)) (unsigned_abs (cost_den table)) (omega (arith, size_above (phase_den table) phase_some)))

  pub phase_part_some : pos 0 <ℤ phase_part table
  phase_part_some = positive_factor divisor (phase_part table) (subst (λ z. pos 0 <ℤ z) (sym phase_part_times) phase_some)

  pub cost_part_some : pos 0 <ℤ cost_part table
  cost_part_some = positive_factor divisor (cost_part table) (subst (λ z. pos 0 <ℤ z) (sym cost_part_times) cost_some)

  pub scale_some : pos 0 <ℤ best_scale table
  scale_some = positive_product (phase_part table) (cost_den table) phase_part_some cost_some

-- ---- the two rows added up
-- in a column, with the common divisor left out
pub no_column_negative : (c C p P g Pg Cg m : ℤ) → pos 0 <ℤ g → g *ℤ Pg ≡ P → g *ℤ Cg ≡ C → pos 0 ≤ℤ ((m *ℤ (p *ℤ C)) +ℤ (c *ℤ P)) → pos 0 ≤ℤ (((m *ℤ Cg) *ℤ p) +ℤ (Pg *ℤ c))
no_column_negative c C p P g Pg Cg m some e f le = factor_at_least_0 g (((m *ℤ Cg) *ℤ p) +ℤ (Pg *ℤ c)) some (subst (λ z. pos 0 ≤ℤ z) (sym whole) le)
  where
    first : g *ℤ ((m *ℤ Cg) *ℤ p) ≡ m *ℤ (p *ℤ C)
    first =
        ap (λ z. g *ℤ z) (*ℤ_assoc m Cg p) ∙ *ℤ_left_comm g m (Cg *ℤ p) ∙ ap (λ z. m *ℤ z) (sym (*ℤ_assoc g Cg p) ∙ ap (λ z. z *ℤ p) f ∙ *ℤ_comm C p)

    second : g *ℤ (Pg *ℤ c) ≡ c *ℤ P
    second = sym (*ℤ_assoc g Pg c) ∙ ap (λ z. z *ℤ c) e ∙ *ℤ_comm P c

    whole : g *ℤ (((m *ℤ Cg) *ℤ p) +ℤ (Pg *ℤ c)) ≡ (m *ℤ (p *ℤ C)) +ℤ (c *ℤ P)
    whole = *ℤ-+ℤ g ((m *ℤ Cg) *ℤ p) (Pg *ℤ c) ∙ ap (λ z. z +ℤ (g *ℤ (Pg *ℤ c))) first ∙ ap (λ z. (m *ℤ (p *ℤ C)) +ℤ z) second

-- a term of a line: what both rows say of it
term : (m P p Cg c Pg e : ℤ) → (((m *ℤ (P -ℤ p)) *ℤ Cg) -ℤ (c *ℤ Pg)) *ℤ e ≡ (neg_ℤ (m *ℤ Cg) *ℤ ((p -ℤ P) *ℤ e)) +ℤ (neg_ℤ Pg *ℤ (c *ℤ e))
term m P p Cg c Pg e =
    -ℤ-*ℤ ((m *ℤ (P -ℤ p)) *ℤ Cg) (c *ℤ Pg) e
    ∙ omega (arith, ints, left, right)
  where
    turned : (P -ℤ p) *ℤ e ≡ neg_ℤ ((p -ℤ P) *ℤ e)
    turned = omega (arith, ints, -ℤ-*ℤ P p e, -ℤ-*ℤ p P e)

    left : ((m *ℤ (P -ℤ p)) *ℤ Cg) *ℤ e ≡ neg_ℤ (m *ℤ Cg) *ℤ ((p -ℤ P) *ℤ e)
    left =
        ap (λ z. z *ℤ e) (*ℤ_assoc m (P -ℤ p) Cg ∙ ap (λ z. m *ℤ z) (*ℤ_comm (P -ℤ p) Cg) ∙ sym (*ℤ_assoc m Cg (P -ℤ p)))
        ∙ *ℤ_assoc (m *ℤ Cg) (P -ℤ p) e ∙ ap (λ z. (m *ℤ Cg) *ℤ z) turned ∙ *ℤ-neg_ℤ (m *ℤ Cg) ((p -ℤ P) *ℤ e) ∙ sym (neg_ℤ-*ℤ (m *ℤ Cg) ((p -ℤ P) *ℤ e))

    opposite : (x y : ℤ) → y ≡ neg_ℤ x → x ≡ neg_ℤ y
    opposite x y e = omega (arith, ints)

    right : (c *ℤ Pg) *ℤ e ≡ neg_ℤ (neg_ℤ Pg *ℤ (c *ℤ e))
    right =
        ap (λ z. z *ℤ e) (*ℤ_comm c Pg) ∙ *ℤ_assoc Pg c e ∙ opposite (Pg *ℤ (c *ℤ e)) (neg_ℤ Pg *ℤ (c *ℤ e)) (neg_ℤ-*ℤ Pg (c *ℤ e))

-- a sum of two kinds of terms
two_sums : (a b : ℤ) (f g : ℕ → ℤ) (n : ℕ) → sum_below_ℤ (λ k. (a *ℤ f k) +ℤ (b *ℤ g k)) n ≡ (a *ℤ sum_below_ℤ f n) +ℤ (b *ℤ sum_below_ℤ g n)
two_sums a b f g n =
    sum_below_ℤ-+ℤ (λ k. a *ℤ f k) (λ k. b *ℤ g k) n ∙ ap (λ z. z +ℤ sum_below_ℤ (λ k. b *ℤ g k) n) (sym (*ℤ-sum_below_ℤ a f n)) ∙ ap (λ z. (a *ℤ sum_below_ℤ f n) +ℤ z) (sym (*ℤ-sum_below_ℤ b g n))

last_step : (a b p c x : ℤ) (n : ℤ) → (neg_ℤ a *ℤ p) +ℤ (neg_ℤ b *ℤ (c -ℤ x)) ≡ (b *ℤ x) -ℤ ((a *ℤ p) +ℤ (b *ℤ c))
last_step a b p c x n = omega (arith, ints, neg_ℤ-*ℤ a p, neg_ℤ-*ℤ b (c -ℤ x), *ℤ--ℤ b c x)

module _ (rows : Rows) (table : List FracRow) (basis : List ℕ) (is : IsTableOf rows table basis) (reads : ReadsOff rows table) where
  pub lines_in : height_of table ≡ length rows.lines
  lines_in = omega (arith, is.rows_in)

  pub real_is : real_columns table ≡ rows.columns
  real_is = omega (arith, is.rows_in, is.columns_in)

  pub identity_is : (line : ℕ) → identity_column table line ≡ rows.columns + line
  identity_is line = omega (arith, real_is)

  pub phase_some : pos 0 <ℤ phase_den table
  phase_some = is.dens (phase_row table) (omega (arith, is.rows_in))

  pub cost_some : pos 0 <ℤ cost_den table
  cost_some = is.dens (cost_row table) (omega (arith, is.rows_in))

  -- the amounts of a column
  abbrev phase_at : ℕ → ℤ
  phase_at column = amount_at table rows.columns (phase_row table) column

  abbrev cost_at : ℕ → ℤ
  cost_at column = amount_at table rows.columns (cost_row table) column

  -- by the phase row alone
  pub weighed_refusal : (column : ℕ) → column ≤ rows.columns → weighed rows (phase_value table) column ≡ neg_ℤ (phase_at column)
  weighed_refusal column within =
      sum_below_ℤ-same (λ l. phase_value table l *ℤ entry rows l column) (λ l. neg_ℤ (pos 1) *ℤ ((identity_at table rows.columns (phase_row table) l -ℤ den_at table (phase_row table)) *ℤ entry rows l column)) (length rows.lines)
      (λ l below. ap (λ j. (phase_den table -ℤ number_at table (phase_row table) j) *ℤ entry rows l column) (identity_is l) ∙ turned (phase_den table) (number_at table (phase_row table) (rows.columns + l)) (entry rows l column))
      ∙ sym (*ℤ-sum_below_ℤ (neg_ℤ (pos 1)) (λ l. (identity_at table rows.columns (phase_row table) l -ℤ den_at table (phase_row table)) *ℤ entry rows l column) (length rows.lines))
      ∙ ap (λ z. neg_ℤ (pos 1) *ℤ z) (sym (reads.phase column within))
      ∙ minus_one-*ℤ (phase_at column)
    where
      turned : (P p e : ℤ) → (P -ℤ p) *ℤ e ≡ neg_ℤ (pos 1) *ℤ ((p -ℤ P) *ℤ e)
      turned P p e = omega (arith, ints, -ℤ-*ℤ P p e, -ℤ-*ℤ p P e, minus_one-*ℤ ((p -ℤ P) *ℤ e))

  -- by both rows
  pub weighed_best : (column : ℕ) → column ≤ rows.columns
      → weighed rows (best_value table) column ≡ (phase_part table *ℤ (cost_den table *ℤ get_or rows.costs column (pos 0))) -ℤ (((pos (phases_added table) *ℤ cost_part table) *ℤ phase_at column) +ℤ (phase_part table *ℤ cost_at column))
  weighed_best column within =
      let m = pos (phases_added table) in
      let phases = λ (l : ℕ). (identity_at table rows.columns (phase_row table) l -ℤ den_at table (phase_row table)) *ℤ entry rows l column in
      let costs = λ (l : ℕ). identity_at table rows.columns (cost_row table) l *ℤ entry rows l column in
      let cost_sum : sum_below_ℤ costs (length rows.lines) ≡ cost_at column -ℤ (cost_den table *ℤ get_or rows.costs column (pos 0)) = omega (arith, ints, reads.cost column within) in
      sum_below_ℤ-same (λ l. best_value table l *ℤ entry rows l column) (λ l. (neg_ℤ (m *ℤ cost_part table) *ℤ phases l) +ℤ (neg_ℤ (phase_part table) *ℤ costs l)) (length rows.lines)
      (λ l below.
      ap (λ j. (((m *ℤ (phase_den table -ℤ number_at table (phase_row table) j)) *ℤ cost_part table) -ℤ (number_at table (cost_row table) j *ℤ phase_part table)) *ℤ entry rows l column) (identity_is l)
      ∙ term m (phase_den table) (number_at table (phase_row table) (rows.columns + l)) (cost_part table) (number_at table (cost_row table) (rows.columns + l)) (phase_part table) (entry rows l column))
      ∙ two_sums (neg_ℤ (m *ℤ cost_part table)) (neg_ℤ (phase_part table)) phases costs (length rows.lines)
      ∙ ap (λ z. (neg_ℤ (m *ℤ cost_part table) *ℤ z) +ℤ (neg_ℤ (phase_part table) *ℤ sum_below_ℤ costs (length rows.lines))) (sym (reads.phase column within))
      ∙ ap (λ z. (neg_ℤ (m *ℤ cost_part table) *ℤ phase_at column) +ℤ (neg_ℤ (phase_part table) *ℤ z)) cost_sum
      ∙ last_step (m *ℤ cost_part table) (phase_part table) (phase_at column) (cost_at column) (cost_den table *ℤ get_or rows.costs column (pos 0)) (pos 0)

  -- ---- real columns and right sides
  phase_real : (column : ℕ) → column < rows.columns → phase_at column ≡ phase_number table column
  phase_real column real = when_lt column rows.columns (phase_number table column) (right_side table (phase_row table)) real

  pub cost_real : (column : ℕ) → column < rows.columns → cost_at column ≡ cost_number table column
  cost_real column real = when_lt column rows.columns (cost_number table column) (right_side table (cost_row table)) real

  phase_side : phase_at rows.columns ≡ right_side table (phase_row table)
  phase_side = when_ge rows.columns rows.columns (phase_number table rows.columns) (right_side table (phase_row table)) (omega arith)

  pub cost_side : cost_at rows.columns ≡ right_side table (cost_row table)
  cost_side = when_ge rows.columns rows.columns (cost_number table rows.columns) (right_side table (cost_row table)) (omega arith)

  pub no_cost : length rows.costs ≡ rows.columns → get_or rows.costs rows.columns (pos 0) ≡ pos 0
  no_cost costs = get_or_past rows.costs rows.columns (pos 0) (omega (arith, costs))

  -- where no point meets the lines
  pub refusal_dual : IsNoPointTable rows table → (column : ℕ) → column < rows.columns → weighed rows (phase_value table) column ≤ℤ pos 0
  refusal_dual none column real = omega (arith, ints, weighed_refusal column (omega arith), phase_real column real, none.phase column real)

  pub refusal_sides : IsNoPointTable rows table → pos 0 <ℤ weighed rows (phase_value table) rows.columns
  refusal_sides none = omega (arith, ints, weighed_refusal rows.columns (omega arith), phase_side, none.unmet)

  -- at a cheapest point
  wanted : (column : ℕ) → column < real_columns table → phases_wanted table column ≤ phases_added table
  unfolding phases_added
  wanted column below = max_below-upper (phases_wanted table) (real_columns table) column below

  some_left : IsBestTable rows table → (column : ℕ) → column < rows.columns → pos 0 ≤ℤ (((pos (phases_added table) *ℤ cost_part table) *ℤ phase_number table column) +ℤ (phase_part table *ℤ cost_number table column))
  some_left best column real = elim (cases_lt_ℤ (cost_number table column)) [
    | inl negative ↦
        no_column_negative (cost_number table column) (cost_den table) (phase_number table column) (phase_den table) (den_divisor table) (phase_part table) (cost_part table) (pos (phases_added table))
        (divisor_some table phase_some cost_some) (phase_part_times table phase_some cost_some) (cost_part_times table phase_some cost_some)
        (phases_enough (cost_number table column) (cost_den table) (phase_number table column) (phase_den table) (phases_added table) negative cost_some (best.none.above column real negative) phase_some
        (wanted column (omega (arith, real_is, real))))
    | inr not_negative ↦
        let one = product_at_least_0 (pos (phases_added table) *ℤ cost_part table) (phase_number table column) (product_at_least_0 (pos (phases_added table)) (cost_part table) (omega (arith, ints)) (above_is_some (cost_part table) (cost_part_some table phase_some cost_some))) (best.none.phase column real) in
        let two = product_at_least_0 (phase_part table) (cost_number table column) (above_is_some (phase_part table) (phase_part_some table phase_some cost_some)) not_negative in
        omega (arith, ints, one, two)
  ]
    where
      cases_lt_ℤ : (z : ℤ) → (z <ℤ pos 0) ⊎ (pos 0 ≤ℤ z)
      cases_lt_ℤ (pos n) = inr (omega (arith, ints))
      cases_lt_ℤ (negsuc n) = inl (omega (arith, ints))

  pub best_dual : IsBestTable rows table → (column : ℕ) → column < rows.columns → weighed rows (best_value table) column ≤ℤ (best_scale table *ℤ get_or rows.costs column (pos 0))
  best_dual best column real =
      let shares = ap (λ z. (pos (phases_added table) *ℤ cost_part table) *ℤ z) (phase_real column real) in
      let prices = ap (λ z. phase_part table *ℤ z) (cost_real column real) in
      let scale = *ℤ_assoc (phase_part table) (cost_den table) (get_or rows.costs column (pos 0)) in
      omega (arith, ints, weighed_best column (omega arith), some_left best column real, shares, prices, scale)

  -- what the right sides come to: the cost of the basic point
  pub best_sides : IsBestTable rows table → length rows.costs ≡ rows.columns → weighed rows (best_value table) rows.columns ≡ neg_ℤ (phase_part table *ℤ right_side table (cost_row table))
  best_sides best costs =
      let m = pos (phases_added table) *ℤ cost_part table in
      let met = ap (λ z. m *ℤ z) (phase_side ∙ best.met) ∙ *ℤ-zero m in
      let side = ap (λ z. phase_part table *ℤ z) cost_side in
      let free = ap (λ z. phase_part table *ℤ (cost_den table *ℤ z)) (no_cost costs) ∙ ap (λ z. phase_part table *ℤ z) (*ℤ-zero (cost_den table)) ∙ *ℤ-zero (phase_part table) in
      omega (arith, ints, weighed_best rows.columns (omega arith), met, side, free)
