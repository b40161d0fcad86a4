-- What the table with which a run over a subproblem's lines ended says of its subproblem.
use Rattle.std.proofs.Common.{◌≡◌, ◌≢◌, ℕ, ◌+◌, ◌<◌, ◌≤◌, false, List, length, get_or, None, ℤ, pos, negsuc, ◌*ℤ◌, ◌<ℤ◌, ◌≤ℤ◌, unsigned_abs, refl, sym, ◌∙◌, ap, subst, inl, inr, arith}
use Rattle.std.specs.Prelude.{int_lt}
use Rattle.std.proofs.lemmas.Bool.{cases_order, ltb-false}
use Rattle.std.proofs.lemmas.Int.{ints}
use Rattle.sums.proofs.Division.{positive_factor}
use Rattle.sums.proofs.Integers.{*ℤ_assoc, *ℤ_left_comm}
use Rattle.sums.proofs.Places.{nothing_at}
use Rattle.sums.proofs.Sizes.{pos_above}
use Rattle.frac_row.specs.Row.{common_divisor, number_of, reduced, width_of}
use Rattle.frac_row.specs.declared.row.FracRow.{FracRow}
use Rattle.frac_row.proofs.Rows.{common_divisor_positive, den_times, number_times}
use Rattle.fleet_model.specs.declared.tables.Tables.{Tables}
use Rattle.fleet_model.specs.Kept.{Domains, IsBare, pairs_kept}
use Rattle.fleet_model.specs.Schedule.{fleets_in, legs_in}
use Rattle.row_store.specs.Table.{HasColumns, height_of, row_at}
use Rattle.row_store.specs.declared.problem.Rows.{Rows}
use Rattle.simplex_frac.specs.ReachedTables.{weighed}
use Rattle.simplex_frac.specs.dual_lift.LastTables.{AreDualValues, IsReachedTable, WeighMore}
use Rattle.lp_rows.specs.declared.kinds.Column.{Column}
use Rattle.lp_rows.specs.Entries.{column_cost, entry_of}
use Rattle.lp_rows.specs.Layout.{IsNetwork, Starts, all_nodes, starts_in}
use Rattle.lp_rows.specs.Points.{AreLinesOf, arcs_in, node_count, park_count, priced_count}
use Rattle.lp_rows.specs.Outline.{IsOutline, column_count}
use Rattle.lp_rows.specs.declared.outline.Outline.{Outline}
use Rattle.lp_rows.proofs.Counted.{nodes_are}
use Rattle.lp_rows.proofs.Outlines.{all_columns, columns_are}
use Rattle.lp_rows.proofs.Places.{IsKept}
use Rattle.dual_bound.specs.Prices.{max_price, max_scale}
use Rattle.dual_bound.specs.Worth.{worth_of}
use Rattle.dual_bound.specs.declared.prices.Prices.{Prices}
use Rattle.price_lift.specs.Duals.{dual_value_in, priced_lines}
use Rattle.price_lift.specs.Prices.{AreByLines}
use Rattle.simplex_frac.specs.dual_lift.TooLarge.{lowest_value_excess}
use Rattle.simplex_frac.proofs.dual_lift.BasicPoints.{HaveColumns}
use Rattle.simplex_frac.proofs.dual_lift.LeastScales.{HaveDens}
use Rattle.price_lift.specs.TooLarge.{prices_excess}
use Rattle.simplex_frac.proofs.dual_lift.BestDuals.{lines_in}
use Rattle.price_lift.proofs.Columns.{cost_of_column, weighed_column, weighed_sides}
use Rattle.lp_rows.proofs.ColumnPlaces.{column_number}
use Rattle.price_lift.proofs.DownColumns.{down}
use Rattle.simplex_frac.proofs.dual_lift.Excesses.{first_none, not_excess, second_none}
use Rattle.price_lift.proofs.Lagrangian.{are_within, rise_by_charges, through_nodes, worth_reaches}
use Rattle.price_lift.proofs.Networks.{columns_long, same_arcs, same_nodes}
use Rattle.price_lift.proofs.PaidLifts.{ArePricesLow}

not_less : (a b : ℤ) → int_lt a b ≡ false → b ≤ℤ a
not_less a b e = grind (arith, ints)

-- ---- the shape of a table
module _ (t : Tables) (keeps : Domains) (rows : Rows) (lines : AreLinesOf t keeps rows) (table : List FracRow) (basis : List ℕ) (last : IsReachedTable rows table basis) where
  pub height_is : height_of table ≡ length rows.lines
  height_is = lines_in rows table basis last.shape last.reads

  pub basis_long : length basis ≡ height_of table
  basis_long = omega (arith, last.shape.basis_in, height_is)

  pub priced_are : priced_lines t table ≡ priced_count t lines.starts
  priced_are = omega (arith, height_is, lines.counted.lines)

  pub has_columns : HasColumns table (pairs_kept t keeps + (arcs_in t keeps lines.starts + (fleets_in t + park_count t)))
  has_columns = omega (arith, last.shape.columns_in, last.shape.rows_in, lines.counted.columns)

  pub all_long : (other : Starts) → IsNetwork t keeps other → length (all_nodes t other) ≡ node_count t lines.starts
  all_long other network = omega (arith, nodes_are t lines.starts, ap length (same_nodes t keeps lines.starts other lines.lines.network network))

  pub counted_columns : (outline : Outline) → IsOutline t keeps outline → HasColumns table (column_count outline)
  counted_columns outline is = omega (
    arith,
    has_columns,
    all_columns outline,
    ap length (columns_are t keeps outline is),
    columns_long t keeps (starts_in outline.network),
    same_arcs t keeps lines.starts (starts_in outline.network) lines.lines.network is.network,
  )

  pub have_dens : HaveDens table (height_of table)
  have_dens = record { each = λ line below. last.shape.dens line (omega (arith, below, height_is)) }

  pub own_columns : HaveColumns basis (height_of table)
  own_columns = record {
    differ = λ i j below there same. elim (cases_order i j) [
      | inl e ↦ e
      | inr differ ↦
          let apart : j ≢ i = elim differ [ inl less ↦ (λ e. omega (arith, e)) | inr more ↦ (λ e. omega (arith, e)) ] in
          let none = last.units.others i j (omega (arith, below, height_is)) (omega (arith, there, height_is)) apart in
          let own = last.units.own j (omega (arith, there, height_is)) in
          let some = last.shape.dens j (omega (arith, there, height_is)) in
          absurd (clash (sym (ap (λ c. number_of (row_at table j) c) same ∙ own) ∙ none) some)
    ];
  }
    where
      clash : {d : ℤ} → d ≡ pos 0 → pos 0 <ℤ d → ⊥
      clash {d} e some = omega (arith, ints)

-- ---- dual values in lowest terms
module _ (t : Tables) (duals : FracRow) (some : pos 0 <ℤ duals.den) (fits : prices_excess (legs_in t) duals ≡ None) where
  abbrev pub divisor : ℤ
  divisor = pos (common_divisor duals)

  pub divisor_above : pos 0 <ℤ divisor
  divisor_above = pos_above (common_divisor duals) (common_divisor_positive duals some)

  pub scale_times : divisor *ℤ (reduced duals).den ≡ duals.den
  scale_times = den_times duals

  pub scale_low : pos 1 ≤ℤ (reduced duals).den
  scale_low = low (reduced duals).den (positive_factor (common_divisor duals) (reduced duals).den (subst (λ z. pos 0 <ℤ z) (sym scale_times) some))
    where
      low : (z : ℤ) → pos 0 <ℤ z → pos 1 ≤ℤ z
      low z some = omega (arith, ints)

  pub scale_high : (reduced duals).den ≤ℤ pos max_scale
  scale_high = not_less (pos max_scale) (reduced duals).den (not_excess _ _ _ (first_none _ _ fits))

  pub values_small : (k : ℕ) → k < width_of duals → unsigned_abs (number_of (reduced duals) k) ≤ max_price
  values_small k below = ltb-false max_price (unsigned_abs (number_of (reduced duals) k)) (not_excess _ _ _ (nothing_at (lowest_value_excess max_price (legs_in t) duals) (width_of duals) k (second_none _ _ fits) below))

  pub value_times : (line k : ℕ) → line ≡ legs_in t + k → divisor *ℤ dual_value_in t (reduced duals) line ≡ number_of duals k
  value_times line k is = ap (λ j. divisor *ℤ number_of (reduced duals) j) (omega arith) ∙ number_times duals k

-- ---- dual values of the lines
-- prices by dual values that weigh no column above its cost are proper, and their worth reaches what the right sides weigh
module _ (t : Tables) (keeps : Domains) (rows : Rows) (lines : AreLinesOf t keeps rows) (counted : ℕ) (y : ℕ → ℤ) (duals : FracRow) (values : AreDualValues rows counted duals.den y)
    (fits : prices_excess (legs_in t) duals ≡ None) (wide : width_of duals ≡ priced_count t lines.starts)
    (are : (k : ℕ) → k < priced_count t lines.starts → number_of duals k ≡ y (legs_in t + k))
    (prices : Prices) (scale_is : prices.scale ≡ (reduced duals).den) (by_lines : AreByLines t lines.starts (dual_value_in t (reduced duals)) prices) where
  abbrev net : Starts
  net = lines.starts

  abbrev h : ℤ
  h = divisor t duals values.some fits

  above : pos 0 <ℤ h
  above = divisor_above t duals values.some fits

  scaled : (j : ℕ) → j < priced_count t net → y (legs_in t + j) ≡ h *ℤ dual_value_in t (reduced duals) (legs_in t + j)
  scaled j below = sym (are j below) ∙ sym (value_times t duals values.some fits (legs_in t + j) j refl)

  -- with the scale times the divisor
  factor : (c : ℤ) → ((pos counted *ℤ duals.den) *ℤ c) ≡ (h *ℤ (pos counted *ℤ prices.scale *ℤ c))
  factor c =
      ap (λ z. (pos counted *ℤ z) *ℤ c) (sym (scale_times t duals values.some fits) ∙ ap (λ z. h *ℤ z) (sym scale_is))
      ∙ ap (λ z. z *ℤ c) (*ℤ_left_comm (pos counted) h prices.scale)
      ∙ *ℤ_assoc h (pos counted *ℤ prices.scale) c

  weighs : (c : Column) → IsKept t keeps net c → down t net y (λ line. entry_of t net line c) ≤ℤ (h *ℤ (pos counted *ℤ prices.scale *ℤ column_cost t c))
  weighs c kept =
      let number = column_number t keeps net c kept in
      let real : number.0 < rows.columns = omega (arith, number.1, lines.lines.columns) in
      let sum = weighed_column t keeps net rows lines.lines lines.counted y number.0 number.1 in
      let cost = cost_of_column t keeps net rows lines.lines lines.counted y number.0 number.1 in
      let at = subst (λ col. weighed rows y number.0 ≡ down t net y (λ line. entry_of t net line col)) number.2 sum in
      let paid = subst (λ col. get_or rows.costs number.0 (pos 0) ≡ column_cost t col) number.2 cost in
      subst (λ z. down t net y (λ line. entry_of t net line c) ≤ℤ z) (ap (λ z. (pos counted *ℤ duals.den) *ℤ z) paid ∙ factor (column_cost t c))
      (subst (λ z. z ≤ℤ ((pos counted *ℤ duals.den) *ℤ get_or rows.costs number.0 (pos 0))) at (values.under number.0 real))

  small : (j : ℕ) → j < priced_count t net → unsigned_abs (dual_value_in t (reduced duals) (legs_in t + j)) ≤ max_price
  small j below = subst (λ z. unsigned_abs z ≤ max_price) (sym (at (legs_in t + j) j refl)) (values_small t duals values.some fits j (omega (arith, below, wide)))
    where
      at : (line j : ℕ) → line ≡ legs_in t + j → dual_value_in t (reduced duals) line ≡ number_of (reduced duals) j
      at line j is = ap (number_of (reduced duals)) (omega arith)

  pub low : ArePricesLow t keeps net prices
  low = record {
    network = lines.lines.network;
    scale = record { some = subst (λ z. pos 1 ≤ℤ z) (sym scale_is) (scale_low t duals values.some fits); within = subst (λ z. z ≤ℤ pos max_scale) (sym scale_is) (scale_high t duals values.some fits) };
    limits = are_within t keeps net lines.lines.network prices (dual_value_in t (reduced duals)) by_lines h above y scaled counted weighs small;
    through = through_nodes t keeps net lines.lines.network prices (dual_value_in t (reduced duals)) by_lines h above y scaled counted weighs;
    stay = rise_by_charges t keeps net lines.lines.network prices (dual_value_in t (reduced duals)) by_lines h above y scaled counted weighs;
  }

  pub reaches : ((l : ℕ) → ¬ (IsBare t keeps l)) → weighed rows y rows.columns ≤ℤ (divisor t duals values.some fits *ℤ worth_of t keeps prices counted)
  reaches each =
      subst (λ z. z ≤ℤ (h *ℤ worth_of t keeps prices counted)) (sym (weighed_sides t keeps net rows lines.lines lines.counted y))
      (worth_reaches t keeps net lines.lines.network prices (dual_value_in t (reduced duals)) by_lines h above y scaled counted weighs each)

  -- where the right sides weigh more than 0, so is the worth
  pub refutes : WeighMore rows y → ((l : ℕ) → ¬ (IsBare t keeps l)) → pos 0 <ℤ worth_of t keeps prices counted
  refutes more each = positive_other h (worth_of t keeps prices counted) above (over (weighed rows y rows.columns) (h *ℤ worth_of t keeps prices counted) more.sides (reaches each))
    where
      over : (a b : ℤ) → pos 0 <ℤ a → a ≤ℤ b → pos 0 <ℤ b
      over a b p q = omega (arith, ints)

      positive_other : (h w : ℤ) → pos 0 <ℤ h → pos 0 <ℤ (h *ℤ w) → pos 0 <ℤ w
      positive_other (pos n) w some more = positive_factor n w more
      positive_other (negsuc n) w some more = absurd (omega (arith, ints))
