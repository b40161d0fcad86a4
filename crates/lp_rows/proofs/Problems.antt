-- The rows are a problem for the simplex method: no number of theirs and no sum of a column is outgrown.
use Rattle.std.proofs.Common.{◌≡◌, ℕ, ◌+◌, ◌<◌, ◌≤◌, Bool, true, false, if◌then◌else◌, ◌==◌, length, get_or, map, All, Option, Some, None, IfSome, ℤ, pos, ◌-ℤ◌, unsigned_abs, sym, ◌∙◌, ap, subst, inl, inr, arith}
use Rattle.std.specs.Prelude.{unwrap_or}
use Rattle.std.proofs.lemmas.Bool.{cases_lt}
use Rattle.std.proofs.lemmas.Int.{ints}
use Rattle.std.proofs.lemmas.List.{length-map, length_push}
use Rattle.std.proofs.lemmas.List.Elements.{All-map}
use Rattle.sums.proofs.Sums.{sum_below-bound}
use Rattle.frac_row.specs.Outgrown.{IsWithin}
use Rattle.fleet_model.specs.declared.tables.Tables.{Tables}
use Rattle.fleet_model.specs.Kept.{Domains}
use Rattle.fleet_model.specs.Legal.{cost_of}
use Rattle.fleet_model.specs.Limits.{IsCost, IsFleet}
use Rattle.fleet_model.specs.Schedule.{fleet_by, fleet_of, no_fleet}
use Rattle.fleet_model.specs.Times.{laps_of}
use Rattle.fleet_model.proofs.PairCosts.{cost_fits}
use Rattle.fleet_model.proofs.PeriodMinutes.{few_laps}
use Rattle.fleet_model.proofs.ParkingLimits.{few_at}
use Rattle.row_store.specs.Problem.{IsProblem, entry}
use Rattle.row_store.specs.declared.problem.Rows.{Rows}
use Rattle.lp_rows.specs.declared.kinds.Column.{Column}
use Rattle.lp_rows.specs.declared.kinds.Column.TheVariants.{Flight, Ground, Room, Slack}
use Rattle.lp_rows.specs.declared.kinds.Line.{Line}
use Rattle.lp_rows.specs.declared.kinds.Line.TheVariants.{Cover, Balance, Count, Parking}
use Rattle.lp_rows.specs.Entries.{IsColumn, IsLine, column_cost, comes_to_node, entry_of, gets_arc, leaves_node, one_if, passes_day_end, passes_start, right_side_of, same_node, same_park}
use Rattle.lp_rows.specs.Layout.{Starts, program_columns, program_lines}
use Rattle.lp_rows.specs.Points.{column_at}
use Rattle.lp_rows.specs.Program.{AreRows, line_numbers}
use Rattle.lp_rows.proofs.LineNumbers.{line_count, number_at_column, right_side_at}
use Rattle.lp_rows.proofs.Totals.{AreFew, columns_are_known, few_columns, few_lines, lines_are_known}

small_one : (b : Bool) → unsigned_abs (one_if b) ≤ 2
small_one true = omega arith
small_one false = omega arith

small_two : (a b : Bool) → unsigned_abs (one_if a -ℤ one_if b) ≤ 2
small_two true true = omega arith
small_two true false = omega arith
small_two false true = omega arith
small_two false false = omega arith

small_laps : (b : Bool) (n : ℕ) → n ≤ 2 → unsigned_abs (if b then pos n else pos 0) ≤ 2
small_laps true n few = few
small_laps false n few = omega arith

small_entry : (t : Tables) (starts : Starts) (line : Line) (column : Column) → IsColumn t starts column → unsigned_abs (entry_of t starts line column) ≤ 2
small_entry t starts (Cover l) (Flight p) known = small_one (l == p.leg)
small_entry t starts (Cover l) (Ground a) known = omega arith
small_entry t starts (Cover l) (Slack f) known = omega arith
small_entry t starts (Cover l) (Room p) known = omega arith
small_entry t starts (Balance n) (Flight p) known = small_two (comes_to_node t starts n p) (leaves_node t starts n p)
small_entry t starts (Balance n) (Ground a) known = small_two (gets_arc starts n a) (same_node n a)
small_entry t starts (Balance n) (Slack f) known = omega arith
small_entry t starts (Balance n) (Room p) known = omega arith
small_entry t starts (Count f) (Flight p) known = small_laps (f == fleet_by t p) (laps_of t p) (few_laps t p known)
small_entry t starts (Count f) (Ground a) known = small_one (passes_start starts f a)
small_entry t starts (Count f) (Slack g) known = small_one (f == g)
small_entry t starts (Count f) (Room p) known = omega arith
small_entry t starts (Parking p) (Flight q) known = omega arith
small_entry t starts (Parking p) (Ground a) known = small_one (passes_day_end t starts p a)
small_entry t starts (Parking p) (Slack f) known = omega arith
small_entry t starts (Parking p) (Room q) known = small_one (same_park p q)

small_side : (t : Tables) (starts : Starts) (line : Line) → IsLine t starts line → unsigned_abs (right_side_of t line) ≤ 10000
small_side t starts (Cover l) known = omega arith
small_side t starts (Balance n) known = omega arith
small_side t starts (Count f) known = let fits : IsFleet (fleet_of t f) = t.in_range.fleets_fit.each f no_fleet known in omega (arith, fits.aircraft)
small_side t starts (Parking p) known = few_at t p.station

within_of : (c : ℤ) → IsCost c → IsWithin c
within_of c fits = omega (arith, ints, fits.no_less, fits.no_more)

cost_within : (o : Option ℤ) → IfSome o IsCost → IsWithin (unwrap_or o (pos 0))
cost_within (Some c) fits = within_of c fits
cost_within None fits = omega arith

small_cost : (t : Tables) (column : Column) → IsWithin (column_cost t column)
small_cost t (Flight p) = cost_within (cost_of t p) (cost_fits t p)
small_cost t (Ground a) = omega arith
small_cost t (Slack f) = omega arith
small_cost t (Room p) = omega arith

module _ (t : Tables) (keeps : Domains) (starts : Starts) (rows : Rows) (are : AreRows t keeps starts rows) (few : AreFew t starts) where
  small_number : (i c : ℕ) → i < length rows.lines → c ≤ rows.columns → unsigned_abs (entry rows i c) ≤ 10000
  small_number i c within order =
      let place : i < length (program_lines t starts) = omega (arith, line_count t keeps starts rows are) in
      let line = get_or (program_lines t starts) i (Cover 0) in
      elim (cases_lt c rows.columns) [
        | inl below ↦
            let column : c < length (program_columns t keeps starts) = omega (arith, are.columns) in
            let small = small_entry t starts line (column_at (program_columns t keeps starts) c) (columns_are_known t keeps starts c (Slack 0) column) in
            rw (number_at_column t keeps starts rows are i c place column) (omega (arith, small))
        | inr last ↦
            let same : c ≡ rows.columns = omega arith in
            let side = small_side t starts line (lines_are_known t starts i (Cover 0) place) in
            rw (same, right_side_at t keeps starts rows are i place) side
      ]

  widths : All (λ line. length line ≡ rows.columns + 1) rows.lines
  widths = subst (All (λ line. length line ≡ rows.columns + 1)) (sym are.lines)
      (All-map (λ line. length line ≡ rows.columns + 1) (line_numbers t starts (program_columns t keeps starts)) (program_lines t starts)
      (λ k d below. omega (
        arith,
        length_push (map (entry_of t starts (get_or (program_lines t starts) k d)) (program_columns t keeps starts)) (right_side_of t (get_or (program_lines t starts) k d)),
        length-map (program_columns t keeps starts) (entry_of t starts (get_or (program_lines t starts) k d)),
        are.columns,
      )))

  pub is_problem : IsProblem rows
  is_problem = record {
    few = omega (arith, are.columns, line_count t keeps starts rows are, few_columns t keeps starts few, few_lines t starts few);
    widths = widths;
    costs = ap length are.costs ∙ length-map (program_columns t keeps starts) (column_cost t) ∙ sym are.columns;
    costs_within = subst (All IsWithin) (sym are.costs) (All-map IsWithin (column_cost t) (program_columns t keeps starts) (λ k d below. small_cost t (get_or (program_columns t keeps starts) k d)));
    sums_within = λ c order. omega (
      arith,
      sum_below-bound (λ i. unsigned_abs (entry rows i c)) 10000 (length rows.lines) (record { each = λ i below. small_number i c below order }),
      line_count t keeps starts rows are,
      few_lines t starts few,
    );
  }
