-- The run, stage by stage.
use Rattle.std.proofs.Common.{◌≡◌, ℕ, suc, ◌+◌, ◌-◌, ◌<◌, List, length, set, Some, None, sym, ◌∙◌, ap, add-one, length-set}
use Rattle.std.specs.Prelude.{option_and_then}
use Rattle.sums.specs.Places.{list_below}
use Rattle.sums.proofs.Naturals.{less_two}
use Rattle.frac_row.specs.declared.row.FracRow.{FracRow}
use Rattle.row_store.specs.Table.{HasColumns, height_of, IsTable}
use Rattle.row_store.specs.Pivot.{pivoted, pivot_growth}
use Rattle.row_store.proofs.Tables.{length-pivoted, columns_of-pivoted}
use Rattle.simplex_frac.specs.Tableaux.{Tableau, first_tableau}
use Rattle.simplex_frac.specs.Run.{turn, after_turn, unless_outgrown, next_tableau, stage}
use Rattle.simplex_frac.specs.Outcomes.{Reaches}
use Rattle.simplex_frac.specs.declared.turn.Turn.TheVariants.{Pivot}

pub reaches_first : (table : List FracRow) (columns : ℕ) (basis : List ℕ) (height : ℕ) → height + 2 ≡ length table → basis ≡ list_below (λ line. columns + line) height → Reaches table columns 0 table basis
unfolding first_tableau
reaches_first table columns basis height tall e = record {
  reached = ap (λ b. Some (record { table = table; basis = b })) (sym (e ∙ ap (list_below (λ line. columns + line)) (less_two height (length table) tall)));
}

-- one pivot more
pub reaches_next : (first : List FracRow) (columns made : ℕ) (table after : List FracRow) (basis : List ℕ) (row column : ℕ) → Reaches first columns made table basis → Pivot row column ≡ turn (record { table = table; basis = basis }) columns → pivot_growth table row column ≡ None → after ≡ pivoted table row column → Reaches first columns (made + 1) after (set basis row column)
reaches_next first columns made table after basis row column h t none e =
    let now : Tableau = record { table = table; basis = basis } in
    let step : stage first columns (suc made) ≡ Some (record { table = pivoted table row column; basis = set basis row column }) =
    ap (option_and_then (next_tableau columns)) h.reached ∙ ap (after_turn now) (sym t) ∙ ap (unless_outgrown now row column) none in
    record { reached = ap (stage first columns) (add-one made) ∙ step ∙ ap (λ x. Some (record { table = x; basis = set basis row column })) (sym e) }

pub columns_next : (table after : List FracRow) (columns row column : ℕ) → IsTable table → row < length table → HasColumns table columns → after ≡ pivoted table row column → HasColumns after columns
columns_next table after columns row column is lt h e =
    rw e (columns_of-pivoted table row column is lt ∙ h ∙ ap (λ n. columns + (n - 2) + 1) (sym (length-pivoted table row column)))

pub lines_next : (table after : List FracRow) (basis : List ℕ) (row column : ℕ) → length basis ≡ height_of table → after ≡ pivoted table row column → length (set basis row column) ≡ height_of after
lines_next table after basis row column h e =
    length-set basis row column ∙ h ∙ ap (λ n. n - 2) (sym (length-pivoted table row column)) ∙ ap height_of (sym e)
