use Rattle.std.proofs.Common.{◌≡◌, ◌+◌, ◌-◌, ◌≤◌, ℕ, List, length, slice_index_or, Some, None, if◌then◌else◌, refl, arith, ◌∙◌, sym, ap, subst}
use Rattle.std.proofs.lemmas.List.{get_or_read}
use Rattle.sums.specs.Places.{first_below}
use Rattle.frac_row.specs.declared.row.FracRow.{FracRow}
use Rattle.frac_row.specs.Row.{number_of, width_of}
use Rattle.row_store.specs.Table.{IsTable, no_row, row_at, height_of}
use Rattle.row_store.specs.Choice.{entering, improves}
use Rattle.row_store.proofs.sparse_scanning.first_entering.Goals as goal

phase_is : (table : List FracRow) (phase : ℕ) (x : FracRow) → phase ≡ length table - 2 → IsTable table → x ≡ slice_index_or table phase x → x ≡ row_at table (height_of table)
phase_is table phase x e h is = get_or_read table phase x (omega (arith, h.tall)) is no_row ∙ ap (row_at table) e

cost_is : (table : List FracRow) (phase : ℕ) (x : FracRow) → phase ≡ length table - 2 → IsTable table → x ≡ slice_index_or table (phase + 1) x → x ≡ row_at table (height_of table + 1)
cost_is table phase x e h is = get_or_read table (phase + 1) x (omega (arith, h.tall)) is no_row ∙ ap (λ n. row_at table (n + 1)) e

entering_by : (table : List FracRow) (columns : ℕ) (x y : FracRow) → x ≡ row_at table (height_of table) → y ≡ row_at table (height_of table + 1) → first_below (λ column. if improves (number_of x column) (number_of y column) then Some column else None) columns ≡ entering table columns
unfolding entering
entering_by table columns x y p q = rw (p, q) refl

pub first_improving-requires-clause-phase : goal.first_improving-requires-clause-phase
first_improving-requires-clause-phase c =
    let p = phase_is c.args.rows.now _ c.index-rows-phase.result (omega arith) c.requires.table c.index-rows-phase.is in
    let e = ap width_of p ∙ c.requires.table.same_width (height_of c.args.rows.now) (omega (arith, c.requires.table.tall)) in
    subst (λ w. c.args.columns ≤ w) (sym e) c.requires.columns

pub first_improving-requires-clause-cost : goal.first_improving-requires-clause-cost
first_improving-requires-clause-cost c =
    let p = phase_is c.args.rows.now _ c.index-rows-phase.result (omega arith) c.requires.table c.index-rows-phase.is in
    let q = cost_is c.args.rows.now _ c.index-rows-phase-2.result (omega arith) c.requires.table c.index-rows-phase-2.is in
    ap width_of q ∙ c.requires.table.same_width (height_of c.args.rows.now + 1) (omega (arith, c.requires.table.tall))
    ∙ sym (ap width_of p ∙ c.requires.table.same_width (height_of c.args.rows.now) (omega (arith, c.requires.table.tall)))

pub returns : goal.returns
returns c =
    let p = phase_is c.args.rows.now _ c.index-rows-phase.result (omega arith) c.requires.table c.index-rows-phase.is in
    let q = cost_is c.args.rows.now _ c.index-rows-phase-2.result (omega arith) c.requires.table c.index-rows-phase-2.is in
    c.first_improving.ensures ∙ entering_by c.args.rows.now c.args.columns _ _ p q
