use Rattle.std.proofs.Common.{◌≡◌, ◌+◌, ◌≤◌, ℕ, ℤ, pos, ◌-ℤ◌, FitsSigned, List, length, get_or, neg_ℤ, rules, arith, sym, ◌∙◌, ap, subst, to_z, of_z}
use Rattle.std.proofs.lemmas.Int.{ints}
use mir.Val.{SFits}
use mir.Syntax.{w128}
use Rattle.sums.specs.Places.{list_below}
use Rattle.sums.proofs.Places.{length-list_below, get_or-list_below}
use Rattle.frac_row.specs.Outgrown.{IsWithin}
use Rattle.row_store.specs.declared.problem.Rows.{Rows}
use Rattle.row_store.specs.Problem.{IsProblem}
use Rattle.row_store.proofs.FirstTables.{part_within}
use Rattle.row_store.proofs.FirstRows.{column_sum}
use Rattle.row_store.proofs.sparse_first.phase_number.Goals as goal

opposite_fits : (z : ℤ) → SFits w128 z → IsWithin z → FitsSigned w128 (pos 0 -ℤ to_z w128 (of_z w128 z))
opposite_fits z fits h = omega (arith, ints)

opposite : (z : ℤ) → SFits w128 z → IsWithin z → to_z w128 (of_z w128 (pos 0 -ℤ to_z w128 (of_z w128 z))) ≡ neg_ℤ z
opposite z fits h = omega (arith, ints)

sum_at : (rows : Rows) (sums : List ℤ) (column : ℕ) → sums ≡ list_below (column_sum rows (length rows.lines)) (rows.columns + 1) → column ≤ rows.columns → get_or sums column (pos 0) ≡ column_sum rows (length rows.lines) column
sum_at rows sums column e le = ap (λ xs. get_or xs column (pos 0)) e ∙ get_or-list_below (column_sum rows (length rows.lines)) (rows.columns + 1) column (pos 0) (omega arith)

within : (rows : Rows) (sums : List ℤ) (column : ℕ) → IsProblem rows → sums ≡ list_below (column_sum rows (length rows.lines)) (rows.columns + 1) → column ≤ rows.columns → IsWithin (get_or sums column (pos 0))
within rows sums column p e le = subst IsWithin (sym (sum_at rows sums column e le)) (part_within rows column (length rows.lines) p le (omega arith))

pub overflow_sub-result : goal.overflow_sub-result
overflow_sub-result c =
    let f : SFits w128 (get_or c.args.sums.now c.args.column (pos 0)) = search rules in
    opposite_fits (get_or c.args.sums.now c.args.column (pos 0)) f (within c.args.rows.now c.args.sums.now c.args.column c.requires.problem c.requires.sums c.requires.column)

pub returns : goal.returns
returns c =
    let f : SFits w128 (get_or c.args.sums.now c.args.column (pos 0)) = search rules in
    opposite (get_or c.args.sums.now c.args.column (pos 0)) f (within c.args.rows.now c.args.sums.now c.args.column c.requires.problem c.requires.sums c.requires.column)
    ∙ ap neg_ℤ (sum_at c.args.rows.now c.args.sums.now c.args.column c.requires.sums c.requires.column)

pub bounds-sums-column : goal.bounds-sums-column
bounds-sums-column c = let long = ap length c.requires.sums ∙ length-list_below _ (c.args.rows.now.columns + 1) in omega (arith, c.requires.column)
