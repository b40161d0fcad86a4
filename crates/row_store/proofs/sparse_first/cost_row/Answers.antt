use Rattle.std.proofs.Common.{◌+◌, pos, get_or, rules, arith, ◌∙◌, ap}
use Rattle.std.proofs.lemmas.Int.{to_z-of_z}
use mir.Val.{SFits}
use mir.Syntax.{w128}
use Rattle.frac_row.proofs.FilledRows.{filled_none, filled_more}
use Rattle.row_store.proofs.FirstRows.{cost_number, cost_done}
use Rattle.row_store.proofs.sparse_first.cost_row.Goals as goal

pub loop-column-init : goal.loop-column-init
loop-column-init c = filled_none c.zeros-made.result _ _ c.zeros-made.ensures

pub loop-column-preserved : goal.loop-column-preserved
loop-column-preserved c =
    let f : SFits w128 (get_or c.as_slice-costs.result.now c.loop-column.column (pos 0)) = search rules in
    let is = ap (λ xs. get_or xs c.loop-column.column (pos 0)) c.as_slice-costs.ensures ∙ cost_number c.args.rows.now c.loop-column.column (omega arith) in
    filled_more c.loop-column.made c.put.new.self _ _ c.loop-column.column (get_or c.as_slice-costs.result.now c.loop-column.column (pos 0)) c.loop-column.invariant (omega arith) is (simp to_z-of_z at c.in_ok-put.ensures.put)

pub returns : goal.returns
returns c =
    cost_done c.args.rows.now c.loop-column.made _ c.loop-column.column c.requires (ap (λ n. c.args.rows.now.columns + n + 1) c.len.ensures) (omega arith) c.loop-column.invariant
