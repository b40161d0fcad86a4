use Rattle.std.proofs.Common.{◌≡◌, ◌+◌, length, slice_set, rules, arith, ap, subst}
use Rattle.std.proofs.lemmas.Int.{to_z-of_z}
use mir.Val.{SFits}
use mir.Syntax.{w128}
use Rattle.frac_row.proofs.FilledRows.{filled_none, filled_more}
use Rattle.row_store.proofs.FirstRows.{phase_number, phase_right, past_identity, right_put}
use Rattle.row_store.proofs.sparse_first.phase_row.Goals as goal

pub loop-column-init : goal.loop-column-init
loop-column-init c = filled_none c.zeros-made.result _ _ c.zeros-made.ensures

pub loop-column-preserved : goal.loop-column-preserved
loop-column-preserved c =
    let f : SFits w128 c.phase_number.result = search rules in
    filled_more c.loop-column.made c.put.new.self _ _ c.loop-column.column c.phase_number.result c.loop-column.invariant (omega arith) (phase_number c.args.rows.now c.loop-column.column c.phase_number.result (omega arith) c.phase_number.ensures) (simp to_z-of_z at c.in_ok-put.ensures.put)

pub returns : goal.returns
returns c =
    let f : SFits w128 c.phase_number-2.result = search rules in
    right_put c.args.rows.now (length c.args.rows.now.lines) c.loop-column.made c.put-2.new.self _ c.phase_number-2.result (ap (λ n. c.args.rows.now.columns + n + 1) c.len.ensures)
    (past_identity c.args.rows.now (length c.args.rows.now.lines) c.loop-column.made _ c.loop-column.column (omega arith) (omega arith) c.loop-column.invariant)
    (phase_right c.args.rows.now c.phase_number-2.result c.phase_number-2.ensures)
    (subst (λ n. c.put-2.new.self ≡ record { numbers = slice_set c.loop-column.made.numbers (c.args.rows.now.columns + n) c.phase_number-2.result; den = c.loop-column.made.den }) c.len.ensures (simp to_z-of_z at c.in_ok-put-2.ensures.put))
