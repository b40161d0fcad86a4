use Rattle.std.proofs.Common.{arith, refl}
use Rattle.table_rows.specs.Rows.{fields_in}
use Rattle.table_rows.proofs.SoFar.{row_found, rows_end, rows_within}
use Rattle.plan_text.proofs.SoFar.{so_far_all, so_far_error, so_far_missing}
use Rattle.plan_text.proofs.reading.choices_of.Goals as goal

pub returns-in-Err-clause-reads : goal.returns-in-Err-clause-reads
returns-in-Err-clause-reads c =
    let row = row_found c.args.rows.now c.loop-place.place c.index-rows-place.result c.deref.result.now c.loop-place-test.true c.index-rows-place.is c.deref.ensures.value in
    so_far_error _ _ _ _ (fields_in c.deref.result.now) c.in-Err.error _ c.loop-place.invariant (rows_within _ _ c.loop-place-test.true) row c.in-Err.ensures.reads c.fault_at.ensures

pub returns-then-len-leg_count-clause-reads : goal.returns-then-len-leg_count-clause-reads
returns-then-len-leg_count-clause-reads c =
    so_far_missing _ _ _ _ _ _ c.loop-place.invariant (rows_end c.args.rows.now c.loop-place.place (omega arith) (omega arith)) (omega (arith, c.loop-place.invariant.count))
    (omega (arith, rows_end c.args.rows.now c.loop-place.place (omega arith) (omega arith))) refl

pub returns-clause-assignment : goal.returns-clause-assignment
returns-clause-assignment c =
    (so_far_all _ _ _ _ c.loop-place.invariant (rows_end c.args.rows.now c.loop-place.place (omega arith) (omega arith)) (omega (arith, c.loop-place.invariant.count))).assignment

pub returns-clause-reads : goal.returns-clause-reads
returns-clause-reads c =
    (so_far_all _ _ _ _ c.loop-place.invariant (rows_end c.args.rows.now c.loop-place.place (omega arith) (omega arith)) (omega (arith, c.loop-place.invariant.count))).same
