use Rattle.std.proofs.Common.{arith}
use Rattle.simplex_frac.proofs.BasisCounts.{none_past, all_chosen, past_at_last, none_chosen}
use Rattle.simplex_frac.proofs.basis_count.bases.Goals as goal

pub loop-chosen-init : goal.loop-chosen-init
loop-chosen-init c = record { count = none_chosen c.max-others.result; within = omega arith }

pub returns-in_err-count-clause-count : goal.returns-in_err-count-clause-count
returns-in_err-count-clause-count c =
    none_past c.from_residual.result _ _ c.from_residual.ensures
    (past_at_last c.args.lines c.args.columns c.max-others.result c.loop-chosen.chosen c.max-others.ensures (omega (arith, c.min-chosen-end.ensures)) c.in_err-count.ensures)

pub returns-clause-count : goal.returns-clause-count
returns-clause-count c =
    all_chosen c.args.lines c.args.columns c.max-others.result c.loop-chosen.chosen c.loop-chosen.count c.max-others.ensures (omega (arith, c.min-chosen-end.ensures)) c.loop-chosen.invariant.count
