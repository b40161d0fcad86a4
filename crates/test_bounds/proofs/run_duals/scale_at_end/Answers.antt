use Rattle.test_bounds.proofs.RunTables.{basis_in}
use Rattle.test_bounds.proofs.run_duals.scale_at_end.Goals as goal

pub least_scale-requires-clause-basis : goal.least_scale-requires-clause-basis
least_scale-requires-clause-basis c = basis_in _ _ _ _ _ c.requires.problem c.in_ok-table.ensures.table c.in_ok-basis.ensures.outcome _ _ _ c.in-Best.is c.as_slice.ensures
