use Rattle.test_bounds.proofs.RunTables.{has_phases}
use Rattle.test_bounds.proofs.run_duals.values_at_end.Goals as goal

pub of-requires-clause-phases : goal.of-requires-clause-phases
of-requires-clause-phases c = has_phases _ _ _ _ _ c.requires c.in_ok-table.ensures.table c.in_ok-solve.ensures.outcome _ _ c.in-Best.is
