-- The tables of the run are reached by steps.
use Rattle.row_store.specs.Problem.{first_table}
use Rattle.simplex_frac.proofs.ReachedPoints as reached
use Rattle.simplex_frac.specs.Duality.{RunHasTables, RunIsReached}
use Rattle.simplex_frac.proofs.RunLaws.{reached_from}

pub run_is_reached : RunIsReached
run_is_reached rows made table basis h = record {
  problem = h.problem;
  reached = reached_from (first_table rows) rows.columns made (record { table = table; basis = basis }) h.reaches.reached;
}

pub has_tables : RunHasTables
has_tables rows made table basis h = reached.has_tables rows table basis (run_is_reached rows made table basis h)
