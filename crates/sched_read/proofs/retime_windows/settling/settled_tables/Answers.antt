use Rattle.std.proofs.Common.{ap, ◌∙◌}
use Rattle.fleet_model.specs.Windows.{departures_of_legs}
use Rattle.sched_read.proofs.retime_windows.SettledFit.{settled_few, settled_fit}
use Rattle.sched_read.proofs.retime_windows.settling.settled_tables.Goals as goal

pub departures_of-requires : goal.departures_of-requires
departures_of-requires c = settled_few c.args.tables.now c.args.plan.now c.deref.result.now (c.deref.ensures.value ∙ c.in_ok-legs.ensures)

pub invariant_of-result : goal.invariant_of-result
invariant_of-result c =
    let departures = c.in_ok-departures.ensures ∙ ap departures_of_legs c.deref.ensures.value in
    record {
      in_range = rw (c.from_vec.ensures, c.from_vec-2.ensures, c.from_vec-3.ensures, c.from_vec-4.ensures, c.from_vec-5.ensures, c.from_vec-6.ensures)
          (settled_fit c.args.tables.now c.args.plan.now _ _ _ _ _ _ c.requires.costs (c.in_ok-stations.ensures ∙ c.as_slice.ensures) (c.in_ok-fleets.ensures ∙ c.as_slice-2.ensures)
          c.in_ok-legs.ensures c.in_ok-costs.ensures (c.in_ok-throughs.ensures.items ∙ c.as_slice-3.ensures) departures);
    }
