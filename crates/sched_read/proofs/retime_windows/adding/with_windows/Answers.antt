use Rattle.std.proofs.Common.{ap, ◌∙◌}
use Rattle.fleet_model.specs.Windows.{departures_of_legs}
use Rattle.sched_read.proofs.retime_windows.TablesWith.{given, given_few, windows_fit}
use Rattle.sched_read.proofs.retime_windows.adding.with_windows.Goals as goal

pub departures_of-requires : goal.departures_of-requires
departures_of-requires c =
    given_few c.args.tables c.args.windows.now c.deref.result.now
    (c.deref.ensures.value ∙ given c.args.tables c.args.windows.now c.minutes-period.result c.into_vec-legs.result.items c.give_times.new.legs.items c.minutes-period.ensures c.into_vec-legs.ensures c.give_times.ensures)

pub invariant_of-result : goal.invariant_of-result
invariant_of-result c =
    let now = given c.args.tables c.args.windows.now c.minutes-period.result c.into_vec-legs.result.items c.give_times.new.legs.items c.minutes-period.ensures c.into_vec-legs.ensures c.give_times.ensures in
    record {
      in_range = rw (c.from_vec.ensures, c.from_vec-2.ensures)
          (windows_fit c.args.tables c.args.windows.now c.requires c.give_times.new.legs.items c.in_ok-departures.departures.items now (c.in_ok-departures.ensures ∙ ap departures_of_legs c.deref.ensures.value));
    }
