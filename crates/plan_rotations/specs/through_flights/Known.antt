-- What is known of a fleet's turns before their worths are asked for.
use Rattle.std.specs.Prelude.{◌<◌}
use Rattle.fleet_model.specs.Legal.{IsAssignment}
use Rattle.fleet_model.specs.Schedule.{fleets_in}
use Rattle.plan_rotations.specs.through_flights.Waits.{AreLongestWaits}
use Rattle.plan_rotations.specs.declared.through_flights.worths.FleetTurns.{FleetTurns}

pub record AreFleetTurns (turns : FleetTurns) : Type 0 where
  pub assignment : IsAssignment turns.tables.now turns.plan.now
  pub fleet : turns.fleet < fleets_in turns.tables.now
  pub longest : AreLongestWaits turns.tables.now turns.plan.now turns.fleet turns.longest
