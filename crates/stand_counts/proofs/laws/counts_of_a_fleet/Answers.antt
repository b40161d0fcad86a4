use Rattle.stand_counts.proofs.FleetCounts.{counts_of_fleet}
use Rattle.stand_counts.proofs.laws.counts_of_a_fleet.Goals as goal

pub returns : goal.returns
returns c = counts_of_fleet
