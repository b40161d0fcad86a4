use Rattle.rotation_report.proofs.DatedLegs.{each_leg_on_its_day}
use Rattle.rotation_report.proofs.OwnDates.{each_date_is_its_own}
use Rattle.rotation_report.proofs.RoundLines.{comes_to_next_line, each_aircraft_flies_all, follows_next_aircraft}
use Rattle.rotation_report.proofs.laws.tails_fly_the_tour.Goals as goal

pub returns : goal.returns
returns c = record {
  each_date = each_leg_on_its_day;
  each_aircraft = each_aircraft_flies_all;
  next_line = comes_to_next_line;
  next_aircraft = follows_next_aircraft;
  own_date = each_date_is_its_own;
}
