use Rattle.plan_rotations.proofs.through_flights.NoneMore.{none_more}
use Rattle.plan_rotations.proofs.through_flights.laws.none_is_worth_more.Goals as goal

pub returns : goal.returns
returns c = none_more
