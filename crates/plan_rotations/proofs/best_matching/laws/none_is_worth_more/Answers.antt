use Rattle.plan_rotations.proofs.best_matching.DualLaws.{none_more}
use Rattle.plan_rotations.proofs.best_matching.laws.none_is_worth_more.Goals as goal

pub returns : goal.returns
returns c = none_more
