use Rattle.std.proofs.Common.{refl}
use Rattle.plan_judge.proofs.OneVerdict.{one_verdict}
use Rattle.plan_judge.proofs.OtherSizes.{other_verdict}
use Rattle.plan_judge.proofs.verdicts.judge_as.Goals as goal

pub returns-clause-verdict : goal.returns-clause-verdict
returns-clause-verdict c u is = other_verdict c.args.tables.now c.args.fleet c.args.count c.requires.fleet u is c.args.plan.now c.judge_by.result c.judge_by.ensures

pub returns-clause-legal : goal.returns-clause-legal
returns-clause-legal c u is legal = one_verdict u c.args.plan.now _ _ (returns-clause-verdict c u is) (legal, refl)
