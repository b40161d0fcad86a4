use Rattle.std.proofs.Common.{refl}
use Rattle.plan_judge.proofs.OneVerdict.{one_verdict}
use Rattle.plan_judge.proofs.OtherSizes.{own_verdict}
use Rattle.plan_judge.proofs.verdicts.judge.Goals as goal

pub returns-clause-verdict : goal.returns-clause-verdict
returns-clause-verdict c = own_verdict c.args.tables.now c.args.plan.now c.judge_by.result c.judge_by.ensures

pub returns-clause-legal : goal.returns-clause-legal
returns-clause-legal c legal = one_verdict c.args.tables.now c.args.plan.now _ _ (returns-clause-verdict c) (legal, refl)
