use Rattle.plan_judge.proofs.LegalCosts.{legal_costs}
use Rattle.plan_judge.proofs.verdicts.legal_cost.Goals as goal

pub returns : goal.returns
returns c = rw c.cost_in.ensures (legal_costs _ _ _ _ c.requires.sizes c.judge_by.ensures)
