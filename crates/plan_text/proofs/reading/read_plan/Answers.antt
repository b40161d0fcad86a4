use Rattle.std.proofs.Common.{rules}
use Rattle.plan_text.proofs.ReadOrNot.{below_all, complete}
use Rattle.plan_text.proofs.reading.read_plan.Goals as goal

pub returns-in_default-clause-complete : goal.returns-in_default-clause-complete
returns-in_default-clause-complete c = complete _ _ _ (search rules)

pub returns-clause-reads : goal.returns-clause-reads
returns-clause-reads c = below_all _ _ _ _ (search rules) c.choices_of.ensures.assignment c.choices_of.ensures.reads

pub returns-clause-complete : goal.returns-clause-complete
returns-clause-complete c = complete _ _ _ (below_all _ _ _ _ (search rules) c.choices_of.ensures.assignment c.choices_of.ensures.reads)
