use Rattle.sched_read.proofs.Settling.{plans_settle}
use Rattle.folder_answers.proofs.reading.tables_of.Goals as goal

pub returns-in-Ok-clause-settles : goal.returns-in-Ok-clause-settles
returns-in-Ok-clause-settles c = plans_settle _ _ _ c.in-Ok.ensures
