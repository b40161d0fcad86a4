use Rattle.fleet_cli.proofs.StopFacts.{usage_some}
use Rattle.fleet_cli.proofs.answers.reply_to.Goals as goal

pub returns-in_ok-usage-in-Ok-None-clause-some : goal.returns-in_ok-usage-in-Ok-None-clause-some
returns-in_ok-usage-in-Ok-None-clause-some g c = usage_some _ _ _ (rw c.in-Ok-None.field-0-is at c.in-Ok-None.ensures.asked) c.in_ok-usage-in-Ok-None.ensures
