use Rattle.std.proofs.Common.{arith}
use Rattle.fleet_model.proofs.FewChoices.{few_choices}
use Rattle.presolve.proofs.first_rule.removed_by.Goals as goal

pub kept-requires-clause-fleet : goal.kept-requires-clause-fleet
kept-requires-clause-fleet c = omega (arith, few_choices c.args.tables.now c.args.pair.leg, c.requires.pair.choice)
