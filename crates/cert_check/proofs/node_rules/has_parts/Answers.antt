use Rattle.std.proofs.Common.{subst}
use Rattle.fleet_model.proofs.FewChoices.{few_choice}
use Rattle.dual_bound.specs.OfTables.{IsOfTables}
use Rattle.cert_check.proofs.node_rules.has_parts.Goals as goal

pub kept-requires-clause-fleet : goal.kept-requires-clause-fleet
kept-requires-clause-fleet c = let parts = subst (IsOfTables c.args.tables.now) c.in-Trim.is c.requires in few_choice _ _ _ parts.0

pub kept-requires-in-Split-clause-fleet : goal.kept-requires-in-Split-clause-fleet
kept-requires-in-Split-clause-fleet c = let parts = subst (IsOfTables c.args.tables.now) c.in-Split.is c.requires in few_choice _ _ _ parts.0
