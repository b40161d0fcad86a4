use Rattle.fleet_model.proofs.FewChoices.{few_choice}
use Rattle.cert_check.proofs.node_rules.is_sole_legal_in.Goals as goal

pub narrow-requires-clause-fleet : goal.narrow-requires-clause-fleet
narrow-requires-clause-fleet c = few_choice _ _ _ c.requires
