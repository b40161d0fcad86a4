use Rattle.fleet_model.proofs.FewChoices.{few_choice}
use Rattle.node_bounding.proofs.Allowed.{allowed_part, allowed_rows}
use Rattle.branch_bound.proofs.branching.part.Goals as goal

pub narrow-undo-requires-clause-fleet : goal.narrow-undo-requires-clause-fleet
narrow-undo-requires-clause-fleet g c = few_choice c.args.tables.now c.args.step.leg c.args.step.choice c.requires.pair

pub examine-requires-clause-allowed : goal.examine-requires-clause-allowed
examine-requires-clause-allowed g c = allowed_rows _ _ _ c.narrow-undo.ensures.kept (allowed_part _ _ _ c.requires.allowed)
