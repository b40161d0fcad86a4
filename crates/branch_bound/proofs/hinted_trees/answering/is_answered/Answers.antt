use Rattle.std.proofs.Common.{ap}
use Rattle.cert_check.specs.Nodes.{prices_at}
use Rattle.cert_check.proofs.NodeRules.{prices_known}
use Rattle.cert_check.proofs.SplitsAbove.{sound_but_priced}
use Rattle.branch_bound.proofs.hinted_trees.Answered.{open_test, sole_test}
use Rattle.branch_bound.proofs.hinted_trees.answering.is_answered.Goals as goal

pub own_bound-requires-clause-sound : goal.own_bound-requires-clause-sound
own_bound-requires-clause-sound c = sound_but_priced _ _ _ c.requires

pub own_bound-requires-in-Open-clause-sound : goal.own_bound-requires-in-Open-clause-sound
own_bound-requires-in-Open-clause-sound c = sound_but_priced _ _ _ c.requires

pub returns-in-Sole : goal.returns-in-Sole
returns-in-Sole c = sole_test _ _ _ _ _ _ c.in-Sole.is c.own_bound.ensures c.is_covered.ensures

pub returns-in-Open : goal.returns-in-Open
returns-in-Open c =
    open_test _ _ _ _ _ _ _ _ c.in-Open.is (prices_known _ _ _ _ c.requires (ap prices_at c.in-Open.is)).scale.some c.own_bound-in-Open.ensures c.falls_below.ensures
