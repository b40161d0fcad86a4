use Rattle.std.proofs.Common.{rules, ◌∙◌}
use Rattle.sums.proofs.Places.{list_below-push}
use Rattle.presolve.specs.Reasons.{reason_rent}
use Rattle.presolve.proofs.reasons.rents.Goals as goal

pub loop-fleet-preserved : goal.loop-fleet-preserved
loop-fleet-preserved c =
    c.in_ok-push.ensures.items ∙ list_below-push (reason_rent c.args.rule c.args.own) c.loop-fleet.fleet c.loop-fleet.rents.items _ c.loop-fleet.invariant (search rules)
