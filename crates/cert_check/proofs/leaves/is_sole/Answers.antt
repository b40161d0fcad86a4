use Rattle.std.proofs.Common.{◌∙◌, sym}
use Rattle.fleet_model.specs.Kept.{kept_by, kept_on}
use Rattle.cert_check.proofs.NodeRules.{one_on_more}
use Rattle.cert_check.proofs.leaves.is_sole.Goals as goal

pub loop-leg-preserved : goal.loop-leg-preserved
loop-leg-preserved c = one_on_more (kept_on c.args.tables.now (kept_by c.args.kept.now)) c.loop-leg.leg c.loop-leg.invariant (sym c.count_on.ensures ∙ c.if-count_on-ne1.false)
