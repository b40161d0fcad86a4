use Rattle.std.proofs.Common.{◌∙◌, ap}
use Rattle.fleet_model.specs.Kept.{kept_by}
use Rattle.lp_rows.specs.Layout.{concat_below, pairs_of_leg}
use Rattle.lp_rows.proofs.ListsBehind.{ends_at, one_list_next}
use Rattle.lp_rows.proofs.layout.kept_pairs.Goals as goal

pub loop-leg-preserved : goal.loop-leg-preserved
loop-leg-preserved c = one_list_next (pairs_of_leg c.args.tables.now (kept_by c.args.kept.now)) c.loop-leg.leg c.loop-leg.pairs.items _ c.loop-leg.invariant c.in_ok-push_pairs.ensures

pub returns : goal.returns
returns c =
    c.loop-leg.invariant
    ∙ ap (concat_below (pairs_of_leg c.args.tables.now (kept_by c.args.kept.now))) (ends_at c.loop-leg.leg c.leg_count-leg-end.result _ c.loop-leg.auto.leg-end c.loop-leg-test.false c.leg_count-leg-end.ensures)
