use Rattle.std.proofs.Common.{◌≡◌}
use Rattle.fleet_model.specs.Kept.{kept_by}
use Rattle.lp_rows.specs.Layout.{concat_below, pairs_of_leg}
use Rattle.lp_rows.proofs.layout.kept_pairs.Given as goal

abbrev pub invariant-loop-leg : goal.invariant-loop-leg
invariant-loop-leg l = l.pairs.items ≡ concat_below (pairs_of_leg l.tables (kept_by l.kept)) l.leg
