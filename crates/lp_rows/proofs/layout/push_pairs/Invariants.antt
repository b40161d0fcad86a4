use Rattle.std.proofs.Common.{◌≡◌, ◌++◌}
use Rattle.fleet_model.specs.Kept.{kept_by}
use Rattle.lp_rows.specs.Layout.{concat_below, pair_if_kept}
use Rattle.lp_rows.proofs.layout.push_pairs.Given as goal

abbrev pub invariant-loop-choice : goal.invariant-loop-choice
invariant-loop-choice l = l.pairs.items ≡ l.fn.pairs.items ++ concat_below (pair_if_kept (kept_by l.kept) l.leg) l.choice
