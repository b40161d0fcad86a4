use Rattle.std.proofs.Common.{subst, sym}
use Rattle.fleet_model.specs.Kept.{kept_by}
use Rattle.dual_bound.specs.Prices.{ArePrices}
use Rattle.node_bounding.specs.Relaxed.{IsRelaxed}
use Rattle.node_bounding.proofs.Examined.{after_no_sole, before_no_sole, refuted_leaf, sole_leaf, stopped_here}
use Rattle.node_bounding.proofs.examining.examine.Goals as goal

pub returns-then-offer_sole-clause-examined : goal.returns-then-offer_sole-clause-examined
returns-then-offer_sole-clause-examined g c = sole_leaf _ _ _ _ _ _ c.if-offer_sole.ensures

pub bounded-requires-clause-best : goal.bounded-requires-clause-best
bounded-requires-clause-best g c = (subst (IsRelaxed c.args.tables.now (kept_by c.args.kept.now) c.args.pivots) c.in-Bounded.is c.in_ok-prices.ensures)

pub returns-in-Refuted-clause-examined : goal.returns-in-Refuted-clause-examined
returns-in-Refuted-clause-examined g c =
    let refuted = subst (IsRelaxed c.args.tables.now (kept_by c.args.kept.now) c.args.pivots) c.in-Refuted.is c.in_ok-prices.ensures in
    after_no_sole _ _ _ _ _ _ _ c.if-offer_sole.ensures
    (refuted_leaf _ c.args.pivots _ c.requires.best _ _ _ (record { some_pair = c.in_default.ensures; some_choice = c.if-offer_sole.ensures.not_sole }) refuted)

pub stopped-requires : goal.stopped-requires
stopped-requires g c = subst (ArePrices c.args.tables.now) (sym c.in_ok-copied-in-Stopped.ensures) c.requires.above.proper

pub returns-in_ok-copied-in-Stopped-clause-examined : goal.returns-in_ok-copied-in-Stopped-clause-examined
returns-in_ok-copied-in-Stopped-clause-examined g c =
    after_no_sole _ _ _ _ _ _ _ c.if-offer_sole.ensures
    (stopped_here _ c.args.pivots _ c.requires.best _ _ _ _ _ (record { some_pair = c.in_default.ensures; some_choice = c.if-offer_sole.ensures.not_sole }) c.requires.above c.in_ok-copied-in-Stopped.ensures
    (subst (IsRelaxed c.args.tables.now (kept_by c.args.kept.now) c.args.pivots) c.in-Stopped.is c.in_ok-prices.ensures) c.stopped.ensures)

pub returns-in-Bounded-clause-examined : goal.returns-in-Bounded-clause-examined
returns-in-Bounded-clause-examined g c =
    before_no_sole _ _ _ _ _ _ _ _ c.if-offer_sole.ensures (c.bounded.ensures c.args.pivots c.args.above.now)
