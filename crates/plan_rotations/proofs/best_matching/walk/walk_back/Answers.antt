use Rattle.std.proofs.Common.{sym, ◌∙◌}
use Rattle.plan_rotations.proofs.best_matching.Exchanging.{exchanged_columns, exchanged_pairing}
use Rattle.plan_rotations.proofs.best_matching.Walking.{before_within, root_on_tree, turned_more, way_more}
use Rattle.plan_rotations.proofs.best_matching.walk.walk_back.Goals as goal

pub loop-before-preserved : goal.loop-before-preserved
loop-before-preserved c =
    let v = c.loop-before.invariant in
    let lt = before_within _ _ _ _ _ _ v.pairing v.way c.requires.free v.before in
    let h = exchanged_columns _ _ _ _ _ v.pairing c.requires.free lt c.exchange.ensures in
    record {
      pairing = exchanged_pairing _ _ _ _ _ v.pairing c.requires.free lt c.exchange.ensures;
      way = way_more _ _ _ _ _ _ _ v.way (v.pairing.column_within c.args.free c.requires.free) v.before c.loop-before-test.true h;
      before = c.row_before-before-in-loop-before.ensures;
      turned = turned_more _ _ _ _ _ _ _ _ v.turned v.way v.before h;
      root_kept = λ ne. h.others c.args.root (λ same. ne (sym same)) (λ same. c.loop-before-test.true (sym same)) ∙ v.root_kept ne;
      row_duals = c.exchange.ensures.row_duals ∙ v.row_duals;
      column_duals = c.exchange.ensures.column_duals ∙ v.column_duals;
    }

pub returns-clause-pairing : goal.returns-clause-pairing
returns-clause-pairing c = exchanged_pairing _ _ _ _ _ c.loop-before.invariant.pairing c.requires.free c.requires.root c.exchange-2.ensures

pub returns-clause-turned : goal.returns-clause-turned
returns-clause-turned c =
    let v = c.loop-before.invariant in
    let h = exchanged_columns _ _ _ _ _ v.pairing c.requires.free c.requires.root c.exchange-2.ensures in
    turned_more _ _ _ _ _ _ _ _ v.turned v.way (sym c.loop-before-test.false ∙ v.before) h

pub returns-clause-root : goal.returns-clause-root
returns-clause-root c =
    let v = c.loop-before.invariant in
    root_on_tree _ _ _ _ _ _ _ v.way v.before c.loop-before-test.false (exchanged_columns _ _ _ _ _ v.pairing c.requires.free c.requires.root c.exchange-2.ensures)

pub returns-clause-free : goal.returns-clause-free
returns-clause-free c ne =
    let v = c.loop-before.invariant in
    let h = exchanged_columns _ _ _ _ _ v.pairing c.requires.free c.requires.root c.exchange-2.ensures in
    h.at_one ∙ v.root_kept ne
