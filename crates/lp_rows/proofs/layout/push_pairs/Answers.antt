use Rattle.fleet_model.specs.Kept.{kept_by}
use Rattle.lp_rows.specs.Layout.{pair_if_kept}
use Rattle.lp_rows.proofs.ListsBehind.{all_lists_behind, ends_at, one_list_behind}
use Rattle.lp_rows.proofs.layout.push_pairs.Goals as goal

pub loop-choice-preserved : goal.loop-choice-preserved
loop-choice-preserved c =
    one_list_behind (pair_if_kept (kept_by c.args.kept.now) c.args.leg) c.loop-choice.choice c.args.pairs.now.items c.loop-choice.pairs.items c.push_pair.new.pairs.items c.loop-choice.invariant c.in_ok-push_pair.ensures

pub returns : goal.returns
returns c =
    all_lists_behind (pair_if_kept (kept_by c.args.kept.now) c.args.leg) c.loop-choice.choice _ c.args.pairs.now.items c.loop-choice.pairs.items
    (ends_at c.loop-choice.choice c.choice_count-choice-end.result _ c.loop-choice.auto.choice-end c.loop-choice-test.false c.choice_count-choice-end.ensures.value) c.loop-choice.invariant
