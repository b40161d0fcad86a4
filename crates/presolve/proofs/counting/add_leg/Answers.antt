use Rattle.std.proofs.Common.{arith}
use Rattle.fleet_model.specs.Kept.{kept_by}
use Rattle.presolve.proofs.FirstCounts.{all_choices, few_added, none_added, one_choice_more}
use Rattle.presolve.proofs.counting.add_leg.Goals as goal

pub loop-choice-init : goal.loop-choice-init
loop-choice-init c = none_added c.args.tables.now (kept_by c.args.kept.now) c.args.leg c.args.station _

pub add_pair-requires-clause-small : goal.add_pair-requires-clause-small
add_pair-requires-clause-small c =
    few_added c.args.tables.now (kept_by c.args.kept.now) c.args.leg c.args.station c.loop-choice.choice _ _ c.requires.leg (omega (arith, c.choice_count-choice-end.ensures.value)) c.requires.small c.loop-choice.invariant

pub loop-choice-preserved : goal.loop-choice-preserved
loop-choice-preserved c = one_choice_more c.args.tables.now (kept_by c.args.kept.now) c.args.leg c.args.station c.loop-choice.choice _ _ _ c.loop-choice.invariant c.add_pair.ensures

pub returns : goal.returns
returns c = all_choices c.args.tables.now (kept_by c.args.kept.now) c.args.leg c.args.station c.loop-choice.choice _ _ (omega (arith, c.choice_count-choice-end.ensures.value)) c.loop-choice.invariant
