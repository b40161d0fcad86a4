use Rattle.std.proofs.Common.{◌≡◌, length, slice_index, ◌∙◌, ap, arith}
use Rattle.plan_rotations.specs.through_flights.Choice.{turns_below}
use Rattle.plan_rotations.specs.through_flights.Chosen.{is_chosen}
use Rattle.plan_rotations.proofs.through_flights.PushedTurns.{none_chosen, one_chosen}
use Rattle.plan_rotations.proofs.through_flights.choosing.chosen_pairs.Goals as goal
use Rattle.plan_rotations.proofs.through_flights.choosing.chosen_pairs.Goals.{then-as_slice-next-gt-CLEAN_WORTH+in_ok-push, else-as_slice-next-gt-CLEAN_WORTH}

pub loop-leg-preserved : goal.loop-leg-preserved
loop-leg-preserved c = elim c.if-as_slice-next-gt-CLEAN_WORTH.branch [
  | then-as_slice-next-gt-CLEAN_WORTH+in_ok-push w ↦
      one_chosen c.args.worths.now c.args.columns.now c.loop-leg.leg c.loop-leg-test.true c.index-worths-leg.result c.as_slice-in-loop-leg.result.now c.as_slice.result.now c.index-worths-leg.is
      c.as_slice-in-loop-leg.ensures c.as_slice.ensures c.loop-leg.pairs.items c.loop-leg.invariant c.if-as_slice-next-gt-CLEAN_WORTH.pairs.items
      (ap (λ pairs. pairs.items) w.pairs-is ∙ w.in_ok-push.ensures.items) w.if-as_slice-next-gt-CLEAN_WORTH.true
  | else-as_slice-next-gt-CLEAN_WORTH w ↦
      ap (λ pairs. pairs.items) w.pairs-is
      ∙ none_chosen c.args.worths.now c.args.columns.now c.loop-leg.leg c.loop-leg-test.true c.index-worths-leg.result c.as_slice-in-loop-leg.result.now c.as_slice.result.now c.index-worths-leg.is
      c.as_slice-in-loop-leg.ensures c.as_slice.ensures c.loop-leg.pairs.items c.loop-leg.invariant w.if-as_slice-next-gt-CLEAN_WORTH.false
]

pub returns : goal.returns
returns c =
    let all : c.loop-leg.leg ≡ length c.args.worths.now = omega (arith, c.loop-leg-test.false, c.loop-leg.auto.leg-end) in
    c.from_vec.ensures ∙ c.loop-leg.invariant ∙ ap (turns_below (is_chosen c.args.worths.now c.args.columns.now) (slice_index c.args.columns.now)) all
