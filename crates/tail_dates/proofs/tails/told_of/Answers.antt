use Rattle.std.proofs.Common.{Vec, Global, ℕ, ap, ◌∙◌}
use Rattle.tail_dates.proofs.Told.{none_more, one_more}
use Rattle.tail_dates.proofs.tails.told_of.Goals as goal
use Rattle.tail_dates.proofs.tails.told_of.Goals.{else-tail-fleet, then-tail-fleet+in_ok-push_told}

pub loop-place-preserved : goal.loop-place-preserved
loop-place-preserved c = elim c.if-tail-fleet.branch [
  | then-tail-fleet+in_ok-push_told w ↦
      ap (λ (told : Vec ℕ Global). told.items) w.told-is
      ∙ one_more c.args.tables.now c.args.fleet c.args.tails.now c.loop-place.place c.index-tails-place.result c.loop-place.told.items c.loop-place-test.true c.index-tails-place.is _ w.if-tail-fleet.true c.loop-place.invariant w.in_ok-push_told.ensures
  | else-tail-fleet w ↦
      ap (λ (told : Vec ℕ Global). told.items) w.told-is
      ∙ none_more c.args.tables.now c.args.fleet c.args.tails.now c.loop-place.place c.index-tails-place.result c.loop-place.told.items c.loop-place-test.true c.index-tails-place.is w.if-tail-fleet.false c.loop-place.invariant
]
