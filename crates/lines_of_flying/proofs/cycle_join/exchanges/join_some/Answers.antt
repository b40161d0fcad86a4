use Rattle.std.proofs.Common.{◌+◌, true, sym, subst}
use Rattle.lines_of_flying.proofs.cycle_join.Passes.{IsPass, pass_joined, pass_on}
use Rattle.lines_of_flying.proofs.cycle_join.exchanges.join_some.Goals as goal
use Rattle.lines_of_flying.proofs.cycle_join.exchanges.join_some.Goals.{in-Some, in_default}

pub loop-place-preserved : goal.loop-place-preserved
loop-place-preserved c = elim c.match-met_by.branch [
  | in-Some w ↦
      subst (λ joined. IsPass c.args.ground.now c.args.cycles.now c.match-met_by.cycles joined (c.loop-place.place + 1)) (sym w.joined-is)
      (subst (λ cycles. IsPass c.args.ground.now c.args.cycles.now cycles true (c.loop-place.place + 1)) (sym w.cycles-is)
      (pass_joined c.args.ground.now c.args.cycles.now c.loop-place.cycles c.loop-place.joined c.loop-place.place c.loop-place.invariant w.join_two.new.cycles
      w.join_two.ensures.cycles w.join_two.ensures.same_length w.join_two.ensures.lower))
  | in_default w ↦
      subst (λ joined. IsPass c.args.ground.now c.args.cycles.now c.match-met_by.cycles joined (c.loop-place.place + 1)) (sym w.joined-is)
      (subst (λ cycles. IsPass c.args.ground.now c.args.cycles.now cycles c.loop-place.joined (c.loop-place.place + 1)) (sym w.cycles-is)
      (pass_on c.args.ground.now c.args.cycles.now c.loop-place.cycles c.loop-place.joined c.loop-place.place c.loop-place.invariant w.in_default.ensures))
]
