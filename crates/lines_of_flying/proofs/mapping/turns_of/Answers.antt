use Rattle.std.proofs.Common.{◌≡◌, ◌<◌, ◌==◌, ℕ, false, sym, ◌∙◌, ap, subst, arith}
use Rattle.std.proofs.lemmas.Bool.{eq-eqb}
use Rattle.std.proofs.lemmas.Bool.Decides.{nat_tests}
use Rattle.fleet_model.specs.Schedule.{legs_in}
use Rattle.lines_of_flying.specs.Successors.{AreSuccessors}
use Rattle.lines_of_flying.proofs.AllSuccessors.{are_successors, no_turn_more, no_turns, turn_more, turns_below}
use Rattle.lines_of_flying.proofs.mapping.turns_of.Goals as goal
use Rattle.lines_of_flying.proofs.mapping.turns_of.Goals.{then-choice-ground+in_ok-push, else-choice-ground}

other_fleet : (m f : ℕ) → ¬ (m ≡ f) → (m == f) ≡ false
other_fleet m f differ = grind (arith, nat_tests)

pub follower-requires-clause-ground : goal.follower-requires-clause-ground
follower-requires-clause-ground c = c.requires.ground

pub follower-requires-clause-places : goal.follower-requires-clause-places
follower-requires-clause-places c = c.requires.places

pub loop-leg-init : goal.loop-leg-init
loop-leg-init c =
    c.new-turns.ensures.items ∙ no_turns c.args.ground.now.tables.now c.args.ground.now.plan.now c.args.ground.now.fleet c.args.ground.now.pairs.now

pub loop-leg-preserved : goal.loop-leg-preserved
loop-leg-preserved c = elim c.if-choice-ground.branch [
  | then-choice-ground+in_ok-push w ↦
      let below : c.loop-leg.leg < legs_in c.args.ground.now.tables.now = omega (arith, c.loop-leg-test.true, c.leg_count-leg-end.ensures) in
      ap (λ turns. turns.items) w.turns-is ∙ w.in_ok-push.ensures.items
      ∙ turn_more c.args.ground.now.tables.now c.args.ground.now.plan.now c.args.ground.now.fleet c.args.ground.now.pairs.now c.requires.held
      c.loop-leg.leg w.follower.result c.loop-leg.turns.items c.loop-leg.invariant below (eq-eqb _ _ (sym c.choice.ensures ∙ w.if-choice-ground.true)) w.follower.ensures
  | else-choice-ground w ↦
      ap (λ turns. turns.items) w.turns-is
      ∙ no_turn_more c.args.ground.now.tables.now c.args.ground.now.plan.now c.args.ground.now.fleet c.args.ground.now.pairs.now
      c.loop-leg.leg c.loop-leg.turns.items c.loop-leg.invariant (other_fleet _ _ (λ same. w.if-choice-ground.false (c.choice.ensures ∙ same)))
]

pub returns : goal.returns
returns c =
    let all : c.loop-leg.leg ≡ legs_in c.args.ground.now.tables.now = omega (arith, c.loop-leg-test.false, c.loop-leg.auto.leg-end, c.leg_count-leg-end.ensures) in
    subst (AreSuccessors c.args.ground.now.tables.now c.args.ground.now.plan.now c.args.ground.now.fleet c.args.ground.now.pairs.now)
    (sym (c.loop-leg.invariant ∙ ap (turns_below c.args.ground.now.tables.now c.args.ground.now.plan.now c.args.ground.now.fleet c.args.ground.now.pairs.now) all))
    (are_successors c.args.ground.now.tables.now c.args.ground.now.plan.now c.args.ground.now.fleet c.args.ground.now.pairs.now c.requires.held)
