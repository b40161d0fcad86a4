use Rattle.std.proofs.Common.{sym, ◌∙◌, ap}
use Rattle.std.specs.List.{filter}
use Rattle.std.proofs.lemmas.List.{take_all}
use Rattle.euler_rotation.specs.Prefixes.{may_turn}
use Rattle.euler_rotation.proofs.Filtered.{kept_more, kept_still}
use Rattle.euler_rotation.proofs.field.those_that_may.Goals as goal
use Rattle.euler_rotation.proofs.field.those_that_may.Goals.{then-may_turn+in_ok-push, else-may_turn}

pub loop-other-preserved : goal.loop-other-preserved
loop-other-preserved c =
    let asked = c.args.clean.now.asked.now in
    let may = may_turn asked.tables.now asked.plan.now asked.fleet asked.pairs.now c.args.leg in
    elim c.if-may_turn.branch [
      | then-may_turn+in_ok-push w ↦
          kept_more may c.args.order.now c.loop-other.legs.items c.if-may_turn.legs.items c.loop-other.other-index _ c.loop-other-test.true c.loop-other.invariant
          (ap (λ legs. legs.items) w.legs-is ∙ w.in_ok-push.ensures.items) (sym c.may_turn.ensures ∙ w.if-may_turn.true)
      | else-may_turn w ↦
          ap (λ legs. legs.items) w.legs-is
          ∙ kept_still may c.args.order.now c.loop-other.legs.items c.loop-other.other-index _ c.loop-other-test.true c.loop-other.invariant (sym c.may_turn.ensures ∙ w.if-may_turn.false)
    ]

pub returns : goal.returns
returns c =
    let asked = c.args.clean.now.asked.now in
    c.loop-other.invariant ∙ ap (filter (may_turn asked.tables.now asked.plan.now asked.fleet asked.pairs.now c.args.leg)) (take_all c.loop-other.other-index c.args.order.now c.loop-other-test.false)
