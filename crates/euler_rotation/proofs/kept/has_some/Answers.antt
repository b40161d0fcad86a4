use Rattle.std.proofs.Common.{◌∙◌, true, false, sym, ap, arith}
use Rattle.std.specs.List.{list_any}
use Rattle.lines_of_flying.specs.ground_turns.Nights.{can_maintain, nights_in_turn}
use Rattle.euler_rotation.proofs.TourGone.{rest_none, some_more}
use Rattle.euler_rotation.proofs.kept.has_some.Goals as goal

pub returns-then-has_maintenance : goal.returns-then-has_maintenance
returns-then-has_maintenance c =
    sym (c.loop-place.invariant
    ∙ some_more c.args.asked.now.tables.now c.args.asked.now.fleet c.args.legs.now c.loop-place.place true c.loop-place-test.true
    (ap (λ turn. list_any (can_maintain c.args.asked.now.tables.now) (nights_in_turn c.args.asked.now.tables.now c.args.asked.now.fleet turn)) (sym c.turn_after.ensures)
    ∙ sym c.has_maintenance.ensures ∙ c.if-has_maintenance.true))

pub loop-place-preserved : goal.loop-place-preserved
loop-place-preserved c =
    c.loop-place.invariant
    ∙ some_more c.args.asked.now.tables.now c.args.asked.now.fleet c.args.legs.now c.loop-place.place false c.loop-place-test.true
    (ap (λ turn. list_any (can_maintain c.args.asked.now.tables.now) (nights_in_turn c.args.asked.now.tables.now c.args.asked.now.fleet turn)) (sym c.turn_after.ensures)
    ∙ sym c.has_maintenance.ensures ∙ c.if-has_maintenance.false)

pub returns : goal.returns
returns c =
    sym (c.loop-place.invariant
    ∙ ap (list_any (can_maintain c.args.asked.now.tables.now)) (rest_none c.args.asked.now.tables.now c.args.asked.now.fleet c.args.legs.now c.loop-place.place (omega (arith, c.loop-place-test.false))))
