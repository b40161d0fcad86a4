use Rattle.std.proofs.Common.{sym, subst}
use Rattle.lines_of_flying.specs.cycle_join.Joins.{IsApart}
use Rattle.lines_of_flying.proofs.cycle_join.Answering.{answer_apart, answer_tour}
use Rattle.lines_of_flying.proofs.cycle_join.joined.answer.Goals as goal

pub returns-in_ok-round : goal.returns-in_ok-round
returns-in_ok-round c =
    answer_tour c.args.ground.now c.args.cycles.now c.requires.cycles c.first_leg-first.result c.first_leg-first.ensures c.in_ok-round.field-0
    c.if-has_one_label.ensures c.in_ok-round.ensures

pub returns-in_ok-legs_of : goal.returns-in_ok-legs_of
returns-in_ok-legs_of c =
    subst (IsApart c.args.ground.now.tables.now c.args.ground.now.plan.now c.args.ground.now.fleet c.args.ground.now.pairs.now) (sym c.in_ok-legs_of.ensures)
    (answer_apart c.args.ground.now c.args.cycles.now c.requires.cycles c.first_leg-first.result c.first_leg-first.ensures c.requires.apart c.if-has_one_label.ensures)
