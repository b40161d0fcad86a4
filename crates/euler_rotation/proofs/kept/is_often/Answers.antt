use Rattle.std.proofs.Common.{◌∙◌, sym}
use Rattle.lines_of_flying.specs.ground_turns.Nights.{nights_of_tour}
use Rattle.euler_rotation.proofs.Told.{fails, told_as}
use Rattle.euler_rotation.proofs.TourGone.{none_kept, once_too_far, twice_told}
use Rattle.euler_rotation.proofs.kept.is_often.Goals as goal

pub returns-then-not-has_some : goal.returns-then-not-has_some
returns-then-not-has_some c = fails (none_kept c.args.asked.now.tables.now c.args.asked.now.days
    (nights_of_tour c.args.asked.now.tables.now c.args.asked.now.fleet c.args.legs.now) c.requires.asked.some_days (sym c.has_some.ensures ∙ c.if-not-has_some.true))

pub returns-in-None : goal.returns-in-None
returns-in-None c = fails (once_too_far c.args.asked.now.tables.now c.args.asked.now.days
    (nights_of_tour c.args.asked.now.tables.now c.args.asked.now.fleet c.args.legs.now) c.requires.asked.some_days c.in-None.ensures)

pub returns-in-Some : goal.returns-in-Some
returns-in-Some c = told_as c.is_some.ensures (twice_told c.args.asked.now.tables.now c.args.asked.now.days
    (nights_of_tour c.args.asked.now.tables.now c.args.asked.now.fleet c.args.legs.now) c.requires.asked.some_days c.in-Some.since c.go_round-in-Some.result
    (sym c.has_some.ensures ∙ c.if-not-has_some.false) c.in-Some.ensures c.go_round-in-Some.ensures)
