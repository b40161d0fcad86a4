use Rattle.std.proofs.Common.{sym, ◌∙◌, ap}
use Rattle.lines_of_flying.specs.ground_turns.Turns.{touches}
use Rattle.lines_of_flying.proofs.cycle_join.Meeting.{share_first, share_second}
use Rattle.lines_of_flying.proofs.cycle_join.touching.share_minute.Goals as goal

pub returns-then-touches : goal.returns-then-touches
returns-then-touches c =
    let first = c.touches.ensures ∙ ap (touches c.args.tables.now c.args.fleet c.args.turn) c.ready.ensures.value in
    c.if-touches.true ∙ sym (share_first c.args.tables.now c.args.fleet c.args.turn c.args.other (sym first ∙ c.if-touches.true))

pub returns-else-touches : goal.returns-else-touches
returns-else-touches c =
    let first = c.touches.ensures ∙ ap (touches c.args.tables.now c.args.fleet c.args.turn) c.ready.ensures.value in
    c.touches-else-touches.ensures ∙ ap (touches c.args.tables.now c.args.fleet c.args.other) c.ready-else-touches.ensures.value
    ∙ sym (share_second c.args.tables.now c.args.fleet c.args.turn c.args.other (sym first ∙ c.if-touches.false))
