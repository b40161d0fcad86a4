use Rattle.std.proofs.Common.{false, ◌∙◌, ap}
use Rattle.std.proofs.lemmas.List.{take_all}
use Rattle.std.proofs.lemmas.List.FromFn.{fill_by_all}
use Rattle.lines_of_flying.specs.ground_turns.Segments.{is_minute_among}
use Rattle.lines_of_flying.proofs.ground_turns.segments.marks.Goals as goal

pub returns : goal.returns
returns c =
    fill_by_all (is_minute_among c.args.list.now) c.loop-minute.marks.items c.args.minutes false c.loop-minute.invariant.whole
    (λ m lt. c.loop-minute.invariant.so_far m lt ∙ ap (λ xs. is_minute_among xs m) (take_all c.loop-minute.minute-index c.args.list.now c.loop-minute-test.false))
