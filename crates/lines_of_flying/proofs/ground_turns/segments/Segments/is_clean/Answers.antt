use Rattle.std.proofs.Common.{◌≡◌, ◌-◌, length, ap, arith}
use Rattle.lines_of_flying.specs.ground_turns.Segments.{span_of}
use Rattle.lines_of_flying.proofs.ground_turns.OneSegment.{told_not, told_round, waits_later}
use Rattle.lines_of_flying.proofs.ground_turns.segments.Segments.is_clean.Goals as goal

pub returns-then-ready-departure : goal.returns-then-ready-departure
returns-then-ready-departure c =
    let wait = waits_later c.args.self.now c.args.ready c.args.departure c.if-ready-departure.true c.requires.departure in
    (λ e. wait.0 (c.is_one.ensures.0 e), λ none. c.is_one.ensures.1 (wait.1 none))

pub returns-then-is_one : goal.returns-then-is_one
returns-then-is_one c =
    let whole : c.len.result - 1 ≡ span_of c.args.self.now = omega (arith, c.len.ensures, c.self.inside.numbers.ok, ap length c.self.view_is) in
    told_round c.args.self.now c.args.ready c.args.departure (c.len.result - 1) c.is_one-else-ready-departure.result c.is_one-then-is_one.result whole
    c.if-ready-departure.false c.requires.ready c.is_one-else-ready-departure.ensures c.if-is_one.true c.is_one-then-is_one.ensures

pub returns-else-is_one : goal.returns-else-is_one
returns-else-is_one c =
    let whole : c.len.result - 1 ≡ span_of c.args.self.now = omega (arith, c.len.ensures, c.self.inside.numbers.ok, ap length c.self.view_is) in
    told_not c.args.self.now c.args.ready c.args.departure (c.len.result - 1) c.is_one-else-ready-departure.result whole
    c.if-ready-departure.false c.requires.ready c.is_one-else-ready-departure.ensures c.if-is_one.false
