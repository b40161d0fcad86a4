use Rattle.std.proofs.Common.{◌≡◌, ◌∙◌, ◌++◌, ap, arith}
use Rattle.lines_of_flying.specs.Lines.{line_after, lines_ended}
use Rattle.lines_of_flying.proofs.Pushed.{ended_more, line_begun}
use Rattle.lines_of_flying.proofs.days.end_days.Goals as goal

pub loop-preserved : goal.loop-preserved
loop-preserved c = record {
  ended = ended_more c.args.line.items c.loop.counter c.args.lines.now.items c.loop.lines.items c.push.new.self.items c.from_vec.result c.loop.invariant.ended (c.from_vec.ensures ∙ c.loop.invariant.rest) c.in_ok-push.ensures.items;
  rest = line_begun c.args.line.items c.loop.counter c.new-line.result.items c.new-line.ensures.items;
}

pub returns-clause-ended : goal.returns-clause-ended
returns-clause-ended c =
    let all : c.loop.counter ≡ c.args.nights = omega arith in
    c.loop.invariant.ended ∙ ap (λ n. c.args.lines.now.items ++ lines_ended c.args.line.items n) all

pub returns-clause-rest : goal.returns-clause-rest
returns-clause-rest c =
    let all : c.loop.counter ≡ c.args.nights = omega arith in
    c.loop.invariant.rest ∙ ap (line_after c.args.line.items) all
