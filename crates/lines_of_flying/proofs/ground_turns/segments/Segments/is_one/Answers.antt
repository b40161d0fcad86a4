use Rattle.lines_of_flying.proofs.ground_turns.OneSegment.{read_between}
use Rattle.lines_of_flying.proofs.ground_turns.segments.Segments.is_one.Goals as goal

pub returns : goal.returns
returns c =
    read_between c.self.inside.numbers.items c.args.self.now c.args.from c.args.to c.from.result c.from-2.result c.index.result.now c.index-2.result.now
    c.self.invariant c.self.view_is c.from.ensures c.from-2.ensures c.index.ensures c.index-2.ensures c.requires.order c.requires.within
