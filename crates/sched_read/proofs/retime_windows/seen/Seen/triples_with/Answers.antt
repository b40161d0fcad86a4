use Rattle.std.proofs.Common.{arith, map, ◌∙◌}
use Rattle.std.proofs.lemmas.Grind.{get_or_default_zero}
use Rattle.sched_read.specs.retime_windows.Keys.{window_key}
use Rattle.sched_read.proofs.retime_windows.Counting.{triples_more}
use Rattle.sched_read.proofs.retime_windows.seen.Seen.triples_with.Goals as goal

pub returns : goal.returns
returns c =
    let here = c.index.ensures ∙ get_or_default_zero c.args.self.now.fleets.items c.args.leg _ c.requires.leg in
    omega (arith, here, c.args.self.now.triples_are, triples_more c.args.self.now.fleets.items (map window_key c.args.self.now.windows.items) c.args.leg c.args.minutes c.requires.leg)
