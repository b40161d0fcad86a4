use Rattle.std.proofs.Common.{arith}
use Rattle.lines_of_flying.proofs.cycle_join.Passes.{few_labels}
use Rattle.lines_of_flying.proofs.cycle_join.exchanges.join_all.Goals as goal

pub unreachable-requires : goal.unreachable-requires
unreachable-requires c =
    let few = few_labels c.args.ground.now.tables.now c.args.cycles.now.labels.items c.requires.cycles.labels in
    omega (arith, few, c.loop.invariant.passes, c.loop-test.false)

pub loop-preserved : goal.loop-preserved
loop-preserved c = record {
  cycles = c.join_some.ensures.cycles;
  passes = let less = c.join_some.ensures.lower c.if-not-join_some.false in omega (arith, less, c.loop.invariant.passes);
}
