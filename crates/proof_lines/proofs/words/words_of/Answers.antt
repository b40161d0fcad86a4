use Rattle.proof_lines.proofs.WordsSoFar.{part_more}
use Rattle.proof_lines.proofs.words.words_of.Goals as goal

pub loop-part-preserved : goal.loop-part-preserved
loop-part-preserved c = part_more c.args.parts.now c.loop-part.part-index _ c.loop-part-test.true c.loop-part.words.items c.loop-part.invariant _ c.in_ok-push_part.ensures
