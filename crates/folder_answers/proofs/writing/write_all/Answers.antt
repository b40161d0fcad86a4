use Rattle.std.proofs.Common.{arith, rules}
use Rattle.folder_answers.proofs.CallCounts.{after_one_more, one_more_call}
use Rattle.folder_answers.proofs.WrittenFacts.{held_with_more, one_longer, stopped_at, stopped_first}
use Rattle.folder_answers.proofs.writing.write_all.Goals as goal

pub loop-text-preserved : goal.loop-text-preserved
loop-text-preserved g c = record {
  holds = held_with_more _ _ _ c.loop-text.text-index _ _ _ _ c.text-item.is c.loop-text-test.true c.loop-text.invariant.holds c.in_default.ensures.written;
  faults = search rules;
  taken = search rules;
  calls = after_one_more c.loop-text.text-index (g.D.Desk.calls c.args.desk.now) _ _ c.loop-text.invariant.calls c.in_default.ensures.calls;
  within = let below = c.loop-text-test.true in omega arith;
  lengths = one_longer c.args.texts.now c.loop-text.text-index _ _ c.text-item.is c.loop-text-test.true c.in_default.ensures.length c.loop-text.invariant.lengths;
  steady = search rules;
}

pub returns-in-Err-clause-stopped : goal.returns-in-Err-clause-stopped
returns-in-Err-clause-stopped g c =
    stopped_at _ _ c.in-Err.failure c.args.dir.now c.args.texts.now c.loop-text.text-index _ _ _ _ _ _ c.text-item.is c.loop-text-test.true c.loop-text.invariant.holds c.in-Err.ensures.others c.in-Err.ensures.blamed

pub returns-in-Err-clause-first : goal.returns-in-Err-clause-first
returns-in-Err-clause-first g c = stopped_first _ _ c.in-Err.failure c.args.dir.now c.args.texts.now c.loop-text.text-index _ _ _ c.loop-text-test.true c.loop-text.invariant.holds c.in-Err.ensures.unchanged

pub returns-in-Err-clause-calls : goal.returns-in-Err-clause-calls
returns-in-Err-clause-calls g c = one_more_call _ _ _ _ _ c.loop-text-test.true c.loop-text.invariant.calls c.in-Err.ensures.calls

pub returns-clause-calls : goal.returns-clause-calls
returns-clause-calls g c = record { calls = c.loop-text.text-index; within = c.loop-text.invariant.within; made = c.loop-text.invariant.calls }

pub returns-clause-lengths : goal.returns-clause-lengths
returns-clause-lengths g c = let past = c.loop-text-test.false in record { each = λ k e below. c.loop-text.invariant.lengths k e (omega arith) }
