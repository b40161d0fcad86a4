use Rattle.std.proofs.Common.{ap, not, sym, ◌∙◌}
use Rattle.proof_lines.proofs.WordsSoFar.{none_pushed, word_pushed}
use Rattle.proof_lines.proofs.words.push_part.Goals as goal

pub returns-then-is_empty : goal.returns-then-is_empty
returns-then-is_empty c = none_pushed c.args.words.now.items c.args.part (ap not (sym c.is_empty.ensures ∙ c.if-is_empty.true))

pub returns : goal.returns
returns c = word_pushed c.args.words.now.items _ c.args.part (ap not (sym c.is_empty.ensures ∙ c.if-is_empty.false)) c.in_ok-push.ensures.items
