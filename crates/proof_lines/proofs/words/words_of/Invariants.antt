use Rattle.std.proofs.Common.{◌≡◌, take}
use Rattle.std.specs.Prelude.{filter}
use Rattle.proof_lines.specs.Words.{is_word, seen}
use Rattle.proof_lines.proofs.words.words_of.Given as goal

-- the words so far are those of the parts so far
abbrev pub invariant-loop-part : goal.invariant-loop-part
invariant-loop-part l = seen l.words.items ≡ filter is_word (seen (take l.part-index l.parts))
