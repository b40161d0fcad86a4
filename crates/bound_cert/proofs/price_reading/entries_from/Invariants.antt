use Rattle.std.proofs.Common.{◌≡◌, None, length}
use Rattle.proof_lines.specs.Known.{naming}
use Rattle.proof_lines.specs.Words.{seen}
use Rattle.bound_cert.specs.Reading.{entries_from, listed}
use Rattle.bound_cert.proofs.price_reading.entries_from.Given as goal

-- the entries so far and those of what is left are all
abbrev pub invariant-loop-line : goal.invariant-loop-line
invariant-loop-line g l =
    entries_from (listed (naming l.grammar) l.due (g.T.Listed.says (naming l.grammar))) (l.entries.items, l.before) (seen l.rest)
    ≡ entries_from (listed (naming l.grammar) l.due (g.T.Listed.says (naming l.grammar))) (l.initial.entries.items, None) (seen l.left)

abbrev pub decreases-loop-line : goal.decreases-loop-line
decreases-loop-line g l = length l.rest
