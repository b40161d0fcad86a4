use Rattle.std.proofs.Common.{◌≡◌, length}
use Rattle.proof_lines.specs.Known.{naming}
use Rattle.proof_lines.specs.Words.{seen}
use Rattle.bound_cert.specs.Reading.{rents_from}
use Rattle.bound_cert.proofs.price_reading.rents_from.Given as goal

-- the rents so far and those of what is left are all
abbrev pub invariant-loop-line : goal.invariant-loop-line
invariant-loop-line l = rents_from (naming l.grammar) l.rents.items (seen l.rest) ≡ rents_from (naming l.grammar) l.initial.rents.items (seen l.left)

abbrev pub decreases-loop-line : goal.decreases-loop-line
decreases-loop-line l = length l.rest
