use Rattle.simplex_frac.specs.dual_lift.Parts.{AreParts}
use Rattle.simplex_frac.proofs.dual_lift.parts.no_parts.Given as goal

abbrev pub invariant-loop : goal.invariant-loop
invariant-loop l = AreParts (λ column. 0) l.counter l.parts.items
