use Rattle.std.proofs.Common.{◌≡◌, ◌+◌}
use Rattle.sums.specs.Places.{list_below}
use Rattle.simplex_frac.proofs.basis.first_basis.Given as goal

abbrev pub invariant-loop-line : goal.invariant-loop-line
invariant-loop-line l = l.basis.items ≡ list_below (λ line. l.columns + line) l.line
