use Rattle.std.proofs.Common.{refl}
use Rattle.std.specs.Fmt.{digits}
use Rattle.proof_lines.proofs.laws.lines_in_letters.Goals as goal

pub returns-clause-pivots : goal.returns-clause-pivots
unfolding digits
returns-clause-pivots c t = refl

pub returns-clause-grew : goal.returns-clause-grew
unfolding digits
returns-clause-grew c t = refl

pub returns-clause-lift : goal.returns-clause-lift
unfolding digits
returns-clause-lift c t = refl

pub returns-clause-scale : goal.returns-clause-scale
unfolding digits
returns-clause-scale c t = refl

pub returns-clause-mixed : goal.returns-clause-mixed
unfolding digits
returns-clause-mixed c t = refl
