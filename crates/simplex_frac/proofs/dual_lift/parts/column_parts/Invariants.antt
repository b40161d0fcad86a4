use Rattle.std.proofs.Common.{unsigned_abs}
use Rattle.simplex_frac.specs.dual_lift.Parts.{AreParts, part_below}
use Rattle.simplex_frac.proofs.dual_lift.parts.column_parts.Given as goal

abbrev pub invariant-loop-line : goal.invariant-loop-line
invariant-loop-line g l = AreParts (part_below (g.R.RowStore.content l.table) l.basis (unsigned_abs l.scale) l.line) l.wanted l.parts.items
