use Rattle.std.proofs.Common.{arith, rules}
use Rattle.std.proofs.lemmas.Int.{ints}
use mir.Val.{SFits}
use mir.Syntax.{w128}
use Rattle.frac_row.specs.Outgrown.{IsWithin}
use Rattle.frac_row.proofs.Rows.{row_from, all_within}
use Rattle.frac_row.proofs.sizes.is_row.Goals as goal

pub returns-then-row-gt0 : goal.returns-then-row-gt0
returns-then-row-gt0 c =
    let fits : SFits w128 c.args.row.now.den = search rules in
    let small : IsWithin c.args.row.now.den = omega (arith, ints) in (
      λ t. row_from c.args.row.now (rw c.as_slice.ensures at (c.are_within.ensures.0 t)) small (omega (arith, ints)),
      λ h. c.are_within.ensures.1 (rw c.as_slice.ensures (all_within c.args.row.now h)),
    )
