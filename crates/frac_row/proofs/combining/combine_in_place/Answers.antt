use Rattle.std.proofs.Common.{rules, ◌∙◌, ap}
use mir.Val.{SFits}
use mir.Syntax.{w128}
use Rattle.frac_row.specs.Row.{reduced}
use Rattle.frac_row.proofs.Combinations.{row_fits, den_fits, combination_is_row, combination_from}
use Rattle.frac_row.proofs.Fits.{product_fits, product_is}
use Rattle.frac_row.proofs.combining.combine_in_place.Goals as goal

pub combine_numbers-requires-clause-fits : goal.combine_numbers-requires-clause-fits
combine_numbers-requires-clause-fits c k lt =
    rw c.as_slice.ensures (row_fits c.args.factors.now c.args.row.now c.args.pivot_row.now k c.requires.fits lt)

pub overflow_mul-row : goal.overflow_mul-row
overflow_mul-row c =
    let fa : SFits w128 c.args.factors.now.own = search rules in
    let fb : SFits w128 c.args.row.now.den = search rules in
    product_fits _ _ fa fb (den_fits c.args.factors.now c.args.row.now c.args.pivot_row.now c.requires.fits)

pub reduce-requires : goal.reduce-requires
reduce-requires c =
    let fa : SFits w128 c.args.factors.now.own = search rules in
    let fb : SFits w128 c.args.row.now.den = search rules in
    rw (combination_from c.args.factors.now c.args.row.now c.args.pivot_row.now _ _ (rw c.as_slice.ensures at c.combine_numbers.ensures) (product_is _ _ fa fb (den_fits c.args.factors.now c.args.row.now c.args.pivot_row.now c.requires.fits)))
    (combination_is_row c.args.factors.now c.args.row.now c.args.pivot_row.now c.requires.own c.requires.row c.requires.fits)

pub returns : goal.returns
returns c =
    let fa : SFits w128 c.args.factors.now.own = search rules in
    let fb : SFits w128 c.args.row.now.den = search rules in
    c.reduce.ensures ∙ ap reduced (combination_from c.args.factors.now c.args.row.now c.args.pivot_row.now _ _ (rw c.as_slice.ensures at c.combine_numbers.ensures) (product_is _ _ fa fb (den_fits c.args.factors.now c.args.row.now c.args.pivot_row.now c.requires.fits)))
