use Rattle.std.proofs.Common.{◌∙◌, ap, rules}
use Rattle.std.proofs.lemmas.Int.{to_z-of_z}
use mir.Val.{SFits}
use mir.Syntax.{w128}
use Rattle.frac_row.specs.Row.{number_of}
use Rattle.frac_row.specs.Combined.{factors_of, factors_of_numbers}
use Rattle.frac_row.proofs.sparse_factors.factors_between.Goals as goal

pub of_numbers-requires : goal.of_numbers-requires
of_numbers-requires c =
    let fn : SFits w128 c.number.result = search rules in
    let fp : SFits w128 c.number-2.result = search rules in
    record {
      number = rw (to_z-of_z w128 c.number.result fn, c.number.ensures) (c.requires.row.within c.args.column);
      pivot_number = rw (to_z-of_z w128 c.number-2.result fp, c.number-2.ensures) (c.requires.pivot_row.within c.args.column);
      positive = rw (to_z-of_z w128 c.number-2.result fp, c.number-2.ensures) c.requires.positive;
    }

pub returns : goal.returns
unfolding factors_of
returns c =
    let fn : SFits w128 c.number.result = search rules in
    let fp : SFits w128 c.number-2.result = search rules in
    (simp to_z-of_z at c.of_numbers.ensures) ∙ ap (λ n. factors_of_numbers n c.number-2.result) c.number.ensures
    ∙ ap (factors_of_numbers (number_of c.args.row.now c.args.column)) c.number-2.ensures
