use Rattle.std.proofs.Common.{◌∙◌, ap}
use Rattle.frac_row.specs.Row.{reduced}
use Rattle.frac_row.specs.Combined.{combination, combined_row}
use Rattle.frac_row.proofs.Combinations.{factors_are}
use Rattle.frac_row.proofs.combining.combine.Goals as goal

pub combine_in_place-requires-clause-own : goal.combine_in_place-requires-clause-own
combine_in_place-requires-clause-own c =
    rw c.between-factors.ensures (factors_are c.args.row.now c.args.pivot_row.now c.args.column c.requires.positive).own_positive

pub returns-clause-combined : goal.returns-clause-combined
unfolding combined_row
returns-clause-combined c =
    c.combine_in_place.ensures ∙ ap (λ row. reduced (combination c.between-factors.result row c.args.pivot_row.now)) c.in-Ok.ensures
    ∙ ap (λ f. reduced (combination f c.args.row.now c.args.pivot_row.now)) c.between-factors.ensures
