use Rattle.std.proofs.Common.{◌∙◌, ap, subst, ◌<◌}
use Rattle.frac_row.specs.Row.{reduced}
use Rattle.frac_row.specs.Combined.{combination, combined_row}
use Rattle.frac_row.proofs.Combinations.{factors_are}
use Rattle.row_store.proofs.table_row.FracRowTableRow.combined.Goals as goal

pub between-factors-requires : goal.between-factors-requires
between-factors-requires c = record {
  row = c.requires.row;
  pivot_row = c.requires.pivot_row;
  in_row = c.requires.in_row;
  in_pivot_row = subst (λ w. c.args.column < w) c.requires.same_width c.requires.in_row;
  positive = c.requires.positive;
}

pub combine_in_place-requires-clause-own : goal.combine_in_place-requires-clause-own
combine_in_place-requires-clause-own c =
    rw c.between-factors.ensures (factors_are c.args.self.now c.args.pivot_row.now c.args.column c.requires.positive).own_positive

pub returns : goal.returns
unfolding combined_row
returns c =
    c.combine_in_place.ensures ∙ ap (λ row. reduced (combination c.between-factors.result row c.args.pivot_row.now)) c.in_ok-made.ensures
    ∙ ap (λ f. reduced (combination f c.args.self.now c.args.pivot_row.now)) c.between-factors.ensures
