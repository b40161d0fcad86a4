use Rattle.std.proofs.Common.{rules, ◌∙◌, ap}
use Rattle.std.proofs.lemmas.Int.{to_z-of_z}
use mir.Val.{SFits}
use mir.Syntax.{w128}
use Rattle.frac_row.specs.Row.{number_of, reduced}
use Rattle.row_store.specs.Pivot.{scaled_row}
use Rattle.row_store.proofs.table_row.FracRowTableRow.scaled.Goals as goal

pub returns : goal.returns
unfolding scaled_row
returns c =
    let fq : SFits w128 c.number.result = search rules in
    (simp to_z-of_z at c.reduce.ensures) ∙ ap (λ d. reduced (record { numbers = c.in_ok-made.made.numbers; den = d })) c.number.ensures
    ∙ ap (λ r. reduced (record { numbers = r.numbers; den = number_of c.args.self.now c.args.column })) c.in_ok-made.ensures
