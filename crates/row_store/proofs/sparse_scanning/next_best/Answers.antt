use Rattle.std.proofs.Common.{pos, rules, arith, subst, ◌∙◌, ap}
use Rattle.std.specs.Prelude.{◌≤ℤ◌}
use Rattle.std.proofs.lemmas.Int.{ints, to_z-of_z}
use Rattle.std.proofs.lemmas.List.{get_or_read}
use mir.Val.{SFits}
use mir.Syntax.{w128}
use Rattle.frac_row.specs.Row.{number_of}
use Rattle.row_store.specs.Table.{no_row}
use Rattle.row_store.specs.Choice.{candidate_at}
use Rattle.row_store.proofs.Choices.{better_stays, next_is}
use Rattle.row_store.proofs.sparse_scanning.next_best.Goals as goal

pub returns-then-entry-le0 : goal.returns-then-entry-le0
returns-then-entry-le0 c =
    let f : SFits w128 c.number-entry.result = search rules in
    let is = c.number-entry.ensures ∙ ap (λ r. number_of r c.args.column) (get_or_read c.args.rows.now c.args.row c.index-rows-row.result (omega arith) c.index-rows-row.is no_row) in
    let most : c.number-entry.result ≤ℤ pos 0 = omega (arith, ints) in
    better_stays c.args.best (candidate_at c.args.rows.now c.args.basis.now c.args.column c.args.row) (subst (λ z. z ≤ℤ pos 0) is most)

pub returns : goal.returns
returns c =
    let fp : SFits w128 c.number-entry.result = search rules in
    let fq : SFits w128 c.number.result = search rules in
    let read = get_or_read c.args.rows.now c.args.row c.index-rows-row.result (omega arith) c.index-rows-row.is no_row in
    next_is c.args.rows.now c.args.basis.now c.args.column c.args.row c.args.right_side c.args.best c.better.result c.number-entry.result c.number.result
    (c.number-entry.ensures ∙ ap (λ r. number_of r c.args.column) read) (c.number.ensures ∙ ap (λ r. number_of r c.args.right_side) read) c.requires.right_side (simp to_z-of_z at c.better.ensures)
