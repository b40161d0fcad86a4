use Rattle.std.proofs.Common.{◌+◌, length, rules, arith, refl, ◌∙◌}
use Rattle.std.proofs.lemmas.Int.{to_z-of_z}
use mir.Val.{SFits}
use mir.Syntax.{w128}
use Rattle.frac_row.specs.Lines.{IsFilledRow}
use Rattle.frac_row.proofs.FilledRows.{filled_more}
use Rattle.lp_rows.specs.Entries.{entry_of, right_side_of}
use Rattle.lp_rows.specs.Layout.{starts_in}
use Rattle.lp_rows.proofs.HeldLines.{right_number, as_long, all_filled}
use Rattle.lp_rows.proofs.MetColumns.{number, begun, met_below, zeros_behind, gone_on, all_met}
use Rattle.lp_rows.proofs.program.line_numbers.Goals as goal

pub loop-column-init : goal.loop-column-init
loop-column-init c = begun c.args.tables.now (starts_in c.args.network.now) c.args.columns.now c.args.line _ c.zeros-row.ensures

pub bounds-columns-column : goal.bounds-columns-column
bounds-columns-column c = met_below c.args.tables.now (starts_in c.args.network.now) c.args.columns.now c.args.line c.args.met.now c.requires.met c.loop-column.column-index c.loop-column-test.true

pub entry-requires-clause-column : goal.entry-requires-clause-column
entry-requires-clause-column c = c.requires.columns _ _ (met_below c.args.tables.now (starts_in c.args.network.now) c.args.columns.now c.args.line c.args.met.now c.requires.met c.loop-column.column-index c.loop-column-test.true)

pub put-requires-clause-in_row : goal.put-requires-clause-in_row
put-requires-clause-in_row c =
    let below = met_below c.args.tables.now (starts_in c.args.network.now) c.args.columns.now c.args.line c.args.met.now c.requires.met c.loop-column.column-index c.loop-column-test.true in
    omega (arith, below, c.loop-column.invariant.same_width)

pub put-requires-clause-zeros : goal.put-requires-clause-zeros
put-requires-clause-zeros c =
    zeros_behind c.args.tables.now (starts_in c.args.network.now) c.args.columns.now c.args.line c.args.met.now c.requires.met c.loop-column.row c.loop-column.column-index c.loop-column-test.true c.loop-column.invariant

pub loop-column-preserved : goal.loop-column-preserved
loop-column-preserved c =
    let f : SFits w128 c.entry.result = search rules in
    gone_on c.args.tables.now (starts_in c.args.network.now) c.args.columns.now c.args.line c.args.met.now c.requires.met c.loop-column.row c.put.new.self c.loop-column.column-index c.entry.result _
    c.loop-column-test.true c.loop-column.invariant c.entry.ensures (simp to_z-of_z at c.in_ok-put.ensures.put)

pub put-requires-2-clause-zeros : goal.put-requires-2-clause-zeros
put-requires-2-clause-zeros c =
    let last = all_met c.args.tables.now (starts_in c.args.network.now) c.args.columns.now c.args.line c.args.met.now c.requires.met c.loop-column.row c.loop-column.column-index c.loop-column-test.false c.loop-column.invariant in
    last.zeros

pub returns : goal.returns
returns c =
    let f : SFits w128 c.right_side.result = search rules in
    let last = all_met c.args.tables.now (starts_in c.args.network.now) c.args.columns.now c.args.line c.args.met.now c.requires.met c.loop-column.row c.loop-column.column-index c.loop-column-test.false c.loop-column.invariant in
    let entries = entry_of c.args.tables.now (starts_in c.args.network.now) c.args.line in
    let right = right_side_of c.args.tables.now c.args.line in
    let more : IsFilledRow c.put-2.new.self (number c.args.tables.now (starts_in c.args.network.now) c.args.columns.now c.args.line) (length c.args.columns.now + 1) (length c.args.columns.now + 1) =
    filled_more c.loop-column.row c.put-2.new.self _ _ (length c.args.columns.now) c.right_side.result last (omega arith)
    (c.right_side.ensures ∙ right_number entries c.args.columns.now right (length c.args.columns.now) refl) (simp to_z-of_z at c.in_ok-put-2.ensures.put) in
    all_filled c.put-2.new.self _ (length c.args.columns.now + 1) (length c.args.columns.now + 1) more (as_long entries c.args.columns.now right) (omega arith)
