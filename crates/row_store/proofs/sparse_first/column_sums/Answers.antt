use Rattle.std.proofs.Common.{◌≡◌, ◌+◌, ◌<◌, pos, [], length, get_or, replicate, rules, arith, ◌∙◌, ap}
use Rattle.std.proofs.lemmas.List.{get_or_read}
use Rattle.row_store.proofs.FirstRows.{sums_none, line_as_long, sums_fit, sums_more}
use Rattle.row_store.proofs.sparse_first.column_sums.Goals as goal

pub loop-line-init : goal.loop-line-init
loop-line-init c =
    let zeros : c.in_ok-sums.sums.items ≡ replicate (c.args.rows.now.columns + 1) (pos 0) = search rules in
    sums_none c.args.rows.now c.in_ok-sums.sums.items (c.args.rows.now.columns + 1) zeros

pub add_line-requires-clause-same_length : goal.add_line-requires-clause-same_length
add_line-requires-clause-same_length c =
    let within : c.loop-line.line < length c.args.rows.now.lines = omega (arith, ap length c.as_slice-lines.ensures) in
    let read : c.index-lines-line.result ≡ get_or c.args.rows.now.lines c.loop-line.line [] = get_or_read c.as_slice-lines.result.now c.loop-line.line c.index-lines-line.result (omega arith) c.index-lines-line.is [] ∙ ap (λ xs. get_or xs c.loop-line.line []) c.as_slice-lines.ensures in
    line_as_long c.args.rows.now c.loop-line.line c.index-lines-line.result c.loop-line.sums.items c.requires within read c.loop-line.invariant

pub add_line-requires-clause-fits : goal.add_line-requires-clause-fits
add_line-requires-clause-fits c column =
    let within : c.loop-line.line < length c.args.rows.now.lines = omega (arith, ap length c.as_slice-lines.ensures) in
    let read : c.index-lines-line.result ≡ get_or c.args.rows.now.lines c.loop-line.line [] = get_or_read c.as_slice-lines.result.now c.loop-line.line c.index-lines-line.result (omega arith) c.index-lines-line.is [] ∙ ap (λ xs. get_or xs c.loop-line.line []) c.as_slice-lines.ensures in
    sums_fit c.args.rows.now c.loop-line.line c.index-lines-line.result c.loop-line.sums.items column c.requires within read c.loop-line.invariant

pub loop-line-preserved : goal.loop-line-preserved
loop-line-preserved c =
    let within : c.loop-line.line < length c.args.rows.now.lines = omega (arith, ap length c.as_slice-lines.ensures) in
    let read : c.index-lines-line.result ≡ get_or c.args.rows.now.lines c.loop-line.line [] = get_or_read c.as_slice-lines.result.now c.loop-line.line c.index-lines-line.result (omega arith) c.index-lines-line.is [] ∙ ap (λ xs. get_or xs c.loop-line.line []) c.as_slice-lines.ensures in
    sums_more c.args.rows.now c.loop-line.line c.index-lines-line.result c.loop-line.sums.items c.add_line.new.sums.items read c.loop-line.invariant c.add_line.ensures
