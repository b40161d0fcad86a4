use Rattle.std.proofs.Common.{◌≡◌, ◌+◌, [], pos, length, get_or, slice_set, rules, arith, sym, ◌∙◌, ap, subst}
use Rattle.std.proofs.lemmas.Int.{to_z-of_z}
use Rattle.std.proofs.lemmas.List.{get_or_read}
use mir.Val.{SFits}
use mir.Syntax.{w128}
use Rattle.frac_row.specs.Lines.{IsFilledRow}
use Rattle.row_store.specs.Problem.{first_number, first_amount}
use Rattle.row_store.proofs.FirstTables.{amount_line}
use Rattle.row_store.proofs.FirstRows.{width_in, line_begun, line_unit, right_put}
use Rattle.row_store.proofs.sparse_first.line_row.Goals as goal

pub returns : goal.returns
returns c =
    let height : c.len.result ≡ length c.args.rows.now.lines = c.len.ensures in
    let width : c.args.rows.now.columns + c.len.result + 1 ≡ width_in c.args.rows.now = ap (λ n. c.args.rows.now.columns + n + 1) height in
    let read : c.index-as_slice-line.result ≡ get_or c.args.rows.now.lines c.args.line [] = get_or_read c.as_slice.result.now c.args.line c.index-as_slice-line.result (omega (arith, ap length c.as_slice.ensures)) c.index-as_slice-line.is [] ∙ ap (λ xs. get_or xs c.args.line []) c.as_slice.ensures in
    let one : IsFilledRow c.in_ok-made.made (first_number c.args.rows.now c.args.line) (c.args.rows.now.columns + c.len.result + 1) (c.args.rows.now.columns + c.args.line) = line_begun c.args.rows.now c.args.line c.index-as_slice-line.result c.in_ok-made.made _ c.requires.line read c.in_ok-made.ensures in
    let two : IsFilledRow c.put.new.self (first_number c.args.rows.now c.args.line) (c.args.rows.now.columns + c.len.result + 1) (c.args.rows.now.columns + length c.args.rows.now.lines) = line_unit c.args.rows.now c.args.line c.in_ok-made.made c.put.new.self _ c.requires.line width one c.in_ok-put.ensures.put in
    let f : SFits w128 c.number.result = search rules in
    let number : c.number.result ≡ first_amount c.args.rows.now c.args.line c.args.rows.now.columns = c.number.ensures ∙ ap (λ xs. get_or xs c.args.rows.now.columns (pos 0)) read ∙ sym (amount_line c.args.rows.now c.args.line c.args.rows.now.columns c.requires.line) in
    right_put c.args.rows.now c.args.line c.put.new.self c.put-2.new.self _ c.number.result width two number
    (subst (λ n. c.put-2.new.self ≡ record { numbers = slice_set c.put.new.self.numbers (c.args.rows.now.columns + n) c.number.result; den = c.put.new.self.den }) height (simp to_z-of_z at c.in_ok-put-2.ensures.put))
