use Rattle.std.proofs.Common.{◌≡◌, [], length, get_or, ap, subst, sym, refl, ◌∙◌, arith, add-one}
use Rattle.std.proofs.lemmas.List.{get_or_read}
use Rattle.simplex_frac.specs.end_check.Ends.{value_in}
use Rattle.simplex_frac.proofs.end_check.Weights.{IsWeighing, weighing_all, weighing_begun, weighing_fails, weighing_more, weighing_within, weights_long}
use Rattle.simplex_frac.proofs.end_check.weighing.weigh.Goals as goal

pub loop-line-init : goal.loop-line-init
loop-line-init c = weighing_begun c.args.rows.now (value_in c.args.values.now) c.args.weights.now.items c.requires.zeros

pub add_multiple-requires-clause-same_length : goal.add_multiple-requires-clause-same_length
add_multiple-requires-clause-same_length c =
    let read : c.index-lines-line.result ≡ get_or c.args.rows.now.lines c.loop-line.line [] = get_or_read c.as_slice-lines.result.now c.loop-line.line c.index-lines-line.result (omega arith) c.index-lines-line.is [] ∙ ap (λ xs. get_or xs c.loop-line.line []) c.as_slice-lines.ensures in
    ap length read ∙ c.requires.problem.widths c.loop-line.line [] (omega (arith, ap length c.as_slice-lines.ensures)) ∙ sym (ap length c.loop-line.invariant.is ∙ weights_long c.args.rows.now (value_in c.args.values.now) c.loop-line.line)

pub add_multiple-requires-clause-within : goal.add_multiple-requires-clause-within
add_multiple-requires-clause-within c = weighing_within c.args.rows.now (value_in c.args.values.now) c.loop-line.line c.loop-line.weights.items c.loop-line.invariant

pub returns-then-not-add_multiple : goal.returns-then-not-add_multiple
returns-then-not-add_multiple c =
    let read : c.index-lines-line.result ≡ get_or c.args.rows.now.lines c.loop-line.line [] = get_or_read c.as_slice-lines.result.now c.loop-line.line c.index-lines-line.result (omega arith) c.index-lines-line.is [] ∙ ap (λ xs. get_or xs c.loop-line.line []) c.as_slice-lines.ensures in
    weighing_fails c.args.rows.now (value_in c.args.values.now) c.loop-line.line c.loop-line.weights.items c.loop-line.invariant _ c.index-lines-line.result refl read (omega (arith, ap length c.as_slice-lines.ensures)) c.if-not-add_multiple.ensures

pub loop-line-preserved : goal.loop-line-preserved
loop-line-preserved c =
    let read : c.index-lines-line.result ≡ get_or c.args.rows.now.lines c.loop-line.line [] = get_or_read c.as_slice-lines.result.now c.loop-line.line c.index-lines-line.result (omega arith) c.index-lines-line.is [] ∙ ap (λ xs. get_or xs c.loop-line.line []) c.as_slice-lines.ensures in
    subst (λ n. IsWeighing c.args.rows.now (value_in c.args.values.now) n c.add_multiple.new.sums.items) (sym (add-one c.loop-line.line))
    (weighing_more c.args.rows.now (value_in c.args.values.now) c.loop-line.line c.loop-line.weights.items c.loop-line.invariant _ c.index-lines-line.result refl read c.add_multiple.new.sums.items c.if-not-add_multiple.ensures.0 c.if-not-add_multiple.ensures.1)

pub returns : goal.returns
returns c = weighing_all c.args.rows.now (value_in c.args.values.now) c.loop-line.line c.loop-line.weights.items c.loop-line.invariant (omega (arith, ap length c.as_slice-lines.ensures))
