use Rattle.std.proofs.Common.{◌≡◌, ℕ, ◌+◌, ◌-◌, ◌^◌, ◌<◌, ◌≤◌, pos, List, [], length, get_or, unsigned_abs, arith, sym, ◌∙◌, ap, subst, add-one}
use Rattle.std.specs.Prelude.{ℤ, All}
use Rattle.std.proofs.lemmas.List.{get_or_read}
use Rattle.sums.specs.Below.{sum_below}
use Rattle.row_store.specs.declared.problem.Rows.{Rows}
use Rattle.row_store.specs.Problem.{entry}
use Rattle.row_store.proofs.LineSums.{line_sizes, column_within}
use Rattle.row_store.proofs.checks.are_lines_within.Goals as goal

-- the sizes of a line as the call sums them
line_is : (rows : Rows) (k : ℕ) (line : List ℤ) → All (λ line. length line ≡ rows.columns + 1) rows.lines → k < length rows.lines → line ≡ get_or rows.lines k [] → sum_below (λ column. unsigned_abs (get_or line column (pos 0))) (length line) ≡ line_sizes rows k
line_is rows k line widths lt e =
    rw e (ap (sum_below (λ column. unsigned_abs (entry rows k column))) (widths k [] lt))

pub loop-line-preserved : goal.loop-line-preserved
loop-line-preserved c =
    let within : c.loop-line.line < length c.args.rows.now.lines = omega (arith, ap length c.as_slice-lines.ensures) in
    let read : c.index-lines-line.result ≡ get_or c.args.rows.now.lines c.loop-line.line [] = get_or_read c.as_slice-lines.result.now c.loop-line.line c.index-lines-line.result (omega arith) c.index-lines-line.is [] ∙ ap (λ xs. get_or xs c.loop-line.line []) c.as_slice-lines.ensures in
    let more = line_is c.args.rows.now c.loop-line.line c.index-lines-line.result c.requires.widths within read in
    record {
      sum = c.in-Some.ensures.0 ∙ ap (λ n. c.loop-line.sum + n) more ∙ ap (λ n. n + line_sizes c.args.rows.now c.loop-line.line) c.loop-line.invariant.sum ∙ ap (sum_below (line_sizes c.args.rows.now)) (sym (add-one c.loop-line.line));
      within = c.in-Some.ensures.1;
    }

pub returns : goal.returns
returns c t column le =
    let same : c.loop-line.line ≡ length c.args.rows.now.lines = omega (arith, ap length c.as_slice-lines.ensures) in
    column_within c.args.rows.now column le (subst (λ n. sum_below (line_sizes c.args.rows.now) n ≤ 2 ^ 127 - 1) same (subst (λ s. s ≤ 2 ^ 127 - 1) c.loop-line.invariant.sum c.loop-line.invariant.within))
