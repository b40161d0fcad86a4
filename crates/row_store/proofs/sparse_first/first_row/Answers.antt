use Rattle.std.proofs.Common.{◌≡◌, ◌+◌, length, subst, arith}
use Rattle.std.specs.Prelude.{IfOk}
use Rattle.row_store.specs.Problem.{first_row}
use Rattle.row_store.proofs.sparse_first.first_row.Goals as goal

pub returns-then-row-height-2 : goal.returns-then-row-height-2
returns-then-row-height-2 c =
    let same : length c.args.rows.now.lines ≡ c.args.row = omega arith in
    subst (λ n. IfOk c.phase_row.result (λ made. made ≡ first_row c.args.rows.now n)) same c.phase_row.ensures

pub returns : goal.returns
returns c =
    let same : length c.args.rows.now.lines + 1 ≡ c.args.row = omega arith in
    subst (λ n. IfOk c.cost_row.result (λ made. made ≡ first_row c.args.rows.now n)) same c.cost_row.ensures
