use Rattle.std.proofs.Common.{◌≡◌, ◌≢◌, true, ap, sym, subst, get_or, length, pos, of_z, arith}
use mir.Syntax.{w128}
use Rattle.island_prices.specs.Steps.{all_zero}
use Rattle.island_prices.proofs.PaidRows.{other_than_0}
use Rattle.island_prices.proofs.stepping.are_zero.Goals as goal

pub returns-then-row-minute-ne0 : goal.returns-then-row-minute-ne0
returns-then-row-minute-ne0 c =
    let differ : get_or c.args.row.now c.loop-minute.minute (pos 0) ≢ pos 0 = λ e. c.if-row-minute-ne0.true (ap (of_z w128) e) in
    other_than_0 (λ k. get_or c.args.row.now k (pos 0)) (length c.args.row.now) c.loop-minute.minute (omega arith) differ

pub returns : goal.returns
returns c =
    let all : c.loop-minute.minute ≡ length c.args.row.now = omega arith in
    subst (λ n. true ≡ all_zero (λ m. get_or c.args.row.now m (pos 0)) n) all (sym c.loop-minute.invariant)
