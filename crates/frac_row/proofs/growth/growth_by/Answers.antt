use Rattle.std.proofs.Common.{arith, sym, ◌∙◌, ap}
use Rattle.std.specs.Prelude.{length}
use Rattle.frac_row.proofs.Growths.{growth_by_place, growth_by_den, growth_by_none}
use Rattle.frac_row.proofs.growth.growth_by.Goals as goal

pub returns-then-is_some : goal.returns-then-is_some
returns-then-is_some c =
    growth_by_place c.args.factors.now c.args.row.now c.args.pivot_row.now c.loop-column.column _ (omega (arith, ap length c.as_slice-numbers.ensures)) c.loop-column.invariant (rw (c.as_slice-numbers.ensures, c.as_slice-pivot_numbers.ensures) at c.place_growth-growth.ensures) (sym c.is_some.ensures ∙ c.if-is_some.true)

pub returns-in-Some : goal.returns-in-Some
returns-in-Some c =
    growth_by_none c.args.factors.now c.args.row.now c.args.pivot_row.now c.loop-column.column (omega (arith, ap length c.as_slice-numbers.ensures)) c.loop-column.invariant c.in-Some.ensures.1

pub returns-in-None : goal.returns-in-None
returns-in-None c =
    growth_by_den c.args.factors.now c.args.row.now c.args.pivot_row.now c.loop-column.column _ (omega (arith, ap length c.as_slice-numbers.ensures)) c.loop-column.invariant c.in-None.ensures (c.new.ensures ∙ ap (λ n. record { column = n; left = c.args.factors.now.own; right = c.args.row.now.den }) (omega arith))
