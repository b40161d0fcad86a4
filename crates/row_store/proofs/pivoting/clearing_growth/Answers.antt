use Rattle.std.proofs.Common.{◌≢◌, pos, arith, rules, ◌∙◌, ap, of_z}
use mir.Syntax.{w128}
use Rattle.std.proofs.lemmas.Int.{ints}
use Rattle.frac_row.specs.Row.{number_of, IsSmall}
use Rattle.row_store.proofs.Pivots.{growth_zero, growth_small, growth_other}
use Rattle.row_store.proofs.pivoting.clearing_growth.Goals as goal

pub returns-then-number-eq0 : goal.returns-then-number-eq0
returns-then-number-eq0 g c = growth_zero (g.R.TableRow.full c.args.row.now) (g.R.TableRow.full c.args.pivot_row.now) c.args.column (omega (arith, ints, c.number.ensures))

pub returns-then-is_small : goal.returns-then-is_small
returns-then-is_small g c =
    let ne : number_of (g.R.TableRow.full c.args.row.now) c.args.column ≢ pos 0 = λ e. c.if-number-eq0.false (ap (of_z w128) (c.number.ensures ∙ e)) in
    let h : IsSmall (g.R.TableRow.full c.args.row.now) = search rules in
    let k : IsSmall (g.R.TableRow.full c.args.pivot_row.now) = search rules in
    growth_small (g.R.TableRow.full c.args.row.now) (g.R.TableRow.full c.args.pivot_row.now) c.args.column ne c.requires.positive h k

pub returns : goal.returns
returns g c =
    let ne : number_of (g.R.TableRow.full c.args.row.now) c.args.column ≢ pos 0 = λ e. c.if-number-eq0.false (ap (of_z w128) (c.number.ensures ∙ e)) in
    c.growth.ensures ∙ growth_other (g.R.TableRow.full c.args.row.now) (g.R.TableRow.full c.args.pivot_row.now) c.args.column ne
