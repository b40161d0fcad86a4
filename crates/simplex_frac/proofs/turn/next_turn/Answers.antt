use Rattle.std.proofs.Common.{arith, sym, ◌∙◌, ap, of_z}
use Rattle.std.proofs.lemmas.Int.{ints}
use mir.Syntax.{w128}
use Rattle.simplex_frac.proofs.Turns.{turn_best, turn_no_point, turn_entered, entering_below, same_side}
use Rattle.simplex_frac.proofs.turn.next_turn.Goals as goal

pub leaving-requires-clause-column : goal.leaving-requires-clause-column
leaving-requires-clause-column g c =
    omega (arith, entering_below (g.R.RowStore.content c.args.store.now) c.args.columns c.in-Some.column c.in-Some.ensures, c.requires.columns)

pub returns-in-None : goal.returns-in-None
returns-in-None g c =
    turn_best (record { table = g.R.RowStore.content c.args.store.now; basis = c.args.basis.now }) c.args.columns c.in-None.ensures
    (same_side (g.R.RowStore.content c.args.store.now) c.args.columns c.height-height.result _ c.requires.columns c.height-height.ensures c.number.ensures ∙ omega (arith, ints))

pub returns-in-None-2 : goal.returns-in-None-2
returns-in-None-2 g c =
    turn_no_point (record { table = g.R.RowStore.content c.args.store.now; basis = c.args.basis.now }) c.args.columns c.in-None-2.ensures
    (λ e. c.if-number-eq0.false (ap (of_z w128) (sym (same_side (g.R.RowStore.content c.args.store.now) c.args.columns c.height-height.result c.number.result c.requires.columns c.height-height.ensures c.number.ensures) ∙ e)))

pub returns-in-None-leaving : goal.returns-in-None-leaving
returns-in-None-leaving g c =
    turn_entered (record { table = g.R.RowStore.content c.args.store.now; basis = c.args.basis.now }) c.args.columns c.in-Some.column _ c.in-Some.ensures c.in-None-leaving.ensures

pub returns-in-Some-leaving : goal.returns-in-Some-leaving
returns-in-Some-leaving g c =
    turn_entered (record { table = g.R.RowStore.content c.args.store.now; basis = c.args.basis.now }) c.args.columns c.in-Some.column _ c.in-Some.ensures c.in-Some-leaving.ensures
