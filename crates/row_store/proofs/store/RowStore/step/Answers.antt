use Rattle.std.proofs.Common.{◌≡◌, arith, rules, sym, ◌∙◌, ap, subst}
use Rattle.std.specs.Prelude.{IfOk, IfErr, None}
use Rattle.std.proofs.lemmas.Int.{ints}
use mir.Val.{SFits}
use mir.Syntax.{w128}
use Rattle.row_store.specs.Pivot.{pivoted, pivot_growth}
use Rattle.row_store.specs.Steps.{turned}
use Rattle.row_store.specs.PivotAnswers.{IsRefusal}
use Rattle.row_store.proofs.Turns.{stepped-same, stepped-turned, step_growth-same, step_growth-turned, turned_number, columns_of-turned, length-turned, turned_twice, below_zero}
use Rattle.row_store.proofs.store.RowStore.step.Goals as goal

pub returns-then-number-gt0-clause-stepped : goal.returns-then-number-gt0-clause-stepped
returns-then-number-gt0-clause-stepped g c =
    subst (λ t. IfOk c.pivot.result (λ x. g.Self.RowStore.content c.pivot.new.self ≡ t)) (stepped-same (g.Self.RowStore.content c.args.self.now) c.args.row c.args.column (omega (arith, ints, c.number.ensures))) c.pivot.ensures.pivoted

pub returns-then-number-gt0-clause-fits : goal.returns-then-number-gt0-clause-fits
returns-then-number-gt0-clause-fits g c =
    subst (λ p. IfOk c.pivot.result (λ x. p ≡ None)) (step_growth-same (g.Self.RowStore.content c.args.self.now) c.args.row c.args.column (omega (arith, ints, c.number.ensures))) c.pivot.ensures.fits

pub returns-then-number-gt0-clause-grew : goal.returns-then-number-gt0-clause-grew
returns-then-number-gt0-clause-grew g c =
    subst (λ p. IfErr c.pivot.result (IsRefusal p)) (step_growth-same (g.Self.RowStore.content c.args.self.now) c.args.row c.args.column (omega (arith, ints, c.number.ensures))) c.pivot.ensures.grew

pub pivot-requires-2-clause-row : goal.pivot-requires-2-clause-row
pivot-requires-2-clause-row g c = rw (c.turn.ensures, length-turned (g.Self.RowStore.content c.args.self.now) c.args.row) (omega arith)

pub pivot-requires-2-clause-column : goal.pivot-requires-2-clause-column
pivot-requires-2-clause-column g c = rw (c.turn.ensures, columns_of-turned (g.Self.RowStore.content c.args.self.now) c.args.row (omega arith)) c.requires.column

pub pivot-requires-2-clause-positive : goal.pivot-requires-2-clause-positive
pivot-requires-2-clause-positive g c =
    let fits : SFits w128 c.number.result = search rules in
    rw c.turn.ensures (turned_number (g.Self.RowStore.content c.args.self.now) c.args.row c.args.column (omega arith) (below_zero _ _ fits c.number.ensures c.if-number-gt0.false c.requires.number))

pub turn-requires-in-Err : goal.turn-requires-in-Err
turn-requires-in-Err g c = rw (c.in-Err.ensures.unchanged, c.turn.ensures, length-turned (g.Self.RowStore.content c.args.self.now) c.args.row) (omega arith)

pub returns-in-Ok-clause-stepped : goal.returns-in-Ok-clause-stepped
returns-in-Ok-clause-stepped g c =
    let fits : SFits w128 c.number.result = search rules in
    c.in-Ok.ensures.pivoted ∙ ap (λ t. pivoted t c.args.row c.args.column) c.turn.ensures
    ∙ stepped-turned (g.Self.RowStore.content c.args.self.now) c.args.row c.args.column (below_zero _ _ fits c.number.ensures c.if-number-gt0.false c.requires.number)

pub returns-in-Ok-clause-fits : goal.returns-in-Ok-clause-fits
returns-in-Ok-clause-fits g c =
    let fits : SFits w128 c.number.result = search rules in
    sym (step_growth-turned (g.Self.RowStore.content c.args.self.now) c.args.row c.args.column (below_zero _ _ fits c.number.ensures c.if-number-gt0.false c.requires.number))
    ∙ ap (λ t. pivot_growth t c.args.row c.args.column) (sym c.turn.ensures) ∙ c.in-Ok.ensures.fits

pub returns-in-Err-clause-grew : goal.returns-in-Err-clause-grew
returns-in-Err-clause-grew g c =
    let fits : SFits w128 c.number.result = search rules in
    subst (λ p. IsRefusal p c.in-Err.error)
    (ap (λ t. pivot_growth t c.args.row c.args.column) c.turn.ensures ∙ step_growth-turned (g.Self.RowStore.content c.args.self.now) c.args.row c.args.column (below_zero _ _ fits c.number.ensures c.if-number-gt0.false c.requires.number))
    c.in-Err.ensures.grew

pub returns-in-Err-clause-unchanged : goal.returns-in-Err-clause-unchanged
returns-in-Err-clause-unchanged g c =
    c.turn-in-Err.ensures ∙ ap (λ t. turned t c.args.row) (c.in-Err.ensures.unchanged ∙ c.turn.ensures) ∙ turned_twice (g.Self.RowStore.content c.args.self.now) c.args.row (omega arith)
