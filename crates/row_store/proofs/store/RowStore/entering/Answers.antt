use Rattle.std.proofs.Common.{arith, rules, sym, ◌∙◌}
use Rattle.std.proofs.lemmas.Int.{to_z-of_z}
use mir.Val.{SFits}
use mir.Syntax.{w128}
use Rattle.row_store.proofs.Choices.{entering_found, entering_more, entering_none, improving_is}
use Rattle.row_store.proofs.store.RowStore.entering.Goals as goal

pub returns-then-improves : goal.returns-then-improves
returns-then-improves g c =
    let fp : SFits w128 c.number-phase_number.result = search rules in
    let fc : SFits w128 c.number-cost_number.result = search rules in
    entering_found (g.Self.RowStore.content c.args.self.now) c.args.columns c.loop-column.column c.loop-column.invariant c.loop-column-test.true
    (sym (improving_is (g.Self.RowStore.content c.args.self.now) c.height-phase.result c.loop-column.column _ _ _ c.height-phase.ensures c.number-phase_number.ensures c.number-cost_number.ensures (simp to_z-of_z at c.improves.ensures)) ∙ c.if-improves.true)

pub loop-column-preserved : goal.loop-column-preserved
loop-column-preserved g c =
    let fp : SFits w128 c.number-phase_number.result = search rules in
    let fc : SFits w128 c.number-cost_number.result = search rules in
    entering_more (g.Self.RowStore.content c.args.self.now) c.loop-column.column c.loop-column.invariant
    (sym (improving_is (g.Self.RowStore.content c.args.self.now) c.height-phase.result c.loop-column.column _ _ _ c.height-phase.ensures c.number-phase_number.ensures c.number-cost_number.ensures (simp to_z-of_z at c.improves.ensures)) ∙ c.if-improves.false)

pub returns : goal.returns
returns g c =
    entering_none (g.Self.RowStore.content c.args.self.now) c.args.columns c.loop-column.column c.loop-column.invariant (omega arith)
