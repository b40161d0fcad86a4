use Rattle.std.proofs.Common.{◌≡◌, arith, rules, sym, ◌∙◌, option_map}
use Rattle.std.proofs.lemmas.Int.{to_z-of_z}
use mir.Val.{SFits}
use mir.Syntax.{w128}
use Rattle.row_store.proofs.Choices.{best_is, best_more, leaving_from}
use Rattle.row_store.proofs.store.RowStore.leaving.Goals as goal

pub better-best-requires : goal.better-best-requires
better-best-requires g c other e =
    (best_is (g.Self.RowStore.content c.args.self.now) c.args.basis.now c.args.column c.loop-row.row other (sym c.loop-row.invariant ∙ e)).positive

pub loop-row-preserved : goal.loop-row-preserved
loop-row-preserved g c =
    let fp : SFits w128 c.number.result = search rules in
    let fq : SFits w128 c.number-in-loop-row.result = search rules in
    best_more (g.Self.RowStore.content c.args.self.now) c.args.basis.now c.args.column c.loop-row.row c.args.right_side c.loop-row.best c.better-best.result _ _ c.loop-row.invariant c.number.ensures c.number-in-loop-row.ensures c.requires.right_side (simp to_z-of_z at c.better-best.ensures)

pub returns : goal.returns
returns g c =
    let mapped : c.row_of.result ≡ option_map (λ b. b.row) c.loop-row.best = c.row_of.ensures in
    mapped ∙ leaving_from (g.Self.RowStore.content c.args.self.now) c.args.basis.now c.args.column c.loop-row.row c.loop-row.best c.loop-row.invariant (omega arith)
