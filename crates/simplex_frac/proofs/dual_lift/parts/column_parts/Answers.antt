use Rattle.std.proofs.Common.{rules, ◌+◌, refl, sym, ◌∙◌, ap, subst, get_or, unsigned_abs, to_z, of_z}
use Rattle.std.proofs.lemmas.Int.{to_z-of_z}
use mir.Val.{SFits}
use mir.Syntax.{w128}
use Rattle.simplex_frac.specs.dual_lift.Parts.{AreParts, part_below}
use Rattle.simplex_frac.proofs.dual_lift.PartLists.{part_kept, part_set}
use Rattle.simplex_frac.proofs.dual_lift.parts.column_parts.Goals as goal
use Rattle.simplex_frac.proofs.dual_lift.parts.column_parts.Goals.{then-column-wanted, else-column-wanted}

pub loop-line-preserved : goal.loop-line-preserved
loop-line-preserved g c = elim c.if-column-wanted.branch [
  | then-column-wanted w ↦
      let fr : SFits w128 w.part.result = search rules in
      part_set (g.R.RowStore.content c.args.table.now) c.args.basis.now (unsigned_abs c.args.scale.now) c.loop-line.line c.args.wanted (get_or c.args.basis.now c.loop-line.line 0)
      c.loop-line.parts.items c.if-column-wanted.parts.items (to_z w128 (of_z w128 w.part.result)) c.loop-line.invariant refl w.if-column-wanted.true (to_z-of_z w128 w.part.result fr ∙ w.part.ensures) (ap (λ v. v.items) w.parts-is)
  | else-column-wanted w ↦
      subst (λ v. AreParts (part_below (g.R.RowStore.content c.args.table.now) c.args.basis.now (unsigned_abs c.args.scale.now) (c.loop-line.line + 1)) c.args.wanted v.items) (sym w.parts-is)
      (part_kept (g.R.RowStore.content c.args.table.now) c.args.basis.now (unsigned_abs c.args.scale.now) c.loop-line.line c.args.wanted c.loop-line.parts.items c.loop-line.invariant w.if-column-wanted.false)
]
