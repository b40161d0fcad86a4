use Rattle.std.proofs.Common.{◌+◌, ◌∙◌, Some, Ok, Err, sym, ap, subst}
use Rattle.lp_rows.specs.Outline.{StandsAt, arc_in, columns_in}
use Rattle.lp_rows.proofs.Outlines.{IsArcAt, arc_found}
use Rattle.lp_rows.proofs.outline.Outline.ground_column.Goals as goal

pub returns-in-Ok-clause-place : goal.returns-in-Ok-clause-place
returns-in-Ok-clause-place c =
    let here : IsArcAt c.args.self.now c.args.number c.in-Ok.place = arc_found c.args.self.now c.as_slice.result.now c.args.number (Ok c.in-Ok.place) c.as_slice.ensures c.requires c.in-Ok.ensures.position in
    ap (λ n. Some (n + c.in-Ok.place)) c.len.ensures ∙ sym here.column

pub returns-in-Ok-clause-stands : goal.returns-in-Ok-clause-stands
returns-in-Ok-clause-stands c =
    let here : IsArcAt c.args.self.now c.args.number c.in-Ok.place = arc_found c.args.self.now c.as_slice.result.now c.args.number (Ok c.in-Ok.place) c.as_slice.ensures c.requires c.in-Ok.ensures.position in
    subst (λ n. StandsAt (columns_in c.args.self.now) (n + c.in-Ok.place) (arc_in c.args.self.now c.args.number)) (sym c.len.ensures) here.stands

pub returns-in-Err-clause-place : goal.returns-in-Err-clause-place
returns-in-Err-clause-place c =
    sym (arc_found c.args.self.now c.as_slice.result.now c.args.number (Err c.in-Err.field-0) c.as_slice.ensures c.requires c.in-Err.ensures.position)
