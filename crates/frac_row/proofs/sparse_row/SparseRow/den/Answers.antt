use Rattle.std.proofs.Common.{rules, ◌∙◌, sym, ap}
use Rattle.std.proofs.lemmas.Int.{to_z-of_z}
use mir.Val.{SFits}
use mir.Syntax.{w128}
use Rattle.frac_row.proofs.Contents.{den-content}
use Rattle.frac_row.proofs.sparse_row.SparseRow.den.Goals as goal

pub returns : goal.returns
returns c =
    let f : SFits w128 c.self.inside.den = search rules in
    to_z-of_z w128 c.self.inside.den f ∙ sym (den-content c.self.inside.entries.items c.self.inside.width c.self.inside.den) ∙ ap (λ r. r.den) c.self.view_is
