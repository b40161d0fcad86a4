use Rattle.std.proofs.Common.{◌≡◌, ℕ, ℤ, List, rules, refl, ◌∙◌, ap}
use Rattle.std.proofs.lemmas.Int.{to_z-of_z}
use mir.Val.{SFits}
use mir.Syntax.{w128}
use Rattle.frac_row.specs.declared.entry.Entry.{Entry}
use Rattle.frac_row.specs.Content.{content_of}
use Rattle.frac_row.proofs.sparse_row.SparseRow.over.Goals as goal

over_another : (entries : List Entry) (width : ℕ) (old den : ℤ) → content_of entries width den ≡ record { numbers = (content_of entries width old).numbers; den = den }
unfolding content_of
over_another entries width old den = refl

pub returns : goal.returns
returns c =
    let f : SFits w128 c.args.den = search rules in
    ap (content_of c.self.inside.entries.items c.self.inside.width) (to_z-of_z w128 c.args.den f)
    ∙ over_another c.self.inside.entries.items c.self.inside.width c.self.inside.den c.args.den
    ∙ ap (λ r. record { numbers = r.numbers; den = c.args.den }) c.self.view_is
