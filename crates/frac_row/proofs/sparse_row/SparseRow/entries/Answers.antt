use Rattle.std.proofs.Common.{sym, ◌∙◌, ap, subst}
use Rattle.frac_row.specs.Row.{number_of, width_of}
use Rattle.frac_row.specs.Content.{number_in, AreEntries}
use Rattle.frac_row.proofs.Contents.{width_of-content, number_of-held}
use Rattle.frac_row.proofs.sparse_row.SparseRow.entries.Goals as goal

pub returns-clause-rising : goal.returns-clause-rising
returns-clause-rising c =
    rw c.as_slice.ensures.value (subst (λ w. AreEntries 0 w c.self.inside.entries.items) (sym (width_of-content c.self.inside.entries.items c.self.inside.width c.self.inside.den) ∙ ap width_of c.self.view_is) c.self.invariant.rising)

pub returns-clause-numbers : goal.returns-clause-numbers
returns-clause-numbers c column =
    ap (λ xs. number_in xs column) c.as_slice.ensures.value ∙ sym (number_of-held c.self.inside.entries.items c.self.inside.width c.self.inside.den column c.self.invariant) ∙ ap (λ r. number_of r column) c.self.view_is
