use Rattle.std.proofs.Common.{◌≡◌, ◌<◌, ◌≤◌, ◌^◌, rules, arith, ◌∙◌, sym, ap, subst}
use Rattle.std.proofs.lemmas.Int.{to_z-of_z}
use mir.Val.{SFits}
use mir.Syntax.{w128}
use Rattle.frac_row.specs.Row.{number_of, width_of}
use Rattle.frac_row.specs.Content.{number_in}
use Rattle.frac_row.proofs.Contents.{are_within, width_of-content, number_of-content}
use Rattle.frac_row.proofs.sparse_row.SparseRow.number.Goals as goal

pub number_in-requires : goal.number_in-requires
number_in-requires c =
    let fits : c.self.inside.width ≤ 2 ^ 32 = omega (arith, c.self.invariant.few) in
    rw c.as_slice.ensures.value (are_within 0 c.self.inside.width (2 ^ 32) c.self.inside.entries.items fits c.self.invariant.rising)

pub returns : goal.returns
returns c =
    let f : SFits w128 c.number_in.result = search rules in
    let width : width_of c.args.self.now ≡ c.self.inside.width = sym (ap width_of c.self.view_is) ∙ width_of-content c.self.inside.entries.items c.self.inside.width c.self.inside.den in
    let lt : c.args.column < c.self.inside.width = subst (λ w. c.args.column < w) width c.requires in
    to_z-of_z w128 c.number_in.result f ∙ c.number_in.ensures ∙ ap (λ xs. number_in xs c.args.column) c.as_slice.ensures.value
    ∙ sym (number_of-content c.self.inside.entries.items c.self.inside.width c.self.inside.den c.args.column lt) ∙ ap (λ r. number_of r c.args.column) c.self.view_is
