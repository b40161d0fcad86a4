use Rattle.std.proofs.Common.{◌≡◌, rules, ℕ, ℤ, pos, ◌<ℤ◌, List, sym, ◌∙◌, ap, subst}
use Rattle.std.proofs.lemmas.Int.{to_z-of_z}
use mir.Val.{SFits}
use mir.Syntax.{w128}
use Rattle.frac_row.specs.Row.{IsRow, number_of, reduced}
use Rattle.frac_row.specs.declared.row.FracRow.{FracRow}
use Rattle.frac_row.specs.declared.entry.Entry.{Entry}
use Rattle.frac_row.specs.Content.{content_of}
use Rattle.frac_row.proofs.scaling.scaled.Goals as goal

over : (xs made slice : List Entry) (width : ℕ) (den d e : ℤ) (row : FracRow) → content_of xs width den ≡ row → made ≡ slice → slice ≡ xs → d ≡ e → content_of made width d ≡ record { numbers = row.numbers; den = e }
unfolding content_of
over xs made slice width den d e row view s t same =
    ap (λ ys. content_of ys width d) (s ∙ t) ∙ ap (λ r. record { numbers = r.numbers; den = d }) view ∙ ap (λ z. record { numbers = row.numbers; den = z }) same

is_row : (row : FracRow) (column : ℕ) → IsRow row → pos 0 <ℤ number_of row column → IsRow (record { numbers = row.numbers; den = number_of row column })
is_row row column h some = record { within = h.within; den_within = h.within column; positive = some }

pub reduce-requires : goal.reduce-requires
reduce-requires c =
    let f : SFits w128 c.number-den.result = search rules in
    subst IsRow (sym (over _ _ _ _ _ _ (number_of c.args.row.now c.args.column) c.args.row.now c.row.view_is c.in_ok-from_slice.ensures.items c.as_slice.ensures.value (to_z-of_z w128 c.number-den.result f ∙ c.number-den.ensures)))
    (is_row c.args.row.now c.args.column c.requires.row c.requires.positive)

pub returns : goal.returns
returns c =
    let f : SFits w128 c.number-den.result = search rules in
    c.reduce.ensures ∙ ap reduced (over _ _ _ _ _ _ (number_of c.args.row.now c.args.column) c.args.row.now c.row.view_is c.in_ok-from_slice.ensures.items c.as_slice.ensures.value (to_z-of_z w128 c.number-den.result f ∙ c.number-den.ensures))
