use Rattle.std.proofs.Common.{◌≡◌, ℕ, rules, ℤ, pos, ◌<ℤ◌, ◌*ℤ◌, None, List, sym, ◌∙◌, ap, subst}
use mir.Val.{SFits}
use mir.Syntax.{w128}
use Rattle.frac_row.specs.Outgrown.{IsWithin}
use Rattle.frac_row.specs.Row.{IsRow, number_of, width_of, reduced}
use Rattle.frac_row.specs.Combined.{factors_of, combination, combined_row, growth_of, growth_by}
use Rattle.frac_row.specs.declared.row.FracRow.{FracRow}
use Rattle.frac_row.specs.declared.factors.Factors.{Factors}
use Rattle.frac_row.proofs.Fits.{product_fits, product_is}
use Rattle.frac_row.proofs.Combinations.{factors_are, den_fits, combination_is_row}
use Rattle.frac_row.specs.declared.entry.Entry.{Entry}
use Rattle.frac_row.specs.Content.{content_of, IsHeld}
use Rattle.frac_row.specs.Pairs.{pairs_of, combined_entries, AllFit}
use Rattle.frac_row.proofs.Contents.{den-content}
use Rattle.frac_row.proofs.Combined.{AreHeld, both_held, combined_is_held, combination_is, pairs_fit}
use Rattle.frac_row.proofs.sparse_combining.combine.Goals as goal

-- all that the combination of two rows rests on
record AreCombined (f : Factors) (xs ys : List Entry) (width : ℕ) (d e : ℤ) (row pivot_row : FracRow) : Type 0 where
  held : AreHeld xs ys width
  row_is : content_of xs width d ≡ row
  pivot_row_is : content_of ys width e ≡ pivot_row
  none : growth_by f row pivot_row ≡ None
  own : pos 0 <ℤ f.own
  is_row : IsRow row

combined_from : (f : Factors) (xs ys : List Entry) (width w : ℕ) (d e : ℤ) (row pivot_row : FracRow) (column : ℕ) → IsHeld xs width → IsHeld ys w → content_of xs width d ≡ row → content_of ys w e ≡ pivot_row → width_of row ≡ width_of pivot_row → f ≡ factors_of row pivot_row column → growth_of row pivot_row column ≡ None → pos 0 <ℤ number_of pivot_row column → IsRow row → AreCombined f xs ys width d e row pivot_row
combined_from f xs ys width w d e row pivot_row column h k p q same is none some is_row =
    let both : (AreHeld xs ys width) × (content_of ys width e ≡ pivot_row) = both_held xs ys width w d e row pivot_row h k p q same in
    record {
      held = both.0;
      row_is = p;
      pivot_row_is = both.1;
      none = ap (λ g. growth_by g row pivot_row) is ∙ none;
      own = subst (λ g. pos 0 <ℤ g.own) (sym is) (factors_are row pivot_row column some).own_positive;
      is_row = is_row;
    }

all_pairs_fit : (f : Factors) (xs ys slice pivot_slice : List Entry) (width : ℕ) (d e : ℤ) (row pivot_row : FracRow) → AreCombined f xs ys width d e row pivot_row → slice ≡ xs → pivot_slice ≡ ys → AllFit f (pairs_of slice pivot_slice)
all_pairs_fit f xs ys slice pivot_slice width d e row pivot_row h s t =
    rw (s, t) (pairs_fit f xs ys width d e h.held (ap (λ r. growth_by f r (content_of ys width e)) h.row_is ∙ ap (growth_by f row) h.pivot_row_is ∙ h.none))

den_within : (f : Factors) (xs ys : List Entry) (width : ℕ) (d e : ℤ) (row pivot_row : FracRow) → AreCombined f xs ys width d e row pivot_row → IsWithin (f.own *ℤ d)
den_within f xs ys width d e row pivot_row h =
    subst (λ z. IsWithin (f.own *ℤ z)) (sym (ap (λ r. r.den) h.row_is) ∙ den-content xs width d) (den_fits f row pivot_row h.none)

made_is : (f : Factors) (xs ys slice pivot_slice made : List Entry) (width : ℕ) (d e over : ℤ) (row pivot_row : FracRow) → AreCombined f xs ys width d e row pivot_row → slice ≡ xs → pivot_slice ≡ ys → made ≡ combined_entries f (pairs_of slice pivot_slice) → over ≡ f.own *ℤ d → content_of made width over ≡ combination f row pivot_row
made_is f xs ys slice pivot_slice made width d e over row pivot_row h s t is same =
    ap (λ zs. content_of zs width over) (is ∙ ap (λ zs. combined_entries f (pairs_of zs pivot_slice)) s ∙ ap (λ zs. combined_entries f (pairs_of xs zs)) t)
    ∙ combination_is f xs ys width d e over h.held same
    ∙ ap (λ r. combination f r (content_of ys width e)) h.row_is ∙ ap (combination f row) h.pivot_row_is

made_is_held : (f : Factors) (xs ys slice pivot_slice made : List Entry) (width : ℕ) (d e : ℤ) (row pivot_row : FracRow) → AreCombined f xs ys width d e row pivot_row → slice ≡ xs → pivot_slice ≡ ys → made ≡ combined_entries f (pairs_of slice pivot_slice) → IsHeld made width
made_is_held f xs ys slice pivot_slice made width d e row pivot_row h s t is = rw (is, s, t) (combined_is_held f xs ys width h.held)

pub combine_entries-requires : goal.combine_entries-requires
combine_entries-requires c =
    all_pairs_fit _ _ _ _ _ _ _ _ _ _ (combined_from _ _ _ _ _ _ _ _ _ c.args.column c.row.invariant c.pivot_row.invariant c.row.view_is c.pivot_row.view_is c.requires.same_width c.factors_between-factors.ensures c.requires.fits c.requires.positive c.requires.row) c.as_slice.ensures.value c.as_slice-2.ensures.value

pub overflow_mul-made : goal.overflow_mul-made
overflow_mul-made c =
    let fo : SFits w128 c.factors_between-factors.result.own = search rules in
    let fd : SFits w128 c.row.inside.den = search rules in
    product_fits _ _ fo fd (den_within _ _ _ _ _ _ _ _ (combined_from _ _ _ _ _ _ _ _ _ c.args.column c.row.invariant c.pivot_row.invariant c.row.view_is c.pivot_row.view_is c.requires.same_width c.factors_between-factors.ensures c.requires.fits c.requires.positive c.requires.row))

pub invariant_of-made : goal.invariant_of-made
invariant_of-made c =
    made_is_held _ _ _ _ _ _ _ _ _ _ _ (combined_from _ _ _ _ _ _ _ _ _ c.args.column c.row.invariant c.pivot_row.invariant c.row.view_is c.pivot_row.view_is c.requires.same_width c.factors_between-factors.ensures c.requires.fits c.requires.positive c.requires.row) c.as_slice.ensures.value c.as_slice-2.ensures.value c.in_ok-entries.ensures

pub reduce-requires : goal.reduce-requires
reduce-requires c =
    let fo : SFits w128 c.factors_between-factors.result.own = search rules in
    let fd : SFits w128 c.row.inside.den = search rules in
    let h = combined_from _ _ _ _ _ _ _ _ _ c.args.column c.row.invariant c.pivot_row.invariant c.row.view_is c.pivot_row.view_is c.requires.same_width c.factors_between-factors.ensures c.requires.fits c.requires.positive c.requires.row in
    subst IsRow (sym (made_is _ _ _ _ _ _ _ _ _ _ _ _ h c.as_slice.ensures.value c.as_slice-2.ensures.value c.in_ok-entries.ensures (product_is _ _ fo fd (den_within _ _ _ _ _ _ _ _ h))))
    (combination_is_row _ c.args.row.now c.args.pivot_row.now h.own h.is_row h.none)

pub returns : goal.returns
unfolding combined_row
returns c =
    let fo : SFits w128 c.factors_between-factors.result.own = search rules in
    let fd : SFits w128 c.row.inside.den = search rules in
    let h = combined_from _ _ _ _ _ _ _ _ _ c.args.column c.row.invariant c.pivot_row.invariant c.row.view_is c.pivot_row.view_is c.requires.same_width c.factors_between-factors.ensures c.requires.fits c.requires.positive c.requires.row in
    c.reduce.ensures
    ∙ ap reduced (made_is _ _ _ _ _ _ _ _ _ _ _ _ h c.as_slice.ensures.value c.as_slice-2.ensures.value c.in_ok-entries.ensures (product_is _ _ fo fd (den_within _ _ _ _ _ _ _ _ h)))
    ∙ ap (λ f. reduced (combination f c.args.row.now c.args.pivot_row.now)) c.factors_between-factors.ensures
