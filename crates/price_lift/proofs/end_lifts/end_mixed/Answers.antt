use Rattle.std.proofs.Common.{◌≡◌, ◌∙◌, None, IfErr, MatchResult, ap, ap₂, subst, length, pos}
use Rattle.sums.proofs.Places.{length-list_below}
use Rattle.frac_row.specs.Row.{width_of}
use Rattle.simplex_frac.specs.end_check.Ends.{part_in}
use Rattle.simplex_frac.specs.dual_lift.TooLarge.{IsLiftError, IsWantedBehind}
use Rattle.price_lift.specs.EndLifts.{IsMixedOfParts, first_parts, parts_excess}
use Rattle.price_lift.proofs.end_lifts.end_mixed.Goals as goal

pub mixed_of-requires-clause-width : goal.mixed_of-requires-clause-width
mixed_of-requires-clause-width c =
    ap width_of c.in_ok-parts.ensures.parts ∙ length-list_below (λ column. pos (part_in c.as_slice-point.result.now column)) c.pair_count-count.result ∙ c.pair_count-count.ensures

pub returns-clause-mixed : goal.returns-clause-mixed
returns-clause-mixed c =
    let is : c.in_ok-parts.parts ≡ first_parts c.args.hint.now.point c.args.hint.now.scale (length c.args.outline.now.pairs) = c.in_ok-parts.ensures.parts ∙ ap₂ (λ point count. first_parts point c.args.hint.now.scale count) c.as_slice-point.ensures c.pair_count-count.ensures in
    subst (λ parts. MatchResult c.mixed_of.result (λ mixed. (parts_excess parts ≡ None) × IsMixedOfParts parts c.args.outline.now.pairs mixed) (IsLiftError (parts_excess parts))) is c.mixed_of.ensures.mixed

pub returns-clause-memory : goal.returns-clause-memory
returns-clause-memory c =
    let is : c.in_ok-parts.parts ≡ first_parts c.args.hint.now.point c.args.hint.now.scale (length c.args.outline.now.pairs) = c.in_ok-parts.ensures.parts ∙ ap₂ (λ point count. first_parts point c.args.hint.now.scale count) c.as_slice-point.ensures c.pair_count-count.ensures in
    subst (λ parts. IfErr c.mixed_of.result (IsWantedBehind (parts_excess parts))) is c.mixed_of.ensures.memory
