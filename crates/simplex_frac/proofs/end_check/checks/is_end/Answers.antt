use Rattle.std.proofs.Common.{◌≡◌, ◌∙◌, ap, length}
use Rattle.simplex_frac.specs.end_check.Ends.{value_in}
use Rattle.simplex_frac.specs.end_check.Sums.{weights_of}
use Rattle.simplex_frac.proofs.end_check.Shown.{end_shows, found, shown_end, told}
use Rattle.simplex_frac.proofs.end_check.checks.is_end.Goals as goal

pub returns-clause-end : goal.returns-clause-end
returns-clause-end c t =
    let is : c.as_slice-2.result.now ≡ weights_of c.args.rows.now (value_in c.args.hint.now.duals) (length c.args.rows.now.lines) =
    c.as_slice-2.ensures.value ∙ c.if-not-weigh.ensures.1 ∙ ap (λ values. weights_of c.args.rows.now (value_in values) (length c.args.rows.now.lines)) c.as_slice.ensures in
    shown_end c.args.rows.now c.requires c.args.hint.now _ is c.if-not-has_shape.ensures (told c.shows_end.result c.shows_end.ensures t)

pub returns-clause-found : goal.returns-clause-found
returns-clause-found c end within =
    let is : c.as_slice-2.result.now ≡ weights_of c.args.rows.now (value_in c.args.hint.now.duals) (length c.args.rows.now.lines) =
    c.as_slice-2.ensures.value ∙ c.if-not-weigh.ensures.1 ∙ ap (λ values. weights_of c.args.rows.now (value_in values) (length c.args.rows.now.lines)) c.as_slice.ensures in
    found c.shows_end.result c.shows_end.ensures (end_shows c.args.rows.now c.requires c.args.hint.now _ is end within)
