use Rattle.std.proofs.Common.{◌≡◌, ◌∙◌, ap, subst, length, arith}
use Rattle.simplex_frac.specs.end_check.Ends.{AreByLine, value_in}
use Rattle.simplex_frac.specs.end_check.Sums.{weights_of}
use Rattle.simplex_frac.proofs.end_check.Shown.{found, refusal_shows, shown_refusal, told}
use Rattle.simplex_frac.proofs.end_check.Weights.{weights_long}
use Rattle.simplex_frac.proofs.end_check.checks.refuses.Goals as goal

pub shows_refusal-requires : goal.shows_refusal-requires
shows_refusal-requires c = omega (arith, ap length c.as_slice-3.ensures.value, ap length c.if-not-weigh.ensures.1, weights_long c.args.rows.now (value_in c.as_slice-2.result.now) (length c.args.rows.now.lines))

pub returns-clause-end : goal.returns-clause-end
returns-clause-end c t =
    let is : c.as_slice-3.result.now ≡ weights_of c.args.rows.now (value_in c.args.hint.now.multipliers) (length c.args.rows.now.lines) =
    c.as_slice-3.ensures.value ∙ c.if-not-weigh.ensures.1 ∙ ap (λ values. weights_of c.args.rows.now (value_in values) (length c.args.rows.now.lines)) c.as_slice-2.ensures in
    let by : AreByLine c.args.rows.now c.args.hint.now.multipliers = subst (AreByLine c.args.rows.now) c.as_slice.ensures c.if-not-are_by_line.ensures in
    shown_refusal c.args.rows.now c.args.hint.now _ is by (told c.shows_refusal.result c.shows_refusal.ensures t)

pub returns-clause-found : goal.returns-clause-found
returns-clause-found c end within =
    let is : c.as_slice-3.result.now ≡ weights_of c.args.rows.now (value_in c.args.hint.now.multipliers) (length c.args.rows.now.lines) =
    c.as_slice-3.ensures.value ∙ c.if-not-weigh.ensures.1 ∙ ap (λ values. weights_of c.args.rows.now (value_in values) (length c.args.rows.now.lines)) c.as_slice-2.ensures in
    found c.shows_refusal.result c.shows_refusal.ensures (refusal_shows c.args.rows.now c.args.hint.now _ is end)
