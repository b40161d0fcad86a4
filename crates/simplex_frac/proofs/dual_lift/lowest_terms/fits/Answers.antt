use Rattle.std.proofs.Common.{◌≡◌, arith, rules, ◌∙◌, sym, ap, true, false, nat_lt, unsigned_abs}
use Rattle.std.proofs.lemmas.Int.{ints, to_z-of_z}
use mir.Val.{SFits}
use mir.Syntax.{w128}
use Rattle.frac_row.specs.Row.{number_of, reduced}
use Rattle.frac_row.specs.declared.row.FracRow.{FracRow}
use Rattle.simplex_frac.proofs.dual_lift.LowestTerms.{all_fit, den_over, number_over, value_fits, value_past, scale_past}
use Rattle.simplex_frac.proofs.dual_lift.lowest_terms.fits.Goals as goal

pub returns-then-quotient-from : goal.returns-then-quotient-from
returns-then-quotient-from c =
    let row : FracRow = record { numbers = c.args.values.now; den = c.args.scale.now } in
    let fd : SFits w128 c.divisor_of-divisor.result = search rules in
    let fq : SFits w128 c.quotient.result = search rules in
    let fm : SFits w128 c.from.result = search rules in
    let over = simp to_z-of_z at c.quotient.ensures in
    let den : c.quotient.result ≡ (reduced row).den = over ∙ den_over row c.divisor_of-divisor.result c.divisor_of-divisor.ensures.value in
    scale_past c.args.limits.now.scale c.args.limits.now.value c.args.first row (omega (arith, ints, c.from.ensures, den))

pub returns-then-is_past : goal.returns-then-is_past
returns-then-is_past c =
    let row : FracRow = record { numbers = c.args.values.now; den = c.args.scale.now } in
    let fd : SFits w128 c.divisor_of-divisor.result = search rules in
    let fq : SFits w128 c.quotient.result = search rules in
    let fm : SFits w128 c.from.result = search rules in
    let fv : SFits w128 c.quotient-value.result = search rules in
    let over = simp to_z-of_z at c.quotient.ensures in
    let den : c.quotient.result ≡ (reduced row).den = over ∙ den_over row c.divisor_of-divisor.result c.divisor_of-divisor.ensures.value in
    let here = simp to_z-of_z at c.quotient-value.ensures in
    let value : c.quotient-value.result ≡ number_of (reduced row) c.loop-place.place = here ∙ number_over row c.loop-place.place c.divisor_of-divisor.result c.divisor_of-divisor.ensures.value c.loop-place-test.true in
    let test = simp to_z-of_z at c.is_past.ensures in
    let past : nat_lt c.args.limits.now.value (unsigned_abs (number_of (reduced row) c.loop-place.place)) ≡ true = sym (ap (λ z. nat_lt c.args.limits.now.value (unsigned_abs z)) value) ∙ sym test ∙ c.if-is_past.true in
    value_past c.args.limits.now.scale c.args.limits.now.value c.args.first row c.loop-place.place _ (omega (arith, ints, c.from.ensures, den)) c.loop-place.invariant c.loop-place-test.true past (omega arith)

pub loop-place-preserved : goal.loop-place-preserved
loop-place-preserved c =
    let row : FracRow = record { numbers = c.args.values.now; den = c.args.scale.now } in
    let fd : SFits w128 c.divisor_of-divisor.result = search rules in
    let fv : SFits w128 c.quotient-value.result = search rules in
    let here = simp to_z-of_z at c.quotient-value.ensures in
    let value : c.quotient-value.result ≡ number_of (reduced row) c.loop-place.place = here ∙ number_over row c.loop-place.place c.divisor_of-divisor.result c.divisor_of-divisor.ensures.value c.loop-place-test.true in
    let test = simp to_z-of_z at c.is_past.ensures in
    let well : nat_lt c.args.limits.now.value (unsigned_abs (number_of (reduced row) c.loop-place.place)) ≡ false = sym (ap (λ z. nat_lt c.args.limits.now.value (unsigned_abs z)) value) ∙ sym test ∙ c.if-is_past.false in
    value_fits c.args.limits.now.scale c.args.limits.now.value c.args.first row c.loop-place.place c.loop-place.invariant well

pub returns : goal.returns
returns c =
    let row : FracRow = record { numbers = c.args.values.now; den = c.args.scale.now } in
    let fd : SFits w128 c.divisor_of-divisor.result = search rules in
    let fq : SFits w128 c.quotient.result = search rules in
    let fm : SFits w128 c.from.result = search rules in
    let over = simp to_z-of_z at c.quotient.ensures in
    let den : c.quotient.result ≡ (reduced row).den = over ∙ den_over row c.divisor_of-divisor.result c.divisor_of-divisor.ensures.value in
    all_fit c.args.limits.now.scale c.args.limits.now.value c.args.first row c.loop-place.place (omega (arith, ints, c.from.ensures, den)) c.loop-place.invariant (omega arith)
