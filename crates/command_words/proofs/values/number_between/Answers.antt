use Rattle.std.proofs.Common.{rules, ◌≡◌, sym, subst, true, false, pos, to_z, of_z}
use Rattle.std.specs.Prelude.{Ok, ◌≤ℤ◌}
use Rattle.std.specs.Str.Parse.{starts_with_minus}
use mir.Syntax.{w128}
use Rattle.csv_fields.specs.Number.{WritesWhole}
use Rattle.command_words.proofs.Numbers.{kept, signed_is_none, unread, unsigned_reads}
use Rattle.command_words.proofs.values.number_between.Goals as goal

-- src/values.rt:27:9
pub returns-then-has_minus-clause-read : goal.returns-then-has_minus-clause-read
returns-then-has_minus-clause-read c =
    let minus : starts_with_minus c.args.text.now ≡ true = search rules in
    signed_is_none c.args.text.now c.args.least c.args.greatest minus

-- src/values.rt:21:1
pub returns-in-Ok-clause-read : goal.returns-in-Ok-clause-read
returns-in-Ok-clause-read c =
    let plain : starts_with_minus c.args.text.now ≡ false = search rules in
    let lower : to_z w128 (of_z w128 c.from.result) ≡ pos c.args.least = kept c.from.result c.args.least c.from.ensures c.ranges.least.fits in
    let upper : to_z w128 (of_z w128 c.from-2.result) ≡ pos c.args.greatest = kept c.from-2.result c.args.greatest c.from-2.ensures c.ranges.greatest.fits in
    let n = c.in-Ok.number in
    let form = (c.whole.ensures.form n).0 c.in-Ok.is in
    let writes : WritesWhole c.args.text.now n = subst (λ t. WritesWhole t n) c.as_bytes-field.ensures.value form.0 in
    let reaches : pos c.args.least ≤ℤ n = subst (λ z. z ≤ℤ n) lower form.1 in
    let fits : n ≤ℤ pos c.args.greatest = subst (λ z. n ≤ℤ z) upper form.2 in
    unsigned_reads c.args.text.now c.args.least c.args.greatest n plain writes reaches fits c.ranges.greatest.fits

-- src/values.rt:21:1
pub returns-in-Err-clause-read : goal.returns-in-Err-clause-read
returns-in-Err-clause-read c =
    let lower : to_z w128 (of_z w128 c.from.result) ≡ pos c.args.least = kept c.from.result c.args.least c.from.ensures c.ranges.least.fits in
    let upper : to_z w128 (of_z w128 c.from-2.result) ≡ pos c.args.greatest = kept c.from-2.result c.args.greatest c.from-2.ensures c.ranges.greatest.fits in
    unread c.args.text.now c.args.least c.args.greatest (λ n writes least most.
    let field = subst (λ t. WritesWhole t n) (sym c.as_bytes-field.ensures.value) writes in
    let reaches = subst (λ z. z ≤ℤ n) (sym lower) least in
    let fits = subst (λ z. n ≤ℤ z) (sym upper) most in
    let read : c.whole.result ≡ Ok n = (c.whole.ensures.form n).1 (field, reaches, fits) in
    let bad = c.in-Err.is in
    cc)
