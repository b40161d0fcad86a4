-- The least scale, line by line.
use Rattle.std.proofs.Common.{◌≡◌, ℕ, suc, ◌+◌, ◌^◌, ◌<◌, ◌≤◌, true, false, cond, nat_lt, List, get_or, None, ℤ, pos, ◌<ℤ◌, ◌≤ℤ◌, unsigned_abs, refl, sym, ◌∙◌, ap, subst, add-one, arith}
use Rattle.std.proofs.lemmas.Int.{ints}
use Rattle.std.proofs.lemmas.Bool.{le-ltb, lt-ltb, ltb-false}
use Rattle.sums.specs.Places.{first_below}
use Rattle.sums.proofs.Sizes.{pos_above}
use Rattle.frac_row.specs.Outgrown.{IsWithin}
use Rattle.frac_row.specs.declared.row.FracRow.{FracRow}
use Rattle.simplex_frac.specs.dual_lift.Scales.{lcm, lowest_den, scale_below}
use Rattle.simplex_frac.specs.dual_lift.TooLarge.{least_scale_excess}
use Rattle.simplex_frac.proofs.dual_lift.Excesses.{place_well, well}
use Rattle.simplex_frac.proofs.dual_lift.LeastScales.{lcm_positive}

-- with a line of one of the first columns, and with another
pub with_first : (table : List FracRow) (basis : List ℕ) (columns line : ℕ) → get_or basis line 0 < columns → scale_below table basis columns (suc line) ≡ lcm (scale_below table basis columns line) (lowest_den table line)
with_first table basis columns line real = ap (λ b. cond b (lcm (scale_below table basis columns line) (lowest_den table line)) (scale_below table basis columns line)) (lt-ltb (get_or basis line 0) columns real)

pub with_another : (table : List FracRow) (basis : List ℕ) (columns line : ℕ) → columns ≤ get_or basis line 0 → scale_below table basis columns (suc line) ≡ scale_below table basis columns line
with_another table basis columns line other = ap (λ b. cond b (lcm (scale_below table basis columns line) (lowest_den table line)) (scale_below table basis columns line)) (le-ltb (get_or basis line 0) columns other)

-- the scale so far
pub record IsScaleSoFar (most : ℕ) (table : List FracRow) (basis : List ℕ) (columns line : ℕ) (scale : ℤ) : Type 0 where
  pub scale_is : scale ≡ pos (scale_below table basis columns line)
  pub some : pos 0 <ℤ scale
  pub within : scale ≤ℤ pos most
  pub fits : first_below (least_scale_excess most table basis columns) line ≡ None

within_of : (most n : ℕ) → n ≤ most → pos n ≤ℤ pos most
within_of most n le = omega (arith, ints)

size_of : (z : ℤ) (n : ℕ) → z ≡ pos n → unsigned_abs z ≡ n
size_of z n e = ap unsigned_abs e

held : (most : ℕ) (z : ℤ) (n : ℕ) → z ≡ pos n → pos 0 <ℤ z → z ≤ℤ pos most → (0 < n) × (n ≤ most)
held most z n e some within = (omega (arith, ints), omega (arith, ints))

pub first_scale : (most : ℕ) (table : List FracRow) (basis : List ℕ) (columns : ℕ) → 0 < most → IsScaleSoFar most table basis columns 0 (pos 1)
first_scale most table basis columns limit = record { scale_is = refl; some = pos_above 1 (omega arith); within = within_of most 1 (omega arith); fits = refl }

pub wanted_scale : (most : ℕ) (table : List FracRow) (basis : List ℕ) (columns line : ℕ) (scale den common : ℤ) → IsScaleSoFar most table basis columns line scale → get_or basis line 0 < columns → den ≡ pos (lowest_den table line) → 0 < lowest_den table line
    → nat_lt most (lcm (unsigned_abs scale) (unsigned_abs den)) ≡ false → common ≡ pos (lcm (unsigned_abs scale) (unsigned_abs den)) → IsScaleSoFar most table basis columns (line + 1) common
wanted_scale most table basis columns line scale den common before real e some fits is =
    let old = held most scale (scale_below table basis columns line) before.scale_is before.some before.within in
    let same : lcm (unsigned_abs scale) (unsigned_abs den) ≡ scale_below table basis columns (suc line) =
    ap (λ n. lcm n (unsigned_abs den)) (size_of scale (scale_below table basis columns line) before.scale_is) ∙ ap (lcm (scale_below table basis columns line)) (size_of den (lowest_den table line) e) ∙ sym (with_first table basis columns line real) in
    let within = ltb-false most (lcm (unsigned_abs scale) (unsigned_abs den)) fits in
    let value : common ≡ pos (scale_below table basis columns (suc line)) = is ∙ ap pos same in
    let more : 0 < scale_below table basis columns (suc line) = subst (λ n. 0 < n) (sym (with_first table basis columns line real)) (lcm_positive (scale_below table basis columns line) (lowest_den table line) old.0 some) in
    let le : scale_below table basis columns (suc line) ≤ most = subst (λ n. n ≤ most) same within in
    record {
      scale_is = value ∙ ap (λ n. pos (scale_below table basis columns n)) (sym (add-one line));
      some = subst (λ z. pos 0 <ℤ z) (sym value) (pos_above (scale_below table basis columns (suc line)) more);
      within = subst (λ z. z ≤ℤ pos most) (sym value) (within_of most (scale_below table basis columns (suc line)) le);
      fits = place_well (least_scale_excess most table basis columns) line before.fits (well (nat_lt most (scale_below table basis columns (suc line))) 6 line (le-ltb most (scale_below table basis columns (suc line)) le));
    }

pub other_scale : (most : ℕ) (table : List FracRow) (basis : List ℕ) (columns line : ℕ) (scale : ℤ) → IsScaleSoFar most table basis columns line scale → columns ≤ get_or basis line 0 → IsScaleSoFar most table basis columns (line + 1) scale
other_scale most table basis columns line scale before other =
    let old = held most scale (scale_below table basis columns line) before.scale_is before.some before.within in
    let same = with_another table basis columns line other in
    record {
      scale_is = before.scale_is ∙ ap pos (sym same) ∙ ap (λ n. pos (scale_below table basis columns n)) (sym (add-one line));
      some = before.some;
      within = before.within;
      fits = place_well (least_scale_excess most table basis columns) line before.fits (well (nat_lt most (scale_below table basis columns (suc line))) 6 line (le-ltb most (scale_below table basis columns (suc line)) (subst (λ n. n ≤ most) (sym same) old.1)));
    }

-- where the common scale is past its limit
pub past_scale : (most : ℕ) (table : List FracRow) (basis : List ℕ) (columns line : ℕ) (scale den : ℤ) → IsScaleSoFar most table basis columns line scale → get_or basis line 0 < columns → den ≡ pos (lowest_den table line)
    → nat_lt most (lcm (unsigned_abs scale) (unsigned_abs den)) ≡ true → nat_lt most (scale_below table basis columns (suc line)) ≡ true
past_scale most table basis columns line scale den before real e past =
    ap (nat_lt most) (with_first table basis columns line real ∙ sym (ap (lcm (scale_below table basis columns line)) (size_of den (lowest_den table line) e)) ∙ sym (ap (λ n. lcm n (unsigned_abs den)) (size_of scale (scale_below table basis columns line) before.scale_is))) ∙ past

-- a scale within its limit is not outgrown
pub scale_within : (most : ℕ) (scale : ℤ) → most < 2 ^ 64 → pos 0 <ℤ scale → scale ≤ℤ pos most → IsWithin scale
scale_within most scale small some within = omega (arith, ints)
