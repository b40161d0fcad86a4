-- What holds of the combination of two rows where nothing grew.
use Rattle.std.proofs.Common.{◌≡◌, ℕ, ◌*◌, ◌-◌, ◌^◌, ◌<◌, ◌≤◌, ℤ, pos, ◌-ℤ◌, ◌*ℤ◌, ◌<ℤ◌, Bool, true, false, cond, Option, Some, None, List, length, get_or, unsigned_abs, refl, arith, inl, inr}
use Rattle.std.specs.Prelude.{int_div, All}
use Prim.Native.Nat.{◌∣◌}
use Rattle.std.proofs.lemmas.Int.{ints, unsigned_abs-mul}
use Rattle.std.proofs.lemmas.Nat.{mul-le}
use Rattle.std.proofs.lemmas.Bool.{cases_lt}
use Rattle.std.proofs.lemmas.Bool.Decides.{nat_tests}
use Rattle.std.proofs.lemmas.List.{get_or_past}
use Rattle.sums.specs.Divisors.{gcd}
use Rattle.sums.specs.Places.{list_below, first_below, or_else}
use Rattle.sums.proofs.Divisors.{gcd_is}
use Rattle.sums.proofs.Division.{*ℤ-int_div, size-int_div, positive_factor}
use lib.IntN.{neg_ℤ}
use Rattle.sums.proofs.Integers.{positive_product}
use Rattle.sums.proofs.Places.{length-list_below, get_or-list_below, nothing_at, all_nothing}
use Rattle.frac_row.specs.Outgrown.{is_outgrown, IsWithin}
use Rattle.frac_row.specs.Row.{number_of, width_of, IsRow, IsSmall}
use Rattle.frac_row.specs.Combined.{combined_number, PlaceFits, combination, factors_of, place_growth, growth_by}
use Rattle.frac_row.proofs.Rows.{same_row}
use Rattle.frac_row.specs.declared.row.FracRow.{FracRow}
use Rattle.frac_row.specs.declared.factors.Factors.{Factors}

pub within_from : (z : ℤ) → is_outgrown z ≡ false → IsWithin z
within_from z h = grind (arith, nat_tests)

pub opposite_within : (z : ℤ) → IsWithin z → IsWithin (neg_ℤ z)
opposite_within z within = omega (arith, ints)

none_of : {X : Type 0} (a b c : Bool) (x y z : X) → ◌≡◌ {A = Option X} (or_else (cond a (Some x) None) (or_else (cond b (Some y) None) (cond c (Some z) None))) None → (a ≡ false) × (b ≡ false) × (c ≡ false)
none_of false false false x y z e = (refl, refl, refl)
none_of true b c x y z e = absurd (some_none e)
  where
    some_none : {X : Type 0} {x : X} → Some x ≡ None → ⊥
    some_none e = cc
none_of false true c x y z e = absurd (some_none e)
  where
    some_none : {X : Type 0} {x : X} → Some x ≡ None → ⊥
    some_none e = cc
none_of false false true x y z e = absurd (some_none e)
  where
    some_none : {X : Type 0} {x : X} → Some x ≡ None → ⊥
    some_none e = cc

pub place_fits : (f : Factors) (column : ℕ) (n r : ℤ) → place_growth f column n r ≡ None → PlaceFits f n r
unfolding place_growth
place_fits f column n r e =
    let tests = none_of (is_outgrown (f.own *ℤ n)) (is_outgrown (f.pivot *ℤ r)) (is_outgrown (combined_number f n r)) (record { column = column; left = f.own; right = n }) (record { column = column; left = f.pivot; right = r }) (record { column = column; left = f.own *ℤ n; right = f.pivot *ℤ r }) e in
    record { own_product = within_from (f.own *ℤ n) tests.0; pivot_product = within_from (f.pivot *ℤ r) tests.1; difference = within_from (combined_number f n r) tests.2 }

none_both : {X : Type 0} (o p : Option X) → or_else o p ≡ None → (o ≡ None) × (p ≡ None)
none_both None p e = (refl, e)
none_both (Some x) p e = absurd (some_none e)
  where
    some_none : Some x ≡ None → ⊥
    some_none e = cc

not_grown : {X : Type 0} (b : Bool) (x : X) → ◌≡◌ {A = Option X} (cond b (Some x) None) None → b ≡ false
not_grown false x e = refl
not_grown true x e = absurd (some_none e)
  where
    some_none : Some x ≡ None → ⊥
    some_none e = cc

-- where nothing grew, each place fits
pub row_fits : (f : Factors) (row pivot_row : FracRow) (k : ℕ) → growth_by f row pivot_row ≡ None → k < width_of row → PlaceFits f (number_of row k) (number_of pivot_row k)
unfolding growth_by
row_fits f row pivot_row k e lt =
    place_fits f k (number_of row k) (number_of pivot_row k) (nothing_at (λ column. place_growth f column (number_of row column) (number_of pivot_row column)) (width_of row) k (none_both (first_below (λ column. place_growth f column (number_of row column) (number_of pivot_row column)) (width_of row)) _ e).0 lt)

pub den_fits : (f : Factors) (row pivot_row : FracRow) → growth_by f row pivot_row ≡ None → IsWithin (f.own *ℤ row.den)
unfolding growth_by
den_fits f row pivot_row e =
    within_from (f.own *ℤ row.den) (not_grown (is_outgrown (f.own *ℤ row.den)) (record { column = width_of row; left = f.own; right = row.den }) (none_both (first_below (λ column. place_growth f column (number_of row column) (number_of pivot_row column)) (width_of row)) _ e).1)

-- then the combination is a row
pub combination_is_row : (f : Factors) (row pivot_row : FracRow) → pos 0 <ℤ f.own → IsRow row → growth_by f row pivot_row ≡ None → IsRow (combination f row pivot_row)
unfolding combination
combination_is_row f row pivot_row own h e = record {
  within = λ k. elim (cases_lt k (width_of row)) [
    | inl lt ↦ rw (at_place k lt) (row_fits f row pivot_row k e lt).difference
    | inr ge ↦ rw (past k ge) (omega arith)
  ];
  den_within = den_fits f row pivot_row e;
  positive = positive_product f.own row.den own h.positive;
}
  where
    at_place : (k : ℕ) → k < width_of row → get_or (list_below (λ column. combined_number f (number_of row column) (number_of pivot_row column)) (width_of row)) k (pos 0) ≡ combined_number f (number_of row k) (number_of pivot_row k)
    at_place k lt = get_or-list_below _ (width_of row) k (pos 0) lt

    past : (k : ℕ) → width_of row ≤ k → get_or (list_below (λ column. combined_number f (number_of row column) (number_of pivot_row column)) (width_of row)) k (pos 0) ≡ pos 0
    past k ge = get_or_past _ k (pos 0) (rw length-list_below ge)

-- the row's own factor is above 0, and no factor is greater than its number
pub record AreFactors (row pivot_row : FracRow) (column : ℕ) : Type 0 where
  pub own_positive : pos 0 <ℤ (factors_of row pivot_row column).own
  pub own_size : unsigned_abs (factors_of row pivot_row column).own ≤ unsigned_abs (number_of pivot_row column)
  pub pivot_size : unsigned_abs (factors_of row pivot_row column).pivot ≤ unsigned_abs (number_of row column)

pub factors_are : (row pivot_row : FracRow) (column : ℕ) → pos 0 <ℤ number_of pivot_row column → AreFactors row pivot_row column
unfolding factors_of
factors_are row pivot_row column some = record {
  own_positive = own_above (number_of pivot_row column) (gcd (unsigned_abs (number_of pivot_row column)) (unsigned_abs (number_of row column))) some (gcd_is (unsigned_abs (number_of pivot_row column)) (unsigned_abs (number_of row column))).0;
  own_size = size-int_div (number_of pivot_row column) (gcd (unsigned_abs (number_of pivot_row column)) (unsigned_abs (number_of row column)));
  pivot_size = size-int_div (number_of row column) (gcd (unsigned_abs (number_of pivot_row column)) (unsigned_abs (number_of row column)));
}
  where
    own_above : (p : ℤ) (g : ℕ) → pos 0 <ℤ p → g ∣ unsigned_abs p → pos 0 <ℤ int_div p (pos g)
    own_above p g some h = positive_factor g (int_div p (pos g)) (rw (*ℤ-int_div p g h) some)

not_outgrown : (z : ℤ) → IsWithin z → is_outgrown z ≡ false
not_outgrown z h = grind (arith, nat_tests)

small_product : (a b : ℤ) → unsigned_abs a ≤ 2 ^ 63 - 1 → unsigned_abs b ≤ 2 ^ 63 - 1 → unsigned_abs (a *ℤ b) ≤ (2 ^ 63 - 1) * (2 ^ 63 - 1)
small_product a b p q = rw unsigned_abs-mul (mul-le (unsigned_abs a) (unsigned_abs b) (2 ^ 63 - 1) (2 ^ 63 - 1) p q)

small_difference : (x y : ℤ) → unsigned_abs x ≤ (2 ^ 63 - 1) * (2 ^ 63 - 1) → unsigned_abs y ≤ (2 ^ 63 - 1) * (2 ^ 63 - 1) → IsWithin (x -ℤ y)
small_difference x y p q = omega (arith, ints)

no_growth : {X : Type 0} (a b c : Bool) (x y z : X) → a ≡ false → b ≡ false → c ≡ false → ◌≡◌ {A = Option X} (or_else (cond a (Some x) None) (or_else (cond b (Some y) None) (cond c (Some z) None))) None
no_growth a b c x y z p q r = rw (p, q, r) refl

no_den_growth : {X : Type 0} (o : Option X) (b : Bool) (x : X) → o ≡ None → b ≡ false → or_else o (cond b (Some x) None) ≡ None
no_den_growth o b x p q = rw (p, q) refl

small_place : (f : Factors) (column : ℕ) (n r : ℤ) → unsigned_abs f.own ≤ 2 ^ 63 - 1 → unsigned_abs f.pivot ≤ 2 ^ 63 - 1 → unsigned_abs n ≤ 2 ^ 63 - 1 → unsigned_abs r ≤ 2 ^ 63 - 1 → place_growth f column n r ≡ None
unfolding place_growth
small_place f column n r own pivot sn sr =
    let p : unsigned_abs (f.own *ℤ n) ≤ (2 ^ 63 - 1) * (2 ^ 63 - 1) = small_product f.own n own sn in
    let q : unsigned_abs (f.pivot *ℤ r) ≤ (2 ^ 63 - 1) * (2 ^ 63 - 1) = small_product f.pivot r pivot sr in
    no_growth _ _ _ _ _ _ (not_outgrown (f.own *ℤ n) (omega arith)) (not_outgrown (f.pivot *ℤ r) (omega arith)) (not_outgrown (combined_number f n r) (small_difference (f.own *ℤ n) (f.pivot *ℤ r) p q))

small_in : (xs : List ℤ) (k : ℕ) → All (λ x. unsigned_abs x ≤ 2 ^ 63 - 1) xs → unsigned_abs (get_or xs k (pos 0)) ≤ 2 ^ 63 - 1
small_in xs k h =
    elim (cases_lt k (length xs)) [ inl lt ↦ h k (pos 0) lt | inr ge ↦ rw (get_or_past xs k (pos 0) ge) (omega arith) ]

-- where all numbers are small, nothing grows
pub small_growth : (row pivot_row : FracRow) (column : ℕ) → pos 0 <ℤ number_of pivot_row column → IsSmall row → IsSmall pivot_row → growth_by (factors_of row pivot_row column) row pivot_row ≡ None
unfolding growth_by
small_growth row pivot_row column some h k =
    let f : Factors = factors_of row pivot_row column in
    let factors : AreFactors row pivot_row column = factors_are row pivot_row column some in
    let own : unsigned_abs f.own ≤ 2 ^ 63 - 1 = omega (arith, factors.own_size, small_in pivot_row.numbers column k.numbers) in
    let pivot : unsigned_abs f.pivot ≤ 2 ^ 63 - 1 = omega (arith, factors.pivot_size, small_in row.numbers column h.numbers) in
    let den : unsigned_abs (f.own *ℤ row.den) ≤ (2 ^ 63 - 1) * (2 ^ 63 - 1) = small_product f.own row.den own h.den in
    no_den_growth _ _ _ (all_nothing (λ c. place_growth f c (number_of row c) (number_of pivot_row c)) (width_of row) (λ c lt. small_place f c (number_of row c) (number_of pivot_row c) own pivot (small_in row.numbers c h.numbers) (small_in pivot_row.numbers c k.numbers))) (not_outgrown (f.own *ℤ row.den) (omega arith))

pub combination_from : (f : Factors) (row pivot_row : FracRow) (numbers : List ℤ) (den : ℤ) → numbers ≡ list_below (λ k. combined_number f (number_of row k) (number_of pivot_row k)) (width_of row) → den ≡ f.own *ℤ row.den → ◌≡◌ {A = FracRow} (record { numbers = numbers; den = den }) (combination f row pivot_row)
unfolding combination
combination_from f row pivot_row numbers den p q = same_row numbers _ den _ p q

pub number_of-combination : (f : Factors) (row pivot_row : FracRow) (k : ℕ) → k < width_of row → number_of (combination f row pivot_row) k ≡ combined_number f (number_of row k) (number_of pivot_row k)
unfolding combination
number_of-combination f row pivot_row k lt = get_or-list_below _ (width_of row) k (pos 0) lt

pub den-combination : (f : Factors) (row pivot_row : FracRow) → (combination f row pivot_row).den ≡ f.own *ℤ row.den
unfolding combination
den-combination f row pivot_row = refl
