-- Where the first outgrown number is.
use Rattle.std.proofs.Common.{◌≡◌, ℕ, ◌<◌, ℤ, ◌-ℤ◌, ◌*ℤ◌, Bool, true, false, cond, Option, Some, None, refl, sym, ◌∙◌, ap}
use Rattle.std.specs.Prelude.{is_some}
use Rattle.sums.specs.Places.{first_below, or_else}
use Rattle.sums.proofs.Places.{first_found}
use Rattle.sums.proofs.Tests.{unlike}
use Rattle.frac_row.specs.Outgrown.{is_outgrown}
use Rattle.frac_row.specs.Row.{number_of, width_of}
use Rattle.frac_row.specs.Combined.{place_growth, growth_by}
use Rattle.frac_row.specs.declared.row.FracRow.{FracRow}
use Rattle.frac_row.specs.declared.growth.Growth.{Growth}
use Rattle.frac_row.specs.declared.factors.Factors.{Factors}

-- the first of three that pass their tests
pick_first : {X : Type 0} (a b c : Bool) (x y z g : X) → a ≡ true → g ≡ x → Some g ≡ or_else (cond a (Some x) None) (or_else (cond b (Some y) None) (cond c (Some z) None))
pick_first true b c x y z g e same = ap Some same
pick_first false b c x y z g e same = unlike (sym e)

pick_second : {X : Type 0} (a b c : Bool) (x y z g : X) → a ≡ false → b ≡ true → g ≡ y → Some g ≡ or_else (cond a (Some x) None) (or_else (cond b (Some y) None) (cond c (Some z) None))
pick_second false true c x y z g e d same = ap Some same
pick_second true b c x y z g e d same = unlike e
pick_second false false c x y z g e d same = unlike (sym d)

pick_third : {X : Type 0} (a b c : Bool) (x y z g : X) → a ≡ false → b ≡ false → c ≡ true → g ≡ z → Some g ≡ or_else (cond a (Some x) None) (or_else (cond b (Some y) None) (cond c (Some z) None))
pick_third false false true x y z g e d f same = ap Some same
pick_third true b c x y z g e d f same = unlike e
pick_third false true c x y z g e d f same = unlike d
pick_third false false false x y z g e d f same = unlike (sym f)

pick_none : {X : Type 0} (a b c : Bool) (x y z : X) → a ≡ false → b ≡ false → c ≡ false → ◌≡◌ {A = Option X} None (or_else (cond a (Some x) None) (or_else (cond b (Some y) None) (cond c (Some z) None)))
pick_none false false false x y z e d f = refl
pick_none true b c x y z e d f = unlike e
pick_none false true c x y z e d f = unlike d
pick_none false false true x y z e d f = unlike f

pub place_growth_first : (f : Factors) (column : ℕ) (n r : ℤ) (g : Growth) → is_outgrown (f.own *ℤ n) ≡ true → g ≡ record { column = column; left = f.own; right = n } → Some g ≡ place_growth f column n r
unfolding place_growth
place_growth_first f column n r g e same = pick_first _ _ _ _ _ _ g e same

pub place_growth_second : (f : Factors) (column : ℕ) (n r : ℤ) (g : Growth) → is_outgrown (f.own *ℤ n) ≡ false → is_outgrown (f.pivot *ℤ r) ≡ true → g ≡ record { column = column; left = f.pivot; right = r } → Some g ≡ place_growth f column n r
unfolding place_growth
place_growth_second f column n r g e d same = pick_second _ _ _ _ _ _ g e d same

pub place_growth_third : (f : Factors) (column : ℕ) (n r x y : ℤ) (g : Growth) → is_outgrown (f.own *ℤ n) ≡ false → is_outgrown (f.pivot *ℤ r) ≡ false → x ≡ f.own *ℤ n → y ≡ f.pivot *ℤ r → is_outgrown (x -ℤ y) ≡ true → g ≡ record { column = column; left = x; right = y } → Some g ≡ place_growth f column n r
unfolding place_growth
place_growth_third f column n r x y g e d p q h same =
    pick_third _ _ _ _ _ _ g e d (rw (p, q) at h) (same ∙ rw (p, q) refl)

pub place_growth_none : (f : Factors) (column : ℕ) (n r x y : ℤ) → is_outgrown (f.own *ℤ n) ≡ false → is_outgrown (f.pivot *ℤ r) ≡ false → x ≡ f.own *ℤ n → y ≡ f.pivot *ℤ r → is_outgrown (x -ℤ y) ≡ false → None ≡ place_growth f column n r
unfolding place_growth
place_growth_none f column n r x y e d p q h = pick_none _ _ _ _ _ _ e d (rw (p, q) at h)

-- the growth of two rows is that of the first place that has one
pub growth_by_place : (f : Factors) (row pivot_row : FracRow) (k : ℕ) (g : Option Growth) → k < width_of row → first_below (λ column. place_growth f column (number_of row column) (number_of pivot_row column)) k ≡ None → g ≡ place_growth f k (number_of row k) (number_of pivot_row k) → is_some g ≡ true → g ≡ growth_by f row pivot_row
unfolding growth_by
growth_by_place f row pivot_row k (Some x) lt none e some =
    sym (ap (λ o. or_else o (cond (is_outgrown (f.own *ℤ row.den)) (Some (record { column = width_of row; left = f.own; right = row.den })) None)) (first_found (λ column. place_growth f column (number_of row column) (number_of pivot_row column)) k (width_of row) x none (sym e) lt))
growth_by_place f row pivot_row k None lt none e some = unlike (sym some)

-- else that of the denominator
pub growth_by_den : (f : Factors) (row pivot_row : FracRow) (n : ℕ) (g : Growth) → n ≡ width_of row → first_below (λ column. place_growth f column (number_of row column) (number_of pivot_row column)) n ≡ None → is_outgrown (f.own *ℤ row.den) ≡ true → g ≡ record { column = n; left = f.own; right = row.den } → Some g ≡ growth_by f row pivot_row
unfolding growth_by
growth_by_den f row pivot_row n g same none grown e =
    rw (← same) (rw none (chosen (is_outgrown (f.own *ℤ row.den)) g _ grown e))
  where
    chosen : (b : Bool) (x y : Growth) → b ≡ true → x ≡ y → Some x ≡ cond b (Some y) None
    chosen true x y h e = ap Some e
    chosen false x y h e = unlike (sym h)

pub growth_by_none : (f : Factors) (row pivot_row : FracRow) (n : ℕ) → n ≡ width_of row → first_below (λ column. place_growth f column (number_of row column) (number_of pivot_row column)) n ≡ None → is_outgrown (f.own *ℤ row.den) ≡ false → None ≡ growth_by f row pivot_row
unfolding growth_by
growth_by_none f row pivot_row n same none within =
    rw (← same) (rw none (left_out (is_outgrown (f.own *ℤ row.den)) _ within))
  where
    left_out : (b : Bool) (y : Growth) → b ≡ false → ◌≡◌ {A = Option Growth} None (cond b (Some y) None)
    left_out false y h = refl
    left_out true y h = unlike h
