-- Two rows side by side, column by column, where either has a number.
use Rattle.std.specs.Prelude.{pos, ◌==◌, nat_lt, List, [], ◌∷◌, Option, None, unsigned_abs, if◌then◌else◌}
use Rattle.sums.specs.Places.{or_else}
use Rattle.frac_row.specs.Combined.{combined_number, place_growth, PlaceFits}
use Rattle.frac_row.specs.declared.factors.Factors.{Factors}
use Rattle.frac_row.specs.declared.growth.Growth.{Growth}
use Rattle.frac_row.specs.declared.entry.Entry.{Entry}
use Rattle.frac_row.specs.declared.pairs.Pair.{Pair}

abbrev pub first_alone : Entry → Pair
first_alone entry = record { column = entry.column; number = entry.number; pivot_number = pos 0 }

abbrev pub second_alone : Entry → Pair
second_alone entry = record { column = entry.column; number = pos 0; pivot_number = entry.number }

-- the columns in which either list has a number, in order
abbrev pub pairs_of : List Entry → List Entry → List Pair
pairs_of [] [] = []
pairs_of [] (y ∷ ys) = second_alone y ∷ pairs_of [] ys
pairs_of (x ∷ xs) [] = first_alone x ∷ pairs_of xs []
pairs_of (x ∷ xs) (y ∷ ys) =
    if nat_lt x.column y.column then first_alone x ∷ pairs_of xs (y ∷ ys)
    else if nat_lt y.column x.column then second_alone y ∷ pairs_of (x ∷ xs) ys
    else record { column = x.column; number = x.number; pivot_number = y.number } ∷ pairs_of xs ys

-- the combinations that are not 0
abbrev pub combined_entries : Factors → List Pair → List Entry
combined_entries factors [] = []
combined_entries factors (pair ∷ rest) =
    if unsigned_abs (combined_number factors pair.number pair.pivot_number) == 0 then combined_entries factors rest
    else record { column = pair.column; number = combined_number factors pair.number pair.pivot_number } ∷ combined_entries factors rest

-- the first outgrown product or difference
abbrev pub first_growth : Factors → List Pair → Option Growth
first_growth factors [] = None
first_growth factors (pair ∷ rest) =
    or_else (place_growth factors pair.column pair.number pair.pivot_number) (first_growth factors rest)

-- nothing is outgrown in any column
abbrev pub AllFit : Factors → List Pair → Type 0
AllFit factors [] = Unit {0}
AllFit factors (pair ∷ rest) = PlaceFits factors pair.number pair.pivot_number × AllFit factors rest
