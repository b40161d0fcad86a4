-- Two rows side by side: their combination, and the first place where it is outgrown.
use Rattle.std.proofs.Common.{◌≡◌, ℕ, ◌+◌, ◌<◌, ◌≤◌, ◌≢◌, Bool, true, false, cond, ◌==◌, if◌then◌else◌, eqb, ltb, ℤ, pos, ◌*ℤ◌, List, [], ◌∷◌, Option, Some, None, unsigned_abs, refl, sym, ◌∙◌, ap, subst, arith, inl, inr}
use Rattle.std.proofs.lemmas.Bool.{cases_eq, cases_lt, eqb-false, eqb-true}
use Rattle.std.proofs.lemmas.Bool.Decides.{nat_tests}
use Rattle.std.proofs.lemmas.Int.{ints}
use lib.IntN.{*ℤ-zero}
use Rattle.sums.specs.Places.{first_below, or_else}
use Rattle.sums.proofs.Sizes.{zero_size}
use Rattle.sums.proofs.Tests.{by_choice}
use Rattle.sums.proofs.Places.{first_found, nothing_at, all_nothing}
use Rattle.sums.proofs.NumberTests.{if_apart, if_same}
use Rattle.frac_row.proofs.Combinations.{place_fits}
use Rattle.frac_row.specs.Combined.{combined_number, place_growth, outgrowth}
use Rattle.frac_row.specs.declared.factors.Factors.{Factors}
use Rattle.frac_row.specs.declared.growth.Growth.{Growth}
use Rattle.frac_row.specs.declared.entry.Entry.{Entry}
use Rattle.frac_row.specs.declared.pairs.Pair.{Pair}
use Rattle.frac_row.specs.Content.{number_in, AreEntries}
use Rattle.frac_row.specs.Pairs.{pairs_of, combined_entries, first_growth, AllFit}
use Rattle.frac_row.proofs.Contents.{are_from, nothing_before}

-- the columns of pairs rise from a first one on and stay below a bound
abbrev pub ArePairs : ℕ → ℕ → List Pair → Type 0
ArePairs from width [] = Unit {0}
ArePairs from width (pair ∷ rest) = (from ≤ pair.column) × (pair.column < width) × ArePairs (pair.column + 1) width rest

-- what the pairs have in a column, by one of their numbers
abbrev pub value_in : (Pair → ℤ) → List Pair → ℕ → ℤ
value_in value [] column = pos 0
value_in value (pair ∷ rest) column = if pair.column == column then value pair else value_in value rest column

abbrev pub first_in : List Pair → ℕ → ℤ
first_in pairs column = value_in (λ pair. pair.number) pairs column

abbrev pub second_in : List Pair → ℕ → ℤ
second_in pairs column = value_in (λ pair. pair.pivot_number) pairs column

none_before : (value : Pair → ℤ) (from width : ℕ) (pairs : List Pair) (column : ℕ) → ArePairs from width pairs → column < from → value_in value pairs column ≡ pos 0
none_before value from width [] column h lt = refl
none_before value from width (p ∷ ps) column h lt =
    if_apart p.column column _ _ (apart h.0) ∙ none_before value (p.column + 1) width ps column h.2 (omega (arith, h.0))
  where
    apart : from ≤ p.column → p.column ≢ column
    apart le = omega arith

-- by the order of two columns
by_columns : {X : Type 0} (P : X → Type 0) (m n : ℕ) (x y z : X) → (m < n → P x) → (n < m → P y) → (m ≡ n → P z) → P (cond (ltb m n) x (cond (ltb n m) y z))
by_columns P m n x y z p q r = go (ltb m n) (ltb n m) (λ t. p (less m n t)) (λ t. q (less n m t)) (λ t u. r (same m n t u))
  where
    less : (m n : ℕ) → ltb m n ≡ true → m < n
    less m n t = grind (arith, nat_tests)

    same : (m n : ℕ) → ltb m n ≡ false → ltb n m ≡ false → m ≡ n
    same m n t u = grind (arith, nat_tests)

    go : (b c : Bool) → (b ≡ true → P x) → (c ≡ true → P y) → (b ≡ false → c ≡ false → P z) → P (cond b x (cond c y z))
    go true c p q r = p refl
    go false true p q r = q refl
    go false false p q r = r refl refl

pub pairs_rise : (from width : ℕ) (xs ys : List Entry) → AreEntries from width xs → AreEntries from width ys → ArePairs from width (pairs_of xs ys)
pairs_rise from width [] [] h k = tt
pairs_rise from width [] (y ∷ ys) h k = (k.0, k.1, pairs_rise (y.column + 1) width [] ys tt k.3)
pairs_rise from width (x ∷ xs) [] h k = (h.0, h.1, pairs_rise (x.column + 1) width xs [] h.3 tt)
pairs_rise from width (x ∷ xs) (y ∷ ys) h k =
    by_columns (ArePairs from width) x.column y.column _ _ _
    (λ lt. (h.0, h.1, pairs_rise (x.column + 1) width xs (y ∷ ys) h.3 (omega arith, k.1, k.2, k.3)))
    (λ lt. (k.0, k.1, pairs_rise (y.column + 1) width (x ∷ xs) ys (omega arith, h.1, h.2, h.3) k.3))
    (λ e. (h.0, h.1, pairs_rise (x.column + 1) width xs ys h.3 (subst (λ c. AreEntries (c + 1) width ys) (sym e) k.3)))

-- one column more: what stands in it, else what stands behind it
same_behind : (column here : ℕ) (number behind all : ℤ) → (here ≡ column → number ≡ all) → (here ≢ column → behind ≡ all) → cond (eqb here column) number behind ≡ all
same_behind column here number behind all p q =
    elim (cases_eq here column) [ inl e ↦ if_same here column number behind e ∙ p e | inr ne ↦ if_apart here column number behind ne ∙ q ne ]

pub first_is : (from width : ℕ) (xs ys : List Entry) (column : ℕ) → AreEntries from width xs → AreEntries from width ys → first_in (pairs_of xs ys) column ≡ number_in xs column
first_is from width [] [] column h k = refl
first_is from width [] (y ∷ ys) column h k =
    same_behind column y.column (pos 0) _ (pos 0) (λ _. refl) (λ _. first_is (y.column + 1) width [] ys column tt k.3)
first_is from width (x ∷ xs) [] column h k =
    ap (λ z. cond (eqb x.column column) x.number z) (first_is (x.column + 1) width xs [] column h.3 tt)
first_is from width (x ∷ xs) (y ∷ ys) column h k =
    by_columns (λ pairs. first_in pairs column ≡ number_in (x ∷ xs) column) x.column y.column _ _ _
    (λ lt. ap (λ z. cond (eqb x.column column) x.number z) (first_is (x.column + 1) width xs (y ∷ ys) column h.3 (omega arith, k.1, k.2, k.3)))
    (λ lt. same_behind column y.column (pos 0) _ (number_in (x ∷ xs) column)
    (λ e. sym (nothing_before (y.column + 1) width (x ∷ xs) column (omega arith, h.1, h.2, h.3) (omega arith)))
    (λ _. first_is (y.column + 1) width (x ∷ xs) ys column (omega arith, h.1, h.2, h.3) k.3))
    (λ e. ap (λ z. cond (eqb x.column column) x.number z) (first_is (x.column + 1) width xs ys column h.3 (subst (λ c. AreEntries (c + 1) width ys) (sym e) k.3)))

pub second_is : (from width : ℕ) (xs ys : List Entry) (column : ℕ) → AreEntries from width xs → AreEntries from width ys → second_in (pairs_of xs ys) column ≡ number_in ys column
second_is from width [] [] column h k = refl
second_is from width [] (y ∷ ys) column h k =
    ap (λ z. cond (eqb y.column column) y.number z) (second_is (y.column + 1) width [] ys column tt k.3)
second_is from width (x ∷ xs) [] column h k =
    same_behind column x.column (pos 0) _ (pos 0) (λ _. refl) (λ _. second_is (x.column + 1) width xs [] column h.3 tt)
second_is from width (x ∷ xs) (y ∷ ys) column h k =
    by_columns (λ pairs. second_in pairs column ≡ number_in (y ∷ ys) column) x.column y.column _ _ _
    (λ lt. same_behind column x.column (pos 0) _ (number_in (y ∷ ys) column)
    (λ e. sym (nothing_before (x.column + 1) width (y ∷ ys) column (omega arith, k.1, k.2, k.3) (omega arith)))
    (λ _. second_is (x.column + 1) width xs (y ∷ ys) column h.3 (omega arith, k.1, k.2, k.3)))
    (λ lt. ap (λ z. cond (eqb y.column column) y.number z) (second_is (y.column + 1) width (x ∷ xs) ys column (omega arith, h.1, h.2, h.3) k.3))
    (λ e. ap (λ z. cond (eqb x.column column) y.number z) (second_is (x.column + 1) width xs ys column h.3 (subst (λ c. AreEntries (c + 1) width ys) (sym e) k.3))
    ∙ ap (λ c. cond (eqb c column) y.number (number_in ys column)) e)

-- ---- the combination
combined_nothing : (f : Factors) (n r : ℤ) → n ≡ pos 0 → r ≡ pos 0 → combined_number f n r ≡ pos 0
combined_nothing f n r p q = rw (p, q) (omega (arith, ints, *ℤ-zero f.own, *ℤ-zero f.pivot))

by_zero : {X : Type 0} (P : X → Type 0) (z : ℤ) (x y : X) → (z ≡ pos 0 → P x) → (z ≢ pos 0 → P y) → P (cond (eqb (unsigned_abs z) 0) x y)
by_zero P z x y p q = by_choice P (eqb (unsigned_abs z) 0) x y (λ t. p (zero_size z (eqb-true (unsigned_abs z) 0 t))) (λ t. q (λ e. eqb-false (unsigned_abs z) 0 t (ap unsigned_abs e)))

pub combined_rise : (f : Factors) (from width : ℕ) (pairs : List Pair) → ArePairs from width pairs → AreEntries from width (combined_entries f pairs)
combined_rise f from width [] h = tt
combined_rise f from width (p ∷ ps) h =
    by_zero (AreEntries from width) (combined_number f p.number p.pivot_number) _ _
    (λ _. are_from (p.column + 1) from width (combined_entries f ps) (omega (arith, h.0)) (combined_rise f (p.column + 1) width ps h.2))
    (λ ne. (h.0, h.1, ne, combined_rise f (p.column + 1) width ps h.2))

combined_more : (f : Factors) (from width : ℕ) (p : Pair) (ps : List Pair) (column : ℕ) → ArePairs from width (p ∷ ps) → number_in (combined_entries f ps) column ≡ combined_number f (first_in ps column) (second_in ps column) → number_in (combined_entries f (p ∷ ps)) column ≡ combined_number f (first_in (p ∷ ps) column) (second_in (p ∷ ps) column)
combined_more f from width p ps column h behind =
    by_zero (λ entries. number_in entries column ≡ combined_number f (first_in (p ∷ ps) column) (second_in (p ∷ ps) column)) (combined_number f p.number p.pivot_number) _ _
    (λ e. by_column _ (λ here. behind ∙ combined_nothing f (first_in ps column) (second_in ps column) (none_before (λ pair. pair.number) (p.column + 1) width ps column h.2 (omega arith)) (none_before (λ pair. pair.pivot_number) (p.column + 1) width ps column h.2 (omega arith)) ∙ sym e) (λ _. behind))
    (λ ne. same_behind column p.column (combined_number f p.number p.pivot_number) _ _ (λ here. by_column _ (λ _. refl) (λ apart. absurd (apart here))) (λ apart. by_column _ (λ here. absurd (apart here)) (λ _. behind)))
  where
    by_column : (z : ℤ) → (p.column ≡ column → z ≡ combined_number f p.number p.pivot_number) → (p.column ≢ column → z ≡ combined_number f (first_in ps column) (second_in ps column)) → z ≡ combined_number f (first_in (p ∷ ps) column) (second_in (p ∷ ps) column)
    by_column z s t =
        elim (cases_eq p.column column) [
          | inl e ↦ s e ∙ ap (λ x. combined_number f x p.pivot_number) (sym (if_same p.column column p.number (first_in ps column) e)) ∙ ap (combined_number f (first_in (p ∷ ps) column)) (sym (if_same p.column column p.pivot_number (second_in ps column) e))
          | inr ne ↦ t ne ∙ ap (λ x. combined_number f x (second_in ps column)) (sym (if_apart p.column column p.number (first_in ps column) ne)) ∙ ap (combined_number f (first_in (p ∷ ps) column)) (sym (if_apart p.column column p.pivot_number (second_in ps column) ne))
        ]

pub combined_is : (f : Factors) (from width : ℕ) (pairs : List Pair) (column : ℕ) → ArePairs from width pairs → number_in (combined_entries f pairs) column ≡ combined_number f (first_in pairs column) (second_in pairs column)
combined_is f from width [] column h = sym (combined_nothing f (pos 0) (pos 0) refl refl)
combined_is f from width (p ∷ ps) column h =
    combined_more f from width p ps column h (combined_is f (p.column + 1) width ps column h.2)

-- ---- the first outgrown place

-- in a column in which neither row has a number nothing is outgrown
no_growth_of_nothing : (f : Factors) (column : ℕ) (n r : ℤ) → n ≡ pos 0 → r ≡ pos 0 → place_growth f column n r ≡ None
unfolding place_growth
no_growth_of_nothing f column n r p q =
    rw (p, q) (nothing (f.own *ℤ pos 0) (f.pivot *ℤ pos 0) (combined_number f (pos 0) (pos 0)) (*ℤ-zero f.own) (*ℤ-zero f.pivot) (combined_nothing f (pos 0) (pos 0) refl refl))
  where
    nothing : (a b d : ℤ) → a ≡ pos 0 → b ≡ pos 0 → d ≡ pos 0 → ◌≡◌ {A = Option Growth} (or_else (outgrowth column f.own (pos 0) a) (or_else (outgrowth column f.pivot (pos 0) b) (outgrowth column a b d))) None
    nothing a b d x y z = rw (x, y, z) refl

first_more : (f : Factors) (width from column : ℕ) (number pivot_number : ℤ) (place : ℕ → Option Growth) (rest : Option Growth) → from ≤ column → column < width → first_below place from ≡ None → ((k : ℕ) → from ≤ k → k < column → place k ≡ None) → place column ≡ place_growth f column number pivot_number → (first_below place (column + 1) ≡ None → rest ≡ first_below place width) → or_else (place_growth f column number pivot_number) rest ≡ first_below place width
first_more f width from column number pivot_number place rest le lt none between here later = go (place_growth f column number pivot_number) refl
  where
    each : (k : ℕ) → k < column → place k ≡ None
    each k below = elim (cases_lt k from) [ inl before ↦ nothing_at place from k none before | inr ge ↦ between k ge below ]

    before_here : first_below place column ≡ None
    before_here = all_nothing place column each

    past : place column ≡ None → first_below place (column + 1) ≡ None
    past e = all_nothing place (column + 1) (λ k below. elim (cases_lt k column) [ inl less ↦ each k less | inr ge ↦ let same : k ≡ column = omega arith in subst (λ i. place i ≡ None) (sym same) e ])

    go : (o : Option Growth) → o ≡ place_growth f column number pivot_number → or_else o rest ≡ first_below place width
    go (Some growth) e = sym (first_found place column width growth before_here (here ∙ sym e) lt)
    go None e = later (past (here ∙ sym e))

pub first_growth_is : (f : Factors) (from width : ℕ) (pairs : List Pair) (place : ℕ → Option Growth) → from ≤ width → ArePairs from width pairs → first_below place from ≡ None → ((k : ℕ) → from ≤ k → place k ≡ place_growth f k (first_in pairs k) (second_in pairs k)) → first_growth f pairs ≡ first_below place width
first_growth_is f from width [] place le h none is =
    sym (all_nothing place width (λ k lt. elim (cases_lt k from) [ inl before ↦ nothing_at place from k none before | inr ge ↦ is k ge ∙ no_growth_of_nothing f k (pos 0) (pos 0) refl refl ]))
first_growth_is f from width (p ∷ ps) place le h none is =
    first_more f width from p.column p.number p.pivot_number place (first_growth f ps) h.0 h.1 none
    (λ k ge below. is k ge ∙ no_growth_of_nothing f k _ _ (none_before (λ pair. pair.number) p.column width (p ∷ ps) k (omega arith, h.1, h.2) below) (none_before (λ pair. pair.pivot_number) p.column width (p ∷ ps) k (omega arith, h.1, h.2) below))
    (is p.column h.0 ∙ ap (λ x. place_growth f p.column x (second_in (p ∷ ps) p.column)) (if_same p.column p.column p.number _ refl) ∙ ap (place_growth f p.column p.number) (if_same p.column p.column p.pivot_number _ refl))
    (λ past. first_growth_is f (p.column + 1) width ps place (omega (arith, h.1)) h.2 past
    (λ k ge. is k (omega (arith, h.0)) ∙ ap (λ x. place_growth f k x (second_in (p ∷ ps) k)) (if_apart p.column k p.number _ (apart k ge)) ∙ ap (place_growth f k (first_in ps k)) (if_apart p.column k p.pivot_number _ (apart k ge))))
  where
    apart : (k : ℕ) → p.column + 1 ≤ k → p.column ≢ k
    apart k ge = omega arith

-- where nothing is outgrown, all pairs fit
pub all_fit : (f : Factors) (pairs : List Pair) → first_growth f pairs ≡ None → AllFit f pairs
all_fit f [] e = tt
all_fit f (p ∷ ps) e =
    let parts = both_none (place_growth f p.column p.number p.pivot_number) (first_growth f ps) e in
    (place_fits f p.column p.number p.pivot_number parts.0, all_fit f ps parts.1)
  where
    both_none : (o q : Option Growth) → or_else o q ≡ None → (o ≡ None) × (q ≡ None)
    both_none None q e = (refl, e)
    both_none (Some g) q e = cc
