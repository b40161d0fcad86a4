-- A row in lowest terms, by its numbers other than 0.
use Rattle.std.proofs.Common.{◌≡◌, ℕ, zero, suc, ◌+◌, ◌<◌, ◌≤◌, ◌≢◌, ℤ, pos, ◌*ℤ◌, List, [], ◌∷◌, map, length, get_or, unsigned_abs, int_div, Bool, true, false, cond, eqb, refl, sym, ◌∙◌, ap, subst, arith, inl, inr, add-one}
use Rattle.std.proofs.lemmas.Bool.{cases_lt}
use Rattle.std.proofs.lemmas.List.{ext_get_or, get_or_past, get_or-map, length-map}
use lib.IntN.{*ℤ-zero}
use Rattle.sums.specs.Divisors.{gcd, gcd_below}
use Rattle.sums.specs.Places.{list_below}
use Rattle.sums.proofs.Divisors.{gcd-zero, gcd_is, gcd_from}
use Rattle.sums.proofs.Places.{length-list_below, get_or-list_below}
use Rattle.sums.proofs.NumberTests.{if_apart, if_same}
use Rattle.frac_row.specs.Outgrown.{IsWithin}
use Rattle.frac_row.specs.Row.{number_of, width_of, IsRow, common_divisor, reduced}
use Rattle.frac_row.proofs.Rows.{number_times, number_of-reduced, reduced_by}
use Rattle.frac_row.specs.declared.entry.Entry.{Entry}
use Rattle.frac_row.specs.Content.{number_in, number_at, divided_entry, AreEntries, IsHeld, content_of}
use Rattle.frac_row.proofs.Contents.{no_entry, column_at, nothing_before, width_of-content, number_of-held, number_at-held, number_of-place, den-content, some_at_place}

-- ---- the common divisor
-- numbers that are 0 have no part in it
over_zeros : (d : ℕ) (f : ℕ → ℕ) (m n : ℕ) → m ≤ n → ((k : ℕ) → m ≤ k → k < n → f k ≡ 0) → gcd_below d f n ≡ gcd_below d f m
over_zeros d f m zero le none = let same : m ≡ 0 = omega arith in subst (λ k. gcd_below d f zero ≡ gcd_below d f k) (sym same) refl
over_zeros d f m (suc n) le none =
    elim (cases_lt m (suc n)) [
      | inl lt ↦ ap (gcd (gcd_below d f n)) (none n (omega arith) (omega arith)) ∙ gcd-zero (gcd_below d f n) ∙ over_zeros d f m n (omega arith) (λ k ge lt. none k ge (omega arith))
      | inr ge ↦ let same : m ≡ suc n = omega arith in subst (λ k. gcd_below d f (suc n) ≡ gcd_below d f k) (sym same) refl
    ]

-- the first of them taken first
first_taken : (d : ℕ) (f : ℕ → ℕ) (n : ℕ) → gcd_below d f (suc n) ≡ gcd_below (gcd d (f 0)) (λ k. f (suc k)) n
first_taken d f zero = refl
first_taken d f (suc n) = ap (λ g. gcd g (f (suc n))) (first_taken d f n)

divisor_from : (d from width : ℕ) (f : ℕ → ℕ) (entries : List Entry) → from ≤ width → AreEntries from width entries → ((k : ℕ) → from ≤ k → f k ≡ unsigned_abs (number_in entries k)) → gcd_below (gcd_below d f from) (λ k. unsigned_abs (number_at entries k)) (length entries) ≡ gcd_below d f width
divisor_from d from width f [] le h is = sym (over_zeros d f from width le (λ k ge lt. is k ge))
divisor_from d from width f (x ∷ xs) le h is =
    first_taken (gcd_below d f from) (λ k. unsigned_abs (number_at (x ∷ xs) k)) (length xs)
    ∙ ap (λ g. gcd_below g (λ k. unsigned_abs (number_at xs k)) (length xs)) here
    ∙ divisor_from d (x.column + 1) width f xs (omega (arith, h.1)) h.3 (λ k ge. is k (omega (arith, h.0)) ∙ ap unsigned_abs (if_apart x.column k x.number _ (apart k ge)))
  where
    apart : (k : ℕ) → x.column + 1 ≤ k → x.column ≢ k
    apart k ge = omega arith

    zeros : (k : ℕ) → from ≤ k → k < x.column → f k ≡ 0
    zeros k ge lt = is k ge ∙ ap unsigned_abs (nothing_before x.column width (x ∷ xs) k (omega arith, h.1, h.2, h.3) lt)

    here : gcd (gcd_below d f from) (unsigned_abs x.number) ≡ gcd_below d f (x.column + 1)
    here =
        ap (λ g. gcd g (unsigned_abs x.number)) (sym (over_zeros d f from x.column h.0 zeros))
        ∙ ap (gcd (gcd_below d f x.column)) (sym (is x.column h.0 ∙ ap unsigned_abs (if_same x.column x.column x.number _ refl)))
        ∙ ap (gcd_below d f) (sym (add-one x.column))

pub divisor_is : (entries : List Entry) (width : ℕ) (den : ℤ) → IsHeld entries width → gcd_below (unsigned_abs den) (λ k. unsigned_abs (number_at entries k)) (length entries) ≡ common_divisor (content_of entries width den)
unfolding common_divisor
divisor_is entries width den h =
    divisor_from (unsigned_abs den) 0 width (λ column. unsigned_abs (number_of (content_of entries width den) column)) entries (omega arith) h.rising (λ k ge. ap unsigned_abs (number_of-held entries width den k h))
    ∙ ap (gcd_below (unsigned_abs den) (λ column. unsigned_abs (number_of (content_of entries width den) column))) (sym (width_of-content entries width den))
    ∙ ap (λ d. gcd_below (unsigned_abs d) (λ column. unsigned_abs (number_of (content_of entries width den) column)) (width_of (content_of entries width den))) (sym (den-content entries width den))

pub within_places : (entries : List Entry) (width : ℕ) (den : ℤ) → IsHeld entries width → IsRow (content_of entries width den) → (k : ℕ) → IsWithin (number_at entries k)
within_places entries width den h row k =
    elim (cases_lt k (length entries)) [
      | inl lt ↦ subst IsWithin (sym (number_at-held entries width den k h lt)) (row.within (column_at entries k))
      | inr ge ↦ subst IsWithin (sym (ap (λ e. e.number) (get_or_past entries k no_entry ge))) (omega arith)
    ]

-- ---- the quotients
int_div-zero : (d : ℤ) → int_div (pos 0) d ≡ pos 0
int_div-zero d = grind arith

pub number_in-divided : (d : ℤ) (entries : List Entry) (column : ℕ) → number_in (map (divided_entry d) entries) column ≡ int_div (number_in entries column) d
number_in-divided d [] column = sym (int_div-zero d)
number_in-divided d (x ∷ xs) column =
    ap (cond (eqb x.column column) (int_div x.number d)) (number_in-divided d xs column) ∙ outside (eqb x.column column) x.number (number_in xs column)
  where
    outside : (b : Bool) (m n : ℤ) → cond b (int_div m d) (int_div n d) ≡ int_div (cond b m n) d
    outside true m n = refl
    outside false m n = refl

divided_rise : (d : ℤ) (from width : ℕ) (entries : List Entry) → AreEntries from width entries → ((k : ℕ) → k < length entries → int_div (number_at entries k) d ≢ pos 0) → AreEntries from width (map (divided_entry d) entries)
divided_rise d from width [] h some = tt
divided_rise d from width (x ∷ xs) h some = (h.0, h.1, some 0 (omega arith), divided_rise d (x.column + 1) width xs h.3 (λ k lt. some (suc k) (omega arith)))

-- a number over the common divisor isn't 0 where it isn't
quotient_some : (entries : List Entry) (width : ℕ) (den : ℤ) (k : ℕ) → IsHeld entries width → k < length entries → int_div (number_at entries k) (pos (common_divisor (content_of entries width den))) ≢ pos 0
quotient_some entries width den k h lt e =
    some_at_place 0 width entries k h.rising lt
    (number_at-held entries width den k h lt
    ∙ sym (number_times (content_of entries width den) (column_at entries k))
    ∙ ap (λ z. pos (common_divisor (content_of entries width den)) *ℤ z) nothing
    ∙ *ℤ-zero (pos (common_divisor (content_of entries width den))))
  where
    in_row : column_at entries k < width_of (content_of entries width den)
    in_row = rw width_of-content (number_of-place entries width k h lt)

    nothing : number_of (reduced (content_of entries width den)) (column_at entries k) ≡ pos 0
    nothing =
        number_of-reduced (content_of entries width den) (column_at entries k) in_row
        ∙ ap (λ n. int_div n (pos (common_divisor (content_of entries width den)))) (sym (number_at-held entries width den k h lt)) ∙ e

pub divided_is_held : (entries divided : List Entry) (width : ℕ) (den d : ℤ) → IsHeld entries width → d ≡ pos (common_divisor (content_of entries width den)) → divided ≡ map (divided_entry d) entries → IsHeld divided width
divided_is_held entries divided width den d h is same =
    subst (λ xs. IsHeld xs width) (sym same) (subst (λ g. IsHeld (map (divided_entry g) entries) width) (sym is) (record {
      few = h.few;
      rising = divided_rise (pos (common_divisor (content_of entries width den))) 0 width entries h.rising (λ k lt. quotient_some entries width den k h lt);
    }))

pub reduced_from : (entries divided : List Entry) (width : ℕ) (den over d : ℤ) → IsHeld entries width → d ≡ pos (common_divisor (content_of entries width den)) → divided ≡ map (divided_entry d) entries → over ≡ int_div den d → content_of divided width over ≡ reduced (content_of entries width den)
unfolding content_of
reduced_from entries divided width den over d h is same e =
    reduced_by (content_of entries width den) (list_below (number_in divided) width) over d d is refl numbers (e ∙ ap (λ n. int_div n d) (sym (den-content entries width den)))
  where
    numbers : list_below (number_in divided) width ≡ list_below (λ column. int_div (number_of (content_of entries width den) column) d) (width_of (content_of entries width den))
    numbers =
        ext_get_or (pos 0) _ _ (length-list_below _ width ∙ sym (length-list_below _ (width_of (content_of entries width den)) ∙ width_of-content entries width den))
        (λ k lt. at_column k (rw length-list_below at lt))
      where
        at_column : (k : ℕ) → k < width → get_or (list_below (number_in divided) width) k (pos 0) ≡ get_or (list_below (λ column. int_div (number_of (content_of entries width den) column) d) (width_of (content_of entries width den))) k (pos 0)
        at_column k lt =
            get_or-list_below (number_in divided) width k (pos 0) lt ∙ ap (λ xs. number_in xs k) same ∙ number_in-divided d entries k
            ∙ ap (λ n. int_div n d) (sym (number_of-held entries width den k h))
            ∙ sym (get_or-list_below _ (width_of (content_of entries width den)) k (pos 0) (rw width_of-content lt))

-- a loop that writes each quotient in its place
pub all_divided : (d : ℤ) (entries divided : List Entry) → divided ≡ list_below (λ k. divided_entry d (get_or entries k no_entry)) (length entries) → divided ≡ map (divided_entry d) entries
all_divided d entries divided e =
    e ∙ ext_get_or no_entry _ _ (length-list_below _ (length entries) ∙ sym (length-map entries (divided_entry d)))
    (λ k lt. at_place k (rw length-list_below at lt))
  where
    at_place : (k : ℕ) → k < length entries → get_or (list_below (λ k. divided_entry d (get_or entries k no_entry)) (length entries)) k no_entry ≡ get_or (map (divided_entry d) entries) k no_entry
    at_place k lt = get_or-list_below _ (length entries) k no_entry lt ∙ sym (get_or-map (divided_entry d) entries k no_entry no_entry lt)

pub gcd_turned : (a b : ℕ) → gcd a b ≡ gcd b a
gcd_turned a b = gcd_from b a (gcd a b) ((gcd_is a b).1, (gcd_is a b).0, λ d p q. (gcd_is a b).2 d q p)
