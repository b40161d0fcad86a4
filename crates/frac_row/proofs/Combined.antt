-- The combination of two rows and its first outgrown number, by the numbers other than 0.
use Rattle.std.proofs.Common.{◌≡◌, ℕ, ◌<◌, Bool, true, false, cond, ℤ, pos, ◌*ℤ◌, List, get_or, Option, Some, None, refl, sym, ◌∙◌, ap, subst, arith}
use Rattle.std.specs.Prelude.{is_some}
use Rattle.std.proofs.lemmas.List.{ext_get_or}
use Rattle.sums.specs.Places.{list_below, first_below, or_else}
use Rattle.sums.proofs.Places.{length-list_below, get_or-list_below}
use Rattle.sums.proofs.Tests.{unlike}
use Rattle.frac_row.specs.Outgrown.{is_outgrown}
use Rattle.frac_row.specs.Row.{number_of, width_of}
use Rattle.frac_row.specs.Combined.{combined_number, combination, place_growth, outgrowth, growth_by}
use Rattle.frac_row.specs.declared.row.FracRow.{FracRow}
use Rattle.frac_row.specs.declared.factors.Factors.{Factors}
use Rattle.frac_row.specs.declared.growth.Growth.{Growth}
use Rattle.frac_row.proofs.Combinations.{combination_from}
use Rattle.frac_row.specs.declared.entry.Entry.{Entry}
use Rattle.frac_row.specs.Content.{number_in, IsHeld, content_of}
use Rattle.frac_row.specs.Pairs.{pairs_of, combined_entries, first_growth, AllFit}
use Rattle.frac_row.proofs.Contents.{width_of-content, number_of-held, den-content}
use Rattle.frac_row.proofs.SideBySide.{first_in, second_in, pairs_rise, first_is, second_is, combined_rise, combined_is, first_growth_is, all_fit}

-- two rows of one width, held by their numbers other than 0
pub record AreHeld (xs ys : List Entry) (width : ℕ) : Type 0 where
  pub row : IsHeld xs width
  pub pivot_row : IsHeld ys width

pub combined_is_held : (f : Factors) (xs ys : List Entry) (width : ℕ) → AreHeld xs ys width → IsHeld (combined_entries f (pairs_of xs ys)) width
combined_is_held f xs ys width h = record {
  few = h.row.few;
  rising = combined_rise f 0 width (pairs_of xs ys) (pairs_rise 0 width xs ys h.row.rising h.pivot_row.rising);
}

pub combination_is : (f : Factors) (xs ys : List Entry) (width : ℕ) (d e over : ℤ) → AreHeld xs ys width → over ≡ f.own *ℤ d → content_of (combined_entries f (pairs_of xs ys)) width over ≡ combination f (content_of xs width d) (content_of ys width e)
unfolding content_of
combination_is f xs ys width d e over h same =
    combination_from f (content_of xs width d) (content_of ys width e) (list_below (number_in (combined_entries f (pairs_of xs ys))) width) over numbers same
  where
    at_column : (k : ℕ) → k < width → number_in (combined_entries f (pairs_of xs ys)) k ≡ combined_number f (number_of (content_of xs width d) k) (number_of (content_of ys width e) k)
    at_column k lt =
        combined_is f 0 width (pairs_of xs ys) k (pairs_rise 0 width xs ys h.row.rising h.pivot_row.rising)
        ∙ ap (λ n. combined_number f n (second_in (pairs_of xs ys) k)) (first_is 0 width xs ys k h.row.rising h.pivot_row.rising ∙ sym (number_of-held xs width d k h.row))
        ∙ ap (combined_number f (number_of (content_of xs width d) k)) (second_is 0 width xs ys k h.row.rising h.pivot_row.rising ∙ sym (number_of-held ys width e k h.pivot_row))

    numbers : list_below (number_in (combined_entries f (pairs_of xs ys))) width ≡ list_below (λ k. combined_number f (number_of (content_of xs width d) k) (number_of (content_of ys width e) k)) (width_of (content_of xs width d))
    numbers =
        ext_get_or (pos 0) _ _ (length-list_below _ width ∙ sym (length-list_below _ (width_of (content_of xs width d)) ∙ width_of-content xs width d))
        (λ k lt. both k (rw length-list_below at lt))
      where
        both : (k : ℕ) → k < width → get_or (list_below (number_in (combined_entries f (pairs_of xs ys))) width) k (pos 0) ≡ get_or (list_below (λ k. combined_number f (number_of (content_of xs width d) k) (number_of (content_of ys width e) k)) (width_of (content_of xs width d))) k (pos 0)
        both k lt =
            get_or-list_below _ width k (pos 0) lt ∙ at_column k lt ∙ sym (get_or-list_below _ (width_of (content_of xs width d)) k (pos 0) (rw width_of-content lt))

-- ---- the first outgrown number
pub growth_is : (f : Factors) (xs ys : List Entry) (width : ℕ) (d e : ℤ) → AreHeld xs ys width → or_else (first_growth f (pairs_of xs ys)) (outgrowth width f.own d (f.own *ℤ d)) ≡ growth_by f (content_of xs width d) (content_of ys width e)
unfolding growth_by
growth_is f xs ys width d e h =
    ap (λ o. or_else o (outgrowth width f.own d (f.own *ℤ d)))
    (first_growth_is f 0 width (pairs_of xs ys) place (omega arith) (pairs_rise 0 width xs ys h.row.rising h.pivot_row.rising) refl
    (λ k ge. ap (λ n. place_growth f k n (number_of (content_of ys width e) k)) (number_of-held xs width d k h.row ∙ sym (first_is 0 width xs ys k h.row.rising h.pivot_row.rising))
    ∙ ap (place_growth f k (first_in (pairs_of xs ys) k)) (number_of-held ys width e k h.pivot_row ∙ sym (second_is 0 width xs ys k h.row.rising h.pivot_row.rising))))
    ∙ ap (λ w. or_else (first_below place w) (outgrowth w f.own d (f.own *ℤ d))) (sym (width_of-content xs width d))
    ∙ ap (λ z. or_else (first_below place (width_of (content_of xs width d))) (outgrowth (width_of (content_of xs width d)) f.own z (f.own *ℤ z))) (sym (den-content xs width d))
  where
    place : ℕ → Option Growth
    place = λ k. place_growth f k (number_of (content_of xs width d) k) (number_of (content_of ys width e) k)

-- where nothing is outgrown, all fits
pub pairs_fit : (f : Factors) (xs ys : List Entry) (width : ℕ) (d e : ℤ) → AreHeld xs ys width → growth_by f (content_of xs width d) (content_of ys width e) ≡ None → AllFit f (pairs_of xs ys)
pairs_fit f xs ys width d e h none = all_fit f (pairs_of xs ys) (first_none (first_growth f (pairs_of xs ys)) _ (growth_is f xs ys width d e h ∙ none))
  where
    first_none : (o q : Option Growth) → or_else o q ≡ None → o ≡ None
    first_none None q t = refl
    first_none (Some g) q t = cc

-- the three answers of the search
pub growth_in_row : (o q : Option Growth) → is_some o ≡ true → o ≡ or_else o q
growth_in_row (Some g) q some = refl
growth_in_row None q some = unlike (sym some)

pub growth_behind : (o q : Option Growth) → is_some o ≡ false → q ≡ or_else o q
growth_behind None q none = refl
growth_behind (Some g) q none = unlike none

pub den_stays : (width : ℕ) (own d : ℤ) → is_outgrown (own *ℤ d) ≡ false → None ≡ outgrowth width own d (own *ℤ d)
den_stays width own d t = go (is_outgrown (own *ℤ d)) t
  where
    go : (b : Bool) → b ≡ false → ◌≡◌ {A = Option Growth} None (cond b (Some (record { column = width; left = own; right = d })) None)
    go false t = refl
    go true t = unlike t

pub den_grows : (width : ℕ) (own d x y : ℤ) → is_outgrown (own *ℤ d) ≡ true → x ≡ own → y ≡ d → ◌≡◌ {A = Option Growth} (Some (record { column = width; left = x; right = y })) (outgrowth width own d (own *ℤ d))
den_grows width own d x y t p q = rw (p, q) (go (is_outgrown (own *ℤ d)) t)
  where
    go : (b : Bool) → b ≡ true → ◌≡◌ {A = Option Growth} (Some (record { column = width; left = own; right = d })) (cond b (Some (record { column = width; left = own; right = d })) None)
    go true t = refl
    go false t = unlike (sym t)

-- ---- by the values of two rows
pub both_held : (xs ys : List Entry) (width w : ℕ) (d e : ℤ) (row pivot_row : FracRow) → IsHeld xs width → IsHeld ys w → content_of xs width d ≡ row → content_of ys w e ≡ pivot_row → width_of row ≡ width_of pivot_row → (AreHeld xs ys width) × (content_of ys width e ≡ pivot_row)
both_held xs ys width w d e row pivot_row h k p q same =
    let widths : w ≡ width = sym (width_of-content ys w e) ∙ ap width_of q ∙ sym same ∙ sym (ap width_of p) ∙ width_of-content xs width d in
    (record { row = h; pivot_row = subst (IsHeld ys) widths k }, subst (λ v. content_of ys v e ≡ pivot_row) widths q)

pub growth_as : (f : Factors) (xs ys slice pivot_slice : List Entry) (width w : ℕ) (d e : ℤ) (row pivot_row : FracRow) (o : Option Growth) → IsHeld xs width → IsHeld ys w → content_of xs width d ≡ row → content_of ys w e ≡ pivot_row → width_of row ≡ width_of pivot_row → slice ≡ xs → pivot_slice ≡ ys → o ≡ first_growth f (pairs_of slice pivot_slice) → or_else o (outgrowth width f.own d (f.own *ℤ d)) ≡ growth_by f row pivot_row
growth_as f xs ys slice pivot_slice width w d e row pivot_row o h k p q same s t is =
    let both : (AreHeld xs ys width) × (content_of ys width e ≡ pivot_row) = both_held xs ys width w d e row pivot_row h k p q same in
    ap (λ r. or_else r (outgrowth width f.own d (f.own *ℤ d))) (is ∙ ap (λ zs. first_growth f (pairs_of zs pivot_slice)) s ∙ ap (λ zs. first_growth f (pairs_of xs zs)) t)
    ∙ growth_is f xs ys width d e both.0 ∙ ap (λ r. growth_by f r (content_of ys width e)) p ∙ ap (growth_by f row) both.1
