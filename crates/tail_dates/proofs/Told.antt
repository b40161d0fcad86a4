-- Places of tails, where they are told or not.
use Rattle.std.proofs.Common.{◌≡◌, ℕ, zero, suc, ◌+◌, ◌<◌, ◌≤◌, ◌==◌, Bool, true, false, if◌then◌else◌, List, [], ◌∷◌, ◌++◌, filter, length, map, slice_index, slice_index_or, take, Option, Some, None, refl, sym, ◌∙◌, ap, arith}
use Rattle.std.proofs.lemmas.Bool.{eq-eqb, ne_eqb}
use Rattle.std.proofs.lemmas.List.{append-nil, length-map, map-append}
use Rattle.std.proofs.lemmas.List.Elements.{filter_more}
use Rattle.fleet_model.specs.declared.tables.Tables.{Tables}
use Rattle.tail_dates.specs.Places.{place_number, told_numbers}
use Rattle.tail_dates.specs.Placing.{ats_of, lefts_of}
use Rattle.tail_dates.specs.declared.tails.Place.{Place}
use Rattle.tail_dates.specs.declared.tails.TailState.{TailState}

pub told_few : (t : Tables) (ats : List (Option Place)) → length (told_numbers t ats) ≤ length ats
told_few t [] = omega arith
told_few t (None ∷ ats) = omega (arith, told_few t ats)
told_few t (Some p ∷ ats) = omega (arith, told_few t ats)

-- where all are told each has its number
pub all_told : (t : Tables) (ats : List (Option Place)) → length (told_numbers t ats) ≡ length ats → (k : ℕ) → k < length ats
    → (p : Place) × (slice_index_or ats k None ≡ Some p) × (slice_index (told_numbers t ats) k ≡ place_number t p)
all_told t [] all k below = absurd (omega (arith, below))
all_told t (None ∷ ats) all k below = absurd (omega (arith, all, told_few t ats))
all_told t (Some p ∷ ats) all zero below = (p, refl, refl)
all_told t (Some p ∷ ats) all (suc k) below = all_told t ats (omega (arith, all)) k (omega (arith, below))

-- where none is told there is none
pub none_told : (t : Tables) (ats : List (Option Place)) → told_numbers t ats ≡ [] → (k : ℕ) → k < length ats → slice_index_or ats k None ≡ None
none_told t [] none k below = refl
none_told t (None ∷ ats) none zero below = refl
none_told t (None ∷ ats) none (suc k) below = none_told t ats none k (omega (arith, below))
none_told t (Some p ∷ ats) none k below = absurd (omega (arith, ap length none))

pub told_append : (t : Tables) (xs ys : List (Option Place)) → told_numbers t (xs ++ ys) ≡ told_numbers t xs ++ told_numbers t ys
told_append t [] ys = refl
told_append t (None ∷ xs) ys = told_append t xs ys
told_append t (Some p ∷ xs) ys = ap (λ numbers. place_number t p ∷ numbers) (told_append t xs ys)

-- each tail has nights left, and a place that is told or not
pub one_each_of : (f : ℕ) (tails : List TailState) → length (ats_of f tails) ≡ length (lefts_of f tails)
one_each_of f tails =
    let those = filter (λ (tail : TailState). tail.fleet == f) tails in
    length-map those (λ (tail : TailState). tail.at) ∙ sym (length-map those (λ (tail : TailState). tail.left))

-- ---- one tail more of a list, from which those of a fleet are taken
module _ (t : Tables) (f : ℕ) (tails : List TailState) (k : ℕ) (tail : TailState) (told : List ℕ) (within : k < length tails) (is_next : tail ≡ slice_index_or tails k tail) where
  ats_next : (passes : Bool) → (tail.fleet == f) ≡ passes → ats_of f (take (k + 1) tails) ≡ ats_of f (take k tails) ++ (if passes then tail.at ∷ [] else [])
  ats_next passes is =
      let of_fleet : TailState → Bool = λ one. one.fleet == f in
      let at : TailState → Option Place = λ one. one.at in
      ap (map at)
      (filter_more of_fleet tails k tail within
      ∙ ap (λ one. filter of_fleet (take k tails) ++ (if of_fleet one then one ∷ [] else [])) (sym is_next)
      ∙ ap (λ b. filter of_fleet (take k tails) ++ (if b then tail ∷ [] else [])) is)
      ∙ map-append at (filter of_fleet (take k tails)) (if passes then tail ∷ [] else [])
      ∙ ap (λ list. ats_of f (take k tails) ++ list) (either passes)
    where
      either : (b : Bool) → map (λ (one : TailState). one.at) (if b then tail ∷ [] else []) ≡ (if b then tail.at ∷ [] else [])
      either true = refl
      either false = refl

  pub one_more : (new : List ℕ) → tail.fleet ≡ f → told ≡ told_numbers t (ats_of f (take k tails)) → new ≡ told ++ told_numbers t (tail.at ∷ []) → new ≡ told_numbers t (ats_of f (take (k + 1) tails))
  one_more new is before pushed =
      pushed ∙ ap (λ list. list ++ told_numbers t (tail.at ∷ [])) before ∙ sym (told_append t (ats_of f (take k tails)) (tail.at ∷ []))
      ∙ ap (told_numbers t) (sym (ats_next true (eq-eqb tail.fleet f is)))

  pub none_more : (tail.fleet ≡ f → ⊥) → told ≡ told_numbers t (ats_of f (take k tails)) → told ≡ told_numbers t (ats_of f (take (k + 1) tails))
  none_more isnt before =
      before ∙ ap (told_numbers t) (sym (append-nil (ats_of f (take k tails))) ∙ sym (ats_next false (ne_eqb tail.fleet f isnt)))
