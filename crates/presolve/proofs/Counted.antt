-- The numbers of legs' kept pairs, kept in a row.
use Rattle.std.proofs.Common.{◌≡◌, ◌≢◌, ℕ, ◌+◌, ◌-◌, ◌<◌, ◌≤◌, false, true, List, length, set, get_or-set_same, get_or-set_other, sym, ◌∙◌, subst, inl, inr, arith}
use Rattle.std.specs.Prelude.{slice_index}
use Rattle.std.proofs.lemmas.Bool.{cases_lt, cases_order}
use Rattle.fleet_model.specs.Kept.{Domains, kept_on}
use Rattle.fleet_model.specs.Schedule.{IsPair, legs_in}
use Rattle.fleet_model.specs.declared.parts.Pair.{Pair}
use Rattle.fleet_model.specs.declared.tables.Tables.{Tables}
use Rattle.dual_bound.specs.Bound.{part}
use Rattle.presolve.proofs.KeptParts.{other_leg_same, own_leg_fewer}

-- one place more
pub one_more : (counts : List ℕ) (f : ℕ → ℕ) (n value : ℕ) → n < length counts → ((k : ℕ) → k < n → slice_index counts k ≡ f k) → value ≡ f n
    → (k : ℕ) → k < n + 1 → slice_index (set counts n value) k ≡ f k
one_more counts f n value within before here k below = elim (cases_lt k n) [
  | inl earlier ↦ let other : k ≢ n = omega arith in get_or-set_other counts n k value 0 other ∙ before k earlier
  | inr later ↦ let last : k ≡ n = omega arith in subst (λ i. slice_index (set counts n value) i ≡ f i) (sym last) (get_or-set_same counts n value 0 within ∙ here)
]

-- the number of a leg that keeps a pair is above 0
pub some_there : (t : Tables) (keeps : Domains) (p : Pair) (count : ℕ) → IsPair t p → keeps p ≡ true → count ≡ kept_on t keeps p.leg → 1 ≤ count
some_there t keeps p count pair kept is = omega (arith, own_leg_fewer t keeps p pair kept, is)

-- without the pair it is one less, and all others are as they were
pub counted_without : (t : Tables) (keeps after : Domains) (p : Pair) (counts : List ℕ) → IsPair t p → keeps p ≡ true → after ≡ part keeps p.leg p.choice false → p.leg < length counts
    → ((l : ℕ) → l < legs_in t → slice_index counts l ≡ kept_on t keeps l)
    → (l : ℕ) → l < legs_in t → slice_index (set counts p.leg (slice_index counts p.leg - 1)) l ≡ kept_on t after l
counted_without t keeps after p counts pair kept is within counted l below =
    subst (λ k. slice_index (set counts p.leg (slice_index counts p.leg - 1)) l ≡ kept_on t k l) (sym is) (elim (cases_order l p.leg) [
      | inl same ↦ own same
      | inr other ↦ others (elim other [ inl before ↦ omega arith | inr after ↦ omega arith ])
    ])
  where
    own : l ≡ p.leg → slice_index (set counts p.leg (slice_index counts p.leg - 1)) l ≡ kept_on t (part keeps p.leg p.choice false) l
    own same =
        let here = get_or-set_same counts p.leg (slice_index counts p.leg - 1) 0 within in
        let fewer = own_leg_fewer t keeps p pair kept in
        subst (λ i. slice_index (set counts p.leg (slice_index counts p.leg - 1)) i ≡ kept_on t (part keeps p.leg p.choice false) i) (sym same)
        (here ∙ omega (arith, fewer, counted p.leg pair.leg))

    others : l ≢ p.leg → slice_index (set counts p.leg (slice_index counts p.leg - 1)) l ≡ kept_on t (part keeps p.leg p.choice false) l
    others other = get_or-set_other counts p.leg l (slice_index counts p.leg - 1) 0 other ∙ counted l below ∙ sym (other_leg_same t keeps p false l other)
