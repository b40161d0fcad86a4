-- The count of bases, one column more after another.
use Rattle.std.proofs.Common.{◌≡◌, ℕ, ◌+◌, ◌-◌, ◌*◌, ◌/◌, ◌%◌, ◌^◌, ◌<◌, ◌≤◌, Option, Some, None, MatchOption, max, min, refl, ◌∙◌, ap, inl, inr, arith}
use Rattle.std.proofs.lemmas.Bool.{cases_lt}
use Rattle.sums.specs.Ways.{ways_to_choose}
use Rattle.sums.proofs.Ways.{ways_step, ways_rise, ways_of_lesser}

-- one more, by the quotient and the rest
pub step_by : (others chosen count d o : ℕ) → d ≡ chosen → o ≡ others → count ≡ ways_to_choose (others + chosen) chosen
    → ways_to_choose (others + chosen + 1) (chosen + 1) ≡ count / (d + 1) * (o + (d + 1)) + count % (d + 1) * (o + (d + 1)) / (d + 1)
step_by others chosen count d o e f h = rw (e, f) (ways_step others chosen count h)

pub none_past : (r : Option ℕ) (P : Type 0) (Q : ℕ → Type 0) → r ≡ None → P → MatchOption r P Q
none_past None P Q e p = p
none_past (Some x) P Q e p = cc

-- what doesn't fit is past the greatest count
pub past_whole : (w whole part : ℕ) → w ≡ whole + part → (whole < 2 ^ 128 → ⊥) → 2 ^ 127 - 1 < w
past_whole w whole part e h = elim (cases_lt whole (2 ^ 128)) [
  | inl lt ↦ absurd (h lt)
  | inr ge ↦ omega arith
]

pub past_total : (w product whole part : ℕ) → w ≡ product + part → whole ≡ product → (whole + part < 2 ^ 128 → ⊥) → 2 ^ 127 - 1 < w
past_total w product whole part e f h = past_whole w (whole + part) 0 (omega arith) h

pub total_is : (w product whole part more : ℕ) → w ≡ product + part → whole ≡ product → more ≡ whole + part → more ≡ w
total_is w product whole part more e f h = omega arith

-- all of the lesser part are chosen at last, and nothing is past the limit before that is not past it then
pub all_chosen : (lines columns others chosen count : ℕ) → others ≡ max lines columns → chosen ≡ min lines columns → count ≡ ways_to_choose (others + chosen) chosen → count ≡ ways_to_choose (columns + lines) lines
all_chosen lines columns others chosen count e f h = h ∙ ap (λ m. ways_to_choose (m + chosen) chosen) e ∙ ap (λ k. ways_to_choose (max lines columns + k) k) f ∙ ways_of_lesser lines columns

pub past_at_last : (lines columns others chosen : ℕ) → others ≡ max lines columns → chosen < min lines columns → 2 ^ 127 - 1 < ways_to_choose (others + chosen + 1) (chosen + 1) → 2 ^ 127 - 1 < ways_to_choose (columns + lines) lines
past_at_last lines columns others chosen e lt h =
    let rise : ways_to_choose (max lines columns + (chosen + 1)) (chosen + 1) ≤ ways_to_choose (max lines columns + min lines columns) (min lines columns) = ways_rise (max lines columns) (chosen + 1) (min lines columns) (omega arith) in
    let same : ways_to_choose (others + chosen + 1) (chosen + 1) ≡ ways_to_choose (max lines columns + (chosen + 1)) (chosen + 1) = ap (λ n. ways_to_choose n (chosen + 1)) (together others (max lines columns) chosen e) in
    omega (arith, rise, same, ways_of_lesser lines columns, h)
  where
    together : (m n k : ℕ) → m ≡ n → m + k + 1 ≡ n + (k + 1)
    together m n k e = omega arith

pub none_chosen : (others : ℕ) → 1 ≡ ways_to_choose (others + 0) 0
unfolding ways_to_choose
none_chosen others = refl
