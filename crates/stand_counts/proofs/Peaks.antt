-- What has left by a minute less what has come by then is greatest when something leaves.
use Rattle.std.proofs.Common.{◌≡◌, ◌≢◌, ℕ, zero, suc, ◌-◌, ◌<◌, ◌≤◌, inl, inr, Bool, true, false, not, if◌then◌else◌, ◌==◌, ◌&&◌, nat_le, ◌∙◌, arith}
use Rattle.std.proofs.lemmas.Bool.Decides.{nat_tests}
use Rattle.sums.specs.Below.{sum_below, max_below}
use Rattle.sums.proofs.Sums.{sum_below-agree, sum_below-zero}
use Rattle.sums.proofs.Maxima.{max_below-upper, max_below-least}
use Rattle.sums.proofs.NumberTests.{if_below}
use Rattle.sums.proofs.Counts.{find_below}

-- what leaves by a minute: each place at its own minute, with its weight
abbrev pub leaving_until : (ℕ → ℕ) → (ℕ → ℕ) → ℕ → ℕ → ℕ
leaving_until when weight m k = if nat_le (when k) m then weight k else 0

-- what has left by a minute, less what has come
abbrev pub lead_at : (ℕ → ℕ) → (ℕ → ℕ) → (ℕ → ℕ) → ℕ → ℕ → ℕ
lead_at when weight came n m = sum_below (leaving_until when weight m) n - came m

-- that at a place's minute, where the test passes
abbrev pub lead_where : (ℕ → ℕ) → (ℕ → ℕ) → (ℕ → ℕ) → ℕ → (ℕ → Bool) → ℕ → ℕ
lead_where when weight came n test k = if test k then lead_at when weight came n (when k) else 0

-- What comes never falls, places leave within so many minutes, and the test passes where something leaves.
pub record AreMoves (when weight came : ℕ → ℕ) (n minutes : ℕ) (test : ℕ → Bool) : Type 0 where
  pub rises : (m : ℕ) → came m ≤ came (suc m)
  pub within : (k : ℕ) → k < n → when k < minutes
  pub passes : (k : ℕ) → k < n → weight k ≢ 0 → test k ≡ true

module _ (when weight came : ℕ → ℕ) (n minutes : ℕ) (test : ℕ → Bool) (moves : AreMoves when weight came n minutes test) where
  -- a place leaves in this minute, with some weight
  leaves_at : ℕ → ℕ → Bool
  leaves_at m k = (when k == m) && not (weight k == 0)

  -- where no place leaves, what has left stays as it was
  none_leaves : (m : ℕ) → ((k : ℕ) → k < n → leaves_at (suc m) k ≡ false) → sum_below (leaving_until when weight (suc m)) n ≡ sum_below (leaving_until when weight m) n
  unfolding leaves_at
  none_leaves m none = sum_below-agree (leaving_until when weight (suc m)) (leaving_until when weight m) n (record { each = λ k below. let stays = none k below in grind (arith, nat_tests) })

  none_left : ((k : ℕ) → k < n → leaves_at 0 k ≡ false) → sum_below (leaving_until when weight 0) n ≡ 0
  unfolding leaves_at
  none_left none = sum_below-agree (leaving_until when weight 0) (λ k. 0) n (record { each = λ k below. let stays = none k below in grind (arith, nat_tests) }) ∙ sum_below-zero n

  -- the lead at a minute in which a place leaves is offered
  offered : (m k : ℕ) → k < n → leaves_at m k ≡ true → lead_at when weight came n m ≤ max_below (lead_where when weight came n test) n
  unfolding leaves_at
  offered m k below leaves =
      let passed : test k ≡ true = moves.passes k below (grind (arith, nat_tests)) in
      let at : when k ≡ m = grind (arith, nat_tests) in
      let upper = max_below-upper (lead_where when weight came n test) n k below in
      let there : lead_at when weight came n (when k) ≤ max_below (lead_where when weight came n test) n = rw passed at upper in
      rw (← at) there

  no_more : (m : ℕ) → lead_at when weight came n m ≤ max_below (lead_where when weight came n test) n
  no_more zero = elim (find_below (leaves_at 0) n) [
    | inl found ↦ offered 0 found.0 found.1 found.2
    | inr none ↦ omega (arith, none_left none)
  ]
  no_more (suc m) = elim (find_below (leaves_at (suc m)) n) [
    | inl found ↦ offered (suc m) found.0 found.1 found.2
    | inr none ↦ omega (arith, none_leaves m none, moves.rises m, no_more m)
  ]

  pub greatest_lead : max_below (lead_at when weight came n) minutes ≡ max_below (lead_where when weight came n test) n
  greatest_lead =
      let no_greater = max_below-least (lead_at when weight came n) (max_below (lead_where when weight came n test) n) minutes (record { each = λ m within. no_more m }) in
      let no_less = max_below-least (lead_where when weight came n test) (max_below (lead_at when weight came n) minutes) n
      (record { each = λ k below. if_below (test k) _ _ (max_below-upper (lead_at when weight came n) minutes (when k) (moves.within k below)) }) in
      omega (arith, no_greater, no_less)
