-- A walk from minute to minute, going round.
use Rattle.std.proofs.Common.{◌≡◌, ℕ, suc, ◌+◌, ◌-◌, ◌%◌, ◌<◌, ◌≤◌, ◌⊎◌, inl, inr, true, nat_lt, nat_le, ◌∙◌, ap, arith}
use Rattle.std.proofs.lemmas.Bool.{cases_lt, le-leb, ltb-true}
use Rattle.std.proofs.lemmas.Bool.Decides.{nat_tests}
use Rattle.sums.proofs.Naturals.{sum_less_first}
use Rattle.lines_of_flying.specs.ground_turns.Turns.{minutes_round}
use Rattle.sums.proofs.Rounds.{mod_cases}
use Rattle.lines_of_flying.proofs.ground_turns.Rounds.{until_later, until_next}

-- one minute comes next after another
pub record IsNextMinute (w x y : ℕ) : Type 0 where
  pub within : y < w
  pub next : (suc x ≡ y) ⊎ ((suc x ≡ w) × (y ≡ 0))

-- the minute after so many steps
pub walked : (w r j : ℕ) → r < w → j < w → minutes_round w r ((r + j) % w) ≡ j
walked w r j ready steps = elim (mod_cases (r + j) w (omega arith)) [
  | inl same ↦ ap (λ x. minutes_round w r x) same.0 ∙ until_later w r (r + j) (omega arith) same.1 ∙ sum_less_first r j
  | inr round ↦ ap (λ x. minutes_round w r x) round.0 ∙ until_next w r (r + j - w) (omega (arith, steps, round.1, ready)) ready ∙ turned w r j round.1
]
  where
    turned : (w r j : ℕ) → w ≤ r + j → r + j - w + w - r ≡ j
    turned w r j h = omega arith

pub next_step : (w r j : ℕ) → r < w → suc j < w → IsNextMinute w ((r + j) % w) ((r + suc j) % w)
next_step w r j ready steps = by_cases (mod_cases (r + j) w (omega arith)) (mod_cases (r + suc j) w (omega arith))
  where
    by_cases : (((r + j) % w ≡ r + j) × (r + j < w)) ⊎ (((r + j) % w ≡ r + j - w) × (w ≤ r + j))
        → (((r + suc j) % w ≡ r + suc j) × (r + suc j < w)) ⊎ (((r + suc j) % w ≡ r + suc j - w) × (w ≤ r + suc j)) → IsNextMinute w ((r + j) % w) ((r + suc j) % w)
    by_cases (inl p) (inl q) = record { within = omega (arith, q.0, q.1); next = inl (omega (arith, p.0, q.0)) }
    by_cases (inl p) (inr q) = record { within = omega (arith, q.0, q.1, p.1); next = inr (omega (arith, p.0, p.1, q.1), omega (arith, q.0, p.1, q.1)) }
    by_cases (inr p) (inl q) = absurd (omega (arith, p.1, q.1))
    by_cases (inr p) (inr q) = record { within = omega (arith, q.0, q.1); next = inl (omega (arith, p.0, p.1, q.0)) }

pub walk_end : (w r d : ℕ) → r < w → d < w → (r + minutes_round w r d) % w ≡ d
walk_end w r d ready departs = elim (cases_lt d r) [
  | inl next ↦ ap (λ n. (r + n) % w) (until_next w r d next ready) ∙ by_past (mod_cases (r + (d + w - r)) w (omega arith)) next
  | inr later ↦ ap (λ n. (r + n) % w) (until_later w r d later departs) ∙ by_same (mod_cases (r + (d - r)) w (omega arith)) later
]
  where
    by_past : (((r + (d + w - r)) % w ≡ r + (d + w - r)) × (r + (d + w - r) < w)) ⊎ (((r + (d + w - r)) % w ≡ r + (d + w - r) - w) × (w ≤ r + (d + w - r))) → d < r → (r + (d + w - r)) % w ≡ d
    by_past (inl p) next = absurd (omega (arith, p.1, ready))
    by_past (inr p) next = omega (arith, p.0, ready)

    by_same : (((r + (d - r)) % w ≡ r + (d - r)) × (r + (d - r) < w)) ⊎ (((r + (d - r)) % w ≡ r + (d - r) - w) × (w ≤ r + (d - r))) → r ≤ d → (r + (d - r)) % w ≡ d
    by_same (inl p) later = omega (arith, p.0)
    by_same (inr p) later = absurd (omega (arith, p.1, departs))

-- a turn that waits at a moment touches its minute, and the next one
pub waits_touch : (a b : ℕ) → nat_lt a b ≡ true → nat_le a b ≡ true
waits_touch a b h = grind (arith, nat_tests)

pub touches_next : (w r x y wait : ℕ) → r < w → x < w → wait < w → IsNextMinute w x y → nat_lt (minutes_round w r x) wait ≡ true → nat_le (minutes_round w r y) wait ≡ true
touches_next w r x y wait ready minute few step waits = by_next step.next
  where
    rises : (suc x ≡ y) ⊎ ((suc x ≡ w) × (y ≡ 0)) → minutes_round w r y ≤ suc (minutes_round w r x)
    rises (inl same) = by_order (cases_lt x r) (cases_lt y r)
      where
        by_order : (x < r) ⊎ (r ≤ x) → (y < r) ⊎ (r ≤ y) → minutes_round w r y ≤ suc (minutes_round w r x)
        by_order (inl p) (inl q) = omega (arith, until_next w r x p ready, until_next w r y q ready, same)
        by_order (inl p) (inr q) = omega (arith, until_later w r y q step.within, same)
        by_order (inr p) (inl q) = absurd (omega arith)
        by_order (inr p) (inr q) = omega (arith, until_later w r x p minute, until_later w r y q step.within, same)
    rises (inr last) = by_start (cases_lt y r)
      where
        by_start : (y < r) ⊎ (r ≤ y) → minutes_round w r y ≤ suc (minutes_round w r x)
        by_start (inl q) = omega (arith, until_next w r y q ready, until_later w r x (omega (arith, last.0, ready)) minute, last.0, last.1)
        by_start (inr q) = omega (arith, until_later w r y q step.within, last.1)

    by_next : (suc x ≡ y) ⊎ ((suc x ≡ w) × (y ≡ 0)) → nat_le (minutes_round w r y) wait ≡ true
    by_next next = le-leb _ _ (omega (arith, rises next, ltb-true _ _ waits))

pub touches_ready : (w r n : ℕ) → r < w → nat_le (minutes_round w r r) n ≡ true
touches_ready w r n ready = ap (λ k. nat_le k n) (until_later w r r (omega arith) ready) ∙ from_0 r n
  where
    from_0 : (r n : ℕ) → nat_le (r - r) n ≡ true
    from_0 r n = grind (arith, nat_tests)

pub touches_last : (n : ℕ) → nat_le n n ≡ true
touches_last n = grind (arith, nat_tests)
