-- Waits that touch one minute, going round: one of them touches the other's first minute.
use Rattle.std.proofs.Common.{◌≡◌, ℕ, ◌<◌, ◌≤◌, ◌⊎◌, inl, inr, true, ◌||◌, nat_le, arith}
use Rattle.std.proofs.lemmas.Bool.{cases_lt}
use Rattle.std.proofs.lemmas.Bool.Decides.{nat_tests}
use Rattle.lines_of_flying.specs.ground_turns.Turns.{minutes_round}
use Rattle.lines_of_flying.proofs.ground_turns.Rounds.{until_later, until_next}

-- of two minutes, the one after which a third comes sooner comes on the way from the other to the third
on_the_way : (w r s x : ℕ) → r < w → s < w → x < w → minutes_round w r x ≤ minutes_round w s x → minutes_round w s r ≤ minutes_round w s x
on_the_way w r s x first second third sooner = by_order (cases_lt x r) (cases_lt x s) (cases_lt r s)
  where
    by_order : (x < r) ⊎ (r ≤ x) → (x < s) ⊎ (s ≤ x) → (r < s) ⊎ (s ≤ r) → minutes_round w s r ≤ minutes_round w s x
    by_order (inl p) (inl q) (inl o) = omega (arith, until_next w r x p first, until_next w s x q second, until_next w s r o second, sooner)
    by_order (inl p) (inl q) (inr o) = omega (arith, until_next w r x p first, until_next w s x q second, until_later w s r o first, sooner)
    by_order (inl p) (inr q) (inl o) = omega (arith, until_next w r x p first, until_later w s x q third, until_next w s r o second, sooner)
    by_order (inl p) (inr q) (inr o) = omega (arith, until_next w r x p first, until_later w s x q third, until_later w s r o first, sooner)
    by_order (inr p) (inl q) (inl o) = omega (arith, until_later w r x p third, until_next w s x q second, until_next w s r o second, sooner)
    by_order (inr p) (inl q) (inr o) = omega (arith, until_later w r x p third, until_next w s x q second, until_later w s r o first, sooner)
    by_order (inr p) (inr q) (inl o) = omega (arith, until_later w r x p third, until_later w s x q third, until_next w s r o second, sooner)
    by_order (inr p) (inr q) (inr o) = omega (arith, until_later w r x p third, until_later w s x q third, until_later w s r o first, sooner)

-- two waits of m and n minutes that touch a minute
pub one_touches : (w r s x m n : ℕ) → r < w → s < w → x < w → nat_le (minutes_round w r x) m ≡ true → nat_le (minutes_round w s x) n ≡ true
    → (nat_le (minutes_round w r s) m || nat_le (minutes_round w s r) n) ≡ true
one_touches w r s x m n first second third touches touches' = elim (cases_lt (minutes_round w r x) (minutes_round w s x)) [
  | inl sooner ↦ right _ _ _ _ _ (on_the_way w r s x first second third (omega arith)) touches'
  | inr later ↦ left _ _ _ _ _ (on_the_way w s r x second first third later) touches
]
  where
    left : (p q u m n : ℕ) → p ≤ u → nat_le u m ≡ true → (nat_le p m || nat_le q n) ≡ true
    left p q u m n le e = grind (arith, nat_tests)

    right : (p q u m n : ℕ) → q ≤ u → nat_le u n ≡ true → (nat_le p m || nat_le q n) ≡ true
    right p q u m n le e = grind (arith, nat_tests)
