-- A flight that takes longer is ready no sooner: its laps, less 1 where it is ready by a minute, don't fall.
use Rattle.std.proofs.Common.{◌≡◌, ℕ, suc, ◌+◌, ◌*◌, ◌<◌, ◌≤◌, inl, inr, arith}
use Rattle.std.proofs.Math.Nat.{mul-le-mul_left, mul-suc}
use Rattle.std.proofs.lemmas.Bool.{cases_lt}
use Rattle.std.proofs.lemmas.Bool.Decides.{nat_tests}
use Rattle.fleet_model.specs.declared.tables.Tables.{Tables}
use Rattle.fleet_model.specs.Schedule.{period_of}
use Rattle.fleet_model.specs.OwnTimes.{own_pair}
use Rattle.fleet_model.specs.Times.{busy_minutes, departure, laps_of, ready_minute}
use Rattle.fleet_model.proofs.OwnPairs.{own_departure}
use Rattle.fleet_model.proofs.PeriodMinutes.{in_period, lap_split}
use Rattle.fleet_model.proofs.Periods.{if_le, if_le-most}

-- of two numbers of periods and minutes
later_ready : (p m a r b s : ℕ) → r < p → s < p → p * a + r ≤ p * b + s → a + if_le s m ≤ b + if_le r m
later_ready p m a r b s low high order = elim (cases_lt a b) [
  | inl less ↦ omega (arith, less, if_le-most s m)
  | inr no_less ↦ elim (cases_lt b a) [
    | inl more ↦ let row : p * suc b ≤ p * a = mul-le-mul_left p more in absurd (omega (arith, row, mul-suc p b, order, high))
    | inr no_more ↦
        let same : a ≡ b = omega (arith, no_less, no_more) in
        let after : r ≤ s = let there : p * b + r ≤ p * b + s = rw same at order in omega (arith, there) in
        rw same (grind (arith, nat_tests))
  ]
]

-- .. the greater has no fewer periods
no_fewer_laps : (p a r b s : ℕ) → s < p → p * a + r ≤ p * b + s → a ≤ b
no_fewer_laps p a r b s high order = elim (cases_lt b a) [
  | inl more ↦ let row : p * suc b ≤ p * a = mul-le-mul_left p more in absurd (omega (arith, row, mul-suc p b, order, high))
  | inr no_more ↦ no_more
]

module _ (t : Tables) (l quick slow : ℕ) (order : busy_minutes t (own_pair t l quick) ≤ busy_minutes t (own_pair t l slow)) where
  pub slower_ready : (m : ℕ) → laps_of t (own_pair t l quick) + if_le (ready_minute t (own_pair t l slow)) m ≤ laps_of t (own_pair t l slow) + if_le (ready_minute t (own_pair t l quick)) m
  slower_ready m =
      let x = own_pair t l quick in
      let y = own_pair t l slow in
      later_ready (period_of t) m (laps_of t x) (ready_minute t x) (laps_of t y) (ready_minute t y)
      (in_period t (departure t x + busy_minutes t x)) (in_period t (departure t y + busy_minutes t y))
      (omega (arith, lap_split t x, lap_split t y, own_departure t l quick slow, order))

  pub slower_laps : laps_of t (own_pair t l quick) ≤ laps_of t (own_pair t l slow)
  slower_laps = no_fewer_laps (period_of t) (laps_of t (own_pair t l quick)) (ready_minute t (own_pair t l quick)) (laps_of t (own_pair t l slow)) (ready_minute t (own_pair t l slow))
      (in_period t (departure t (own_pair t l slow) + busy_minutes t (own_pair t l slow)))
      (omega (arith, lap_split t (own_pair t l quick), lap_split t (own_pair t l slow), own_departure t l quick slow, order))
