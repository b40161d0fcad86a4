-- Each round takes an idle minute of each station, so it is paid back.
use Rattle.std.proofs.Common.{◌≡◌, ℕ, zero, suc, ◌<◌, Bool, true, false, cond, ◌==◌, ◌&&◌, List, [], length, get_or, ℤ, pos, int_lt, refl, sym, ap, subst, inl, inr, arith}
use Rattle.std.specs.Int.{int_max}
use Rattle.std.proofs.lemmas.Bool.{cases_lt, eqb-true}
use Rattle.std.proofs.lemmas.Int.{clamps, ints}
use Rattle.std.proofs.lemmas.List.{get_or_past}
use Rattle.std.proofs.lemmas.List.Elements.{filter_passes}
use Rattle.sums.specs.Places.{list_below}
use Rattle.sums.proofs.Places.{get_or-list_below}
use Rattle.sums.proofs.Tests.{by_test, parts_true}
use Rattle.fleet_model.specs.Schedule.{period_of, stations_in}
use Rattle.fleet_model.specs.declared.tables.Tables.{Tables}
use Rattle.node_aggregate.specs.island_cut.IslandLaws.{IsIdle}
use Rattle.node_aggregate.specs.island_cut.Islands.{has_islands}
use Rattle.node_aggregate.proofs.island_cut.IslandProofs.{payback_law}
use Rattle.island_prices.specs.Least.{least_idle}
use Rattle.island_prices.specs.Payback.{PaysBack}
use Rattle.island_prices.specs.Rises.{rise_in}
use Rattle.island_prices.specs.Rounds.{greatest_below, greatest_rise, has_rise, moments_below, rise_moments, rise_where, round_minute, rounds_by, rounds_of}
use Rattle.island_prices.specs.declared.rises.Rise.{Rise}
use Rattle.island_prices.proofs.LeastMinutes.{least_is_idle}

-- the moment of each rise is an idle minute of its station
pub record AreAtIdles (t : Tables) (rises : List Rise) : Type 0 where
  pub each : (i : ℕ) → i < length rises → IsIdle t (rise_in rises i).station (rise_in rises i).moment

-- where the greatest is above 0, one is
pub record IsAbove (g : ℕ → ℤ) (n : ℕ) : Type 0 where
  pub at : ℕ
  pub within : at < n
  pub above : int_lt (pos 0) (g at) ≡ true

one_above : (g : ℕ → ℤ) (n : ℕ) → int_lt (pos 0) (greatest_below g n) ≡ true → IsAbove g n
one_above g zero e = absurd (clash e)
  where
    clash : int_lt (pos 0) (pos 0) ≡ true → ⊥
    clash e = grind (arith, ints)
one_above g (suc n) e = by_test (int_lt (pos 0) (g n))
    (λ here. record { at = n; within = omega arith; above = here })
    (λ not_here.
    let before = one_above g n (rest (greatest_below g n) (g n) e not_here) in
    record { at = before.at; within = omega (arith, before.within); above = before.above })
  where
    rest : (a b : ℤ) → int_lt (pos 0) (int_max a b) ≡ true → int_lt (pos 0) b ≡ false → int_lt (pos 0) a ≡ true
    rest a b e other = grind (arith, ints, clamps)

passing : (t : Tables) (rises : List Rise) (s j d : ℕ) → j < length (rise_moments t rises s) → has_rise rises s (get_or (rise_moments t rises s) j d) ≡ true
unfolding moments_below
passing t rises s j d below = filter_passes (has_rise rises s) (list_below (λ m. m) (period_of t)) j d below

module _ (t : Tables) (rises : List Rise) (at_idles : AreAtIdles t rises) where
  -- a moment to which a rise goes is idle
  idle_where : (s m : ℕ) → has_rise rises s m ≡ true → IsIdle t s m
  unfolding greatest_rise
  idle_where s m e =
      let one = one_above (rise_where rises s m) (length rises) e in
      let place = passes ((rise_in rises one.at).station == s && ((rise_in rises one.at).moment == m)) (rise_in rises one.at).amount one.above in
      let both = parts_true ((rise_in rises one.at).station == s) ((rise_in rises one.at).moment == m) place in
      subst (λ n. IsIdle t s n) (eqb-true (rise_in rises one.at).moment m both.1)
      (subst (λ r. IsIdle t r (rise_in rises one.at).moment) (eqb-true (rise_in rises one.at).station s both.0) (at_idles.each one.at one.within))
    where
      passes : (b : Bool) (z : ℤ) → int_lt (pos 0) (cond b z (pos 0)) ≡ true → b ≡ true
      passes true z e = refl
      passes false z e = absurd (clash e)
        where
          clash : int_lt (pos 0) (pos 0) ≡ true → ⊥
          clash e = grind (arith, ints)

  module _ (islands : has_islands t ≡ true) where
    idle_taken : (s j : ℕ) → s < stations_in t → IsIdle t s (round_minute (rounds_of t rises (least_idle t)) s j)
    unfolding rounds_by
    idle_taken s j within =
        let own = get_or-list_below (rise_moments t rises) (stations_in t) s [] within in
        let taken = ap (λ xs. get_or xs j (get_or (least_idle t) s 0)) own in
        subst (λ m. IsIdle t s m) (sym taken) (elim (cases_lt j (length (rise_moments t rises s))) [
          | inl below ↦ idle_where s (get_or (rise_moments t rises s) j (get_or (least_idle t) s 0)) (of_list s j (get_or (least_idle t) s 0) below)
          | inr past ↦ subst (λ m. IsIdle t s m) (sym (get_or_past (rise_moments t rises s) j (get_or (least_idle t) s 0) past)) (least_is_idle t islands s within)
        ])
      where
        of_list : (s j d : ℕ) → j < length (rise_moments t rises s) → has_rise rises s (get_or (rise_moments t rises s) j d) ≡ true
        of_list s j d below = passing t rises s j d below

    -- so each round is paid back
    pub rounds_pay : (j : ℕ) → PaysBack t (λ s. round_minute (rounds_of t rises (least_idle t)) s j)
    rounds_pay j = record {
      each = λ choices are. payback_law t (λ s. round_minute (rounds_of t rises (least_idle t)) s j) choices (record { islands = islands; each = λ s within. idle_taken s j within }) are;
    }
