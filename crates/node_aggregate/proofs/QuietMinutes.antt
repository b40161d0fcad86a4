-- Minutes in which nothing happens to a fleet at a station: what has come and what has left stay as they were.
use Rattle.std.proofs.Common.{◌≡◌, ℕ, ◌+◌, ◌<◌, ◌≤◌, ◌==◌, ◌&&◌, nat_le, Bool, true, false, if◌then◌else◌, refl, sym, ◌∙◌, arith}
use Rattle.std.proofs.lemmas.Bool.Decides.{nat_tests}
use Rattle.std.proofs.lemmas.Bool.{or_parts}
use Rattle.sums.proofs.Sums.{sum_below-agree, sum_below-zero}
use Rattle.sums.proofs.Tests.{both_true, by_test, never_passes, no_both}
use Rattle.fleet_model.specs.declared.tables.Tables.{Tables}
use Rattle.fleet_model.specs.Counts.{Weights, arrived, coming, departed, has_come, has_left, leaving}
use Rattle.fleet_model.specs.Kept.{Domains}
use Rattle.fleet_model.specs.Schedule.{departures_in, fleets_in, leg_at, leg_of, pair_on}
use Rattle.fleet_model.specs.Times.{departure, ready_minute}
use Rattle.fleet_model.proofs.Choices.{on_departure}
use Rattle.node_aggregate.specs.Laws.{WeighKept}
use Rattle.node_aggregate.proofs.island_cut.Counted.{none_counted}
use Rattle.node_aggregate.specs.Waits.{happens_among, is_quiet, lies_between}

pub none_happens : (t : Tables) (keeps : Domains) (f s low high : ℕ) → is_quiet t keeps f s low high ≡ true → (d : ℕ) → d < departures_in t → keeps (pair_on t d f) ≡ true → happens_among t s low high (pair_on t d f) ≡ false
unfolding is_quiet
none_happens t keeps f s low high quiet d below kept =
    never_passes (happens_among t s low high (pair_on t d f))
    (λ happens. no_both (none_counted (λ k. keeps (pair_on t k f) && happens_among t s low high (pair_on t k f)) (departures_in t) d quiet below) (both_true _ _ kept happens))

-- a kept pair's departure and ready minute, where nothing happens
pub departs_elsewhere : (t : Tables) (keeps : Domains) (f s low high : ℕ) → is_quiet t keeps f s low high ≡ true → (d : ℕ) → d < departures_in t → keeps (pair_on t d f) ≡ true → (leg_of t (leg_at t d)).from ≡ s
    → lies_between low high (departure t (pair_on t d f)) ≡ false
departs_elsewhere t keeps f s low high quiet d below kept from = let none = none_happens t keeps f s low high quiet d below kept in grind (arith, nat_tests)

pub ready_elsewhere : (t : Tables) (keeps : Domains) (f s low high : ℕ) → is_quiet t keeps f s low high ≡ true → (d : ℕ) → d < departures_in t → keeps (pair_on t d f) ≡ true → (leg_of t (leg_at t d)).to ≡ s
    → lies_between low high (ready_minute t (pair_on t d f)) ≡ false
ready_elsewhere t keeps f s low high quiet d below kept to = let none = none_happens t keeps f s low high quiet d below kept in grind (arith, nat_tests)

-- what is counted by two minutes, where it happens in none between
same_by : (here : Bool) (minute low high weight : ℕ) → low ≤ high → (here && lies_between (low + 1) high minute) ≡ false → ◌≡◌ {A = ℕ} (if here && nat_le minute high then weight else 0) (if here && nat_le minute low then weight else 0)
same_by here minute low high weight order none = grind (arith, nat_tests)

-- and where it happens in none from the day start on
none_by : (here : Bool) (minute high weight : ℕ) → (here && lies_between 0 high minute) ≡ false → ◌≡◌ {A = ℕ} (if here && nat_le minute high then weight else 0) 0
none_by here minute high weight none = grind (arith, nat_tests)

no_weight : (b c : Bool) (w : ℕ) → w ≡ 0 → ◌≡◌ {A = ℕ} (if b then w else 0) (if c then w else 0)
no_weight true true w e = refl
no_weight true false w e = e
no_weight false true w e = sym e
no_weight false false w e = refl

no_weight_at_all : (b : Bool) (w : ℕ) → w ≡ 0 → ◌≡◌ {A = ℕ} (if b then w else 0) 0
no_weight_at_all true w e = e
no_weight_at_all false w e = refl

module _ (t : Tables) (keeps : Domains) (w : Weights) (f s : ℕ) (known : f < fleets_in t) (weigh : WeighKept t keeps w) where
  not_kept : (d : ℕ) → d < departures_in t → keeps (pair_on t d f) ≡ false → w (pair_on t d f) ≡ 0
  not_kept d below off = weigh.each (pair_on t d f) ((on_departure t d f below known).pair) off

  module _ (low high : ℕ) (order : low ≤ high) (quiet : is_quiet t keeps f s (low + 1) high ≡ true) where
    pub none_leave : departed t w f s high ≡ departed t w f s low
    unfolding departed
    none_leave = sum_below-agree (leaving t w f s high) (leaving t w f s low) (departures_in t) (record {
      each = λ d below. by_test (keeps (pair_on t d f))
          (λ kept. same_by ((leg_of t (leg_at t d)).from == s) (departure t (pair_on t d f)) low high (w (pair_on t d f)) order (or_parts _ _ (none_happens t keeps f s (low + 1) high quiet d below kept)).0)
          (λ off. no_weight (has_left t (pair_on t d f) s high) (has_left t (pair_on t d f) s low) (w (pair_on t d f)) (not_kept d below off));
    })

    pub none_come : arrived t w f s high ≡ arrived t w f s low
    unfolding arrived
    none_come = sum_below-agree (coming t w f s high) (coming t w f s low) (departures_in t) (record {
      each = λ d below. by_test (keeps (pair_on t d f))
          (λ kept. same_by ((leg_of t (leg_at t d)).to == s) (ready_minute t (pair_on t d f)) low high (w (pair_on t d f)) order (or_parts _ _ (none_happens t keeps f s (low + 1) high quiet d below kept)).1)
          (λ off. no_weight (has_come t (pair_on t d f) s high) (has_come t (pair_on t d f) s low) (w (pair_on t d f)) (not_kept d below off));
    })

  module _ (high : ℕ) (quiet : is_quiet t keeps f s 0 high ≡ true) where
    pub none_left_yet : departed t w f s high ≡ 0
    unfolding departed
    none_left_yet = sum_below-agree (leaving t w f s high) (λ d. 0) (departures_in t) (record {
      each = λ d below. by_test (keeps (pair_on t d f))
          (λ kept. none_by ((leg_of t (leg_at t d)).from == s) (departure t (pair_on t d f)) high (w (pair_on t d f)) (or_parts _ _ (none_happens t keeps f s 0 high quiet d below kept)).0)
          (λ off. no_weight_at_all (has_left t (pair_on t d f) s high) (w (pair_on t d f)) (not_kept d below off));
    }) ∙ sum_below-zero (departures_in t)

    pub none_come_yet : arrived t w f s high ≡ 0
    unfolding arrived
    none_come_yet = sum_below-agree (coming t w f s high) (λ d. 0) (departures_in t) (record {
      each = λ d below. by_test (keeps (pair_on t d f))
          (λ kept. none_by ((leg_of t (leg_at t d)).to == s) (ready_minute t (pair_on t d f)) high (w (pair_on t d f)) (or_parts _ _ (none_happens t keeps f s 0 high quiet d below kept)).1)
          (λ off. no_weight_at_all (has_come t (pair_on t d f) s high) (w (pair_on t d f)) (not_kept d below off));
    }) ∙ sum_below-zero (departures_in t)
