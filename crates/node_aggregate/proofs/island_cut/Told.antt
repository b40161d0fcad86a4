-- What counts of the joined schedule tell, whichever quickest fleets are taken, and the empty minutes of a plan.
use Rattle.std.proofs.Common.{◌≡◌, ℕ, ◌<◌, ◌==◌, ◌&&◌, Bool, true, false, if◌then◌else◌, List, filter, refl, sym, ◌∙◌, ap}
use mathlib.Core.Path.{fun_ext}
use mir.Val.{bool_byte}
use Rattle.sums.specs.Below.{count_below}
use Rattle.sums.specs.Places.{list_below}
use Rattle.fleet_model.specs.declared.tables.Tables.{Tables}
use Rattle.fleet_model.specs.Counts.{weights_of}
use Rattle.fleet_model.specs.Legal.{IsAssignment}
use Rattle.fleet_model.specs.Schedule.{fleets_in, last_of, period_of, stations_in}
use Rattle.stand_counts.specs.Flights.{planned, stand_by, used_by}
use Rattle.stand_counts.proofs.PlanCounts.{stand_of_plan}
use Rattle.node_aggregate.specs.island_cut.Islands.{balance_by, has_islands, have_pairs, idle_minutes, is_idle, is_uneven, joined_legs, quickest_of}
use Rattle.node_aggregate.specs.island_cut.PlainDay.{is_plain_day}
use Rattle.node_aggregate.specs.island_cut.Spare.{AreQuickest, aircraft_in, joined_flights}
use Rattle.node_aggregate.specs.island_cut.Zeros.{empty_of, none_left, none_stands, zeros_below, zeros_of}
use Rattle.node_aggregate.proofs.island_cut.IslandProofs.{quickest_there}
use Rattle.node_aggregate.proofs.island_cut.QuickestFleets.{pairs_tested, quickest_are}
use Rattle.node_aggregate.proofs.island_cut.SameUse.{same_arrived, same_departed, same_need, same_use}

-- of the first minutes those that pass one test pass another that says the same
same_passing : (p q : ℕ → Bool) (n : ℕ) → ((m : ℕ) → p m ≡ q m) → filter p (list_below (λ m. m) n) ≡ filter q (list_below (λ m. m) n)
same_passing p q n same = ap (λ (r : ℕ → Bool). filter r (list_below (λ m. m) n)) (fun_ext same)

-- those that are empty by a fleet's flights of a plan
pub plan_told : (t : Tables) (a : List ℕ) (f : ℕ) → IsAssignment t a → f < fleets_in t → (s : ℕ) → empty_of t (planned t a f) s ≡ zeros_of t (weights_of a) f s
unfolding zeros_below
plan_told t a f plan known s = same_passing (none_left t (planned t a f) s) (none_stands t (weights_of a) f s) (period_of t) (λ m. ap (λ n. n == 0) (stand_of_plan t a f plan known s m))

module _ (t : Tables) (fleets : ℕ → ℕ) (quick : AreQuickest t fleets) where
  same_stand : AreQuickest t (quickest_of t) → (s m : ℕ) → stand_by t (joined_flights t fleets) s m ≡ stand_by t (joined_legs t) s m
  unfolding stand_by
  same_stand others s m =
      rw (same_need t fleets (quickest_of t) quick others s, same_arrived t fleets (quickest_of t) quick others s m, same_departed t fleets (quickest_of t) quick others s m) refl

  same_uneven : AreQuickest t (quickest_of t) → (s : ℕ) → is_uneven t (joined_flights t fleets) s ≡ is_uneven t (joined_legs t) s
  same_uneven others s = rw (same_arrived t fleets (quickest_of t) quick others s (last_of t), same_departed t fleets (quickest_of t) quick others s (last_of t)) refl

  pub minutes_told : has_islands t ≡ true → (s : ℕ) → empty_of t (joined_flights t fleets) s ≡ idle_minutes t s
  unfolding is_idle
  minutes_told islands s =
      same_passing (none_left t (joined_flights t fleets) s) (is_idle t s) (period_of t)
      (λ m. ap (λ n. n == 0) (same_stand (quickest_there t islands) s m) ∙ ap (λ b. b && none_left t (joined_legs t) s m) (sym islands))

  pub islands_told : is_plain_day t ≡ true → have_pairs t ≡ true → (balance_by t (joined_flights t fleets) && (used_by t (joined_flights t fleets) == aircraft_in t)) ≡ has_islands t
  unfolding has_islands
  islands_told day pairs =
      let others = quickest_are t (pairs_tested t pairs) in
      let balance : balance_by t (joined_flights t fleets) ≡ balance_by t (joined_legs t) = ap (λ (p : ℕ → Bool). count_below p (stations_in t) == 0) (fun_ext (same_uneven others)) in
      rw (day, pairs, balance, same_use t fleets (quickest_of t) quick others) refl

-- a test as a number
pub byte_is : (b : Bool) → ◌≡◌ {A = ℕ} (bool_byte b) (if b then 1 else 0)
byte_is true = refl
byte_is false = refl
