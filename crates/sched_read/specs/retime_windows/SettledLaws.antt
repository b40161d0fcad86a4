-- What stays the same where an assignment is settled.
use Rattle.std.specs.Prelude.{◌≡◌, ◌↔◌, ℕ, ◌<◌, List}
use Rattle.fleet_model.specs.Counts.{arrived, departed, weights_of}
use Rattle.fleet_model.specs.Legal.{IsAssignment, IsLegal, total_cost}
use Rattle.fleet_model.specs.Schedule.{fleets_in}
use Rattle.fleet_model.specs.Use.{laps_flown, need_of, parked, stand_of, used_of}
use Rattle.fleet_model.specs.declared.tables.Tables.{Tables}
use Rattle.sched_read.specs.retime_windows.Settled.{IsSettled}

-- by the settled assignment as much departs and arrives, and as many aircraft are needed, stand and are used
pub record CountsAlike (t : Tables) (a : List ℕ) (u : Tables) (b : List ℕ) : Type 0 where
  pub departures : (f s m : ℕ) → f < fleets_in t → departed u (weights_of b) f s m ≡ departed t (weights_of a) f s m
  pub arrivals : (f s m : ℕ) → f < fleets_in t → arrived u (weights_of b) f s m ≡ arrived t (weights_of a) f s m
  pub laps : (f : ℕ) → f < fleets_in t → laps_flown u (weights_of b) f ≡ laps_flown t (weights_of a) f
  pub need : (f s : ℕ) → f < fleets_in t → need_of u (weights_of b) f s ≡ need_of t (weights_of a) f s
  pub stands : (f s m : ℕ) → f < fleets_in t → stand_of u (weights_of b) f s m ≡ stand_of t (weights_of a) f s m
  pub used : (f : ℕ) → f < fleets_in t → used_of u (weights_of b) f ≡ used_of t (weights_of a) f
  pub parking : (s d : ℕ) → parked u (weights_of b) s d ≡ parked t (weights_of a) s d

abbrev pub SettledCountsAlike : Type 0
SettledCountsAlike = (t u : Tables) (a b : List ℕ) → IsAssignment t a → IsSettled t a u b → CountsAlike t a u b

-- it is legal exactly where the assignment is
abbrev pub SettledIsLegal : Type 0
SettledIsLegal = (t u : Tables) (a b : List ℕ) → IsAssignment t a → IsSettled t a u b → (IsLegal u b ↔ IsLegal t a)

-- and costs as much
abbrev pub SettledCostsAlike : Type 0
SettledCostsAlike = (t u : Tables) (a b : List ℕ) → IsAssignment t a → IsSettled t a u b → total_cost u b ≡ total_cost t a

-- tables without windows are settled already
abbrev pub SettledOnce : Type 0
SettledOnce = (t u v : Tables) (a b c : List ℕ) → IsAssignment t a → IsSettled t a u b → IsSettled u b v c → (v ≡ u) × (c ≡ b)
