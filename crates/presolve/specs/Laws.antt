-- The laws of presolve, as statements.
use Rattle.std.specs.Prelude.{◌≡◌, ℕ, ◌<◌, ◌≤◌, List, length, map}
use Rattle.fleet_model.specs.Aloft.{aloft}
use Rattle.fleet_model.specs.Kept.{Domains, all_pairs}
use Rattle.fleet_model.specs.Schedule.{IsPair, period_of}
use Rattle.fleet_model.specs.declared.parts.Pair.{Pair}
use Rattle.fleet_model.specs.declared.tables.Tables.{Tables}
use Rattle.presolve.specs.Removals.{AreRemovals, first_place, removed_pair}
use Rattle.presolve.specs.Rules.{busy_at}
use Rattle.presolve.specs.declared.trims.Trim.{Trim}

-- the aircraft that a pair keeps busy at the end of a minute are its flights under way
abbrev pub BusyIsUnderWay : Type 0
BusyIsUnderWay = (t : Tables) (p : Pair) (m : ℕ) → IsPair t p → m < period_of t → busy_at t p m ≡ aloft t p m

-- from a place on, the same pairs are removed in the same order
abbrev pub RemovalsAreOne : Type 0
RemovalsAreOne = (t : Tables) (keeps : Domains) (place : Pair) (xs ys : List Trim) → AreRemovals t keeps place xs → AreRemovals t keeps place ys → map removed_pair xs ≡ map removed_pair ys

-- no more pairs are removed than tables may have by which legs are flown
abbrev pub RemovalsAreFew : Type 0
RemovalsAreFew = (t : Tables) (trims : List Trim) → AreRemovals t (all_pairs t) first_place trims → length trims ≤ 20000
