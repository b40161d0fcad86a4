-- What the search for the next removal finds.
use Rattle.std.specs.Prelude.{◌≡◌, ℕ, ◌<◌, ◌≤◌, IsTrue, false, Some, None}
use Rattle.fleet_model.specs.Kept.{Domains}
use Rattle.fleet_model.specs.Schedule.{IsPair, choices_in, leg_on}
use Rattle.fleet_model.specs.declared.parts.Pair.{Pair}
use Rattle.fleet_model.specs.declared.tables.Tables.{Tables}
use Rattle.presolve.specs.Removals.{NoneBare, before, is_sooner}
use Rattle.presolve.specs.Rules.{removed_by}
use Rattle.presolve.specs.declared.search.Removable.{Removable}

-- no pair of the leg from a choice on is removed
abbrev pub NoneOn : Tables → Domains → ℕ → ℕ → Type 0
NoneOn t keeps leg start = (c : ℕ) → start ≤ c → c < choices_in t leg → removed_by t keeps (leg_on leg c) ≡ None

-- the first pair of the leg from a choice on that is removed
pub record IsFirstOn (t : Tables) (keeps : Domains) (leg start : ℕ) (found : Removable) : Type 0 where
  pub on_leg : found.pair.leg ≡ leg
  pub from_start : start ≤ found.pair.choice
  pub known : found.pair.choice < choices_in t found.pair.leg
  pub by_rule : removed_by t keeps found.pair ≡ Some found.rule
  pub first : (c : ℕ) → start ≤ c → c < found.pair.choice → removed_by t keeps (leg_on leg c) ≡ None

-- no pair from a place on is removed
abbrev pub NoneFrom : Tables → Domains → Pair → Type 0
NoneFrom t keeps place = (p : Pair) → IsPair t p → before p place ≡ false → removed_by t keeps p ≡ None

-- the first pair from a place on that is removed
pub record IsFirstFrom (t : Tables) (keeps : Domains) (place : Pair) (found : Removable) : Type 0 where
  pub pair : IsPair t found.pair
  pub from_place : before found.pair place ≡ false
  pub by_rule : removed_by t keeps found.pair ≡ Some found.rule
  pub first : (p : Pair) → IsPair t p → before p place ≡ false → IsTrue (before p found.pair) → removed_by t keeps p ≡ None

-- the next pair that is removed, going on from a place
pub record IsNextPair (t : Tables) (keeps : Domains) (place : Pair) (found : Removable) : Type 0 where
  pub none_bare : NoneBare t keeps
  pub pair : IsPair t found.pair
  pub by_rule : removed_by t keeps found.pair ≡ Some found.rule
  pub first : (p : Pair) → IsPair t p → IsTrue (is_sooner place p found.pair) → removed_by t keeps p ≡ None
