-- Tables in which each leg has the one time that an assignment chose, and the assignment of the same fleets on them.
use Rattle.std.specs.Prelude.{◌≡◌, ℕ, nat_lt, false, true, if◌then◌else◌, List, ◌∷◌, [], map, All, ◌+ℤ◌}
use Rattle.sums.specs.Places.{list_below}
use Rattle.fleet_model.specs.Counts.{pair_at}
use Rattle.fleet_model.specs.Limits.{IsCostUpTo}
use Rattle.fleet_model.specs.Schedule.{fleet_by, fleets_in, leg_of, legs_in, shift_by}
use Rattle.fleet_model.specs.Windows.{own_shift}
use Rattle.fleet_model.specs.declared.parts.Leg.{Leg}
use Rattle.fleet_model.specs.declared.parts.Pair.{Pair}
use Rattle.fleet_model.specs.declared.parts.PairCost.{PairCost}
use Rattle.fleet_model.specs.declared.shifts.Shift.{Shift}
use Rattle.fleet_model.specs.declared.tables.Tables.{Tables}

-- the time of a pair: that at which it is flown, and where it leaves its leg out the leg's own
abbrev pub time_of : Tables → Pair → Shift
time_of t p = if nat_lt (fleet_by t p) (fleets_in t) then shift_by t p else own_shift (leg_of t p.leg).dep

-- a leg that departs at one time
abbrev pub leg_once : Leg → ℕ → Leg
leg_once leg dep = record {
  flight = leg.flight;
  from = leg.from;
  dep = dep;
  to = leg.to;
  block = leg.block;
  shifts = own_shift dep ∷ [];
  skip = leg.skip;
}

abbrev pub settled_leg : Tables → List ℕ → ℕ → Leg
settled_leg t a l = leg_once (leg_of t l) (time_of t (pair_at a l)).dep

-- a cost, raised by what the time of its leg costs
abbrev pub settled_cost : Tables → List ℕ → PairCost → PairCost
settled_cost t a entry = record { leg = entry.leg; fleet = entry.fleet; cost = entry.cost +ℤ (time_of t (pair_at a entry.leg)).extra }

-- the same fleets, and the same legs left out
abbrev pub settled_plan : Tables → List ℕ → List ℕ
settled_plan t a = list_below (λ l. fleet_by t (pair_at a l)) (legs_in t)

-- the tables in which each leg departs at the time that the assignment chose
pub record AreSettled (t : Tables) (a : List ℕ) (u : Tables) : Type 0 where
  pub stations : u.stations ≡ t.stations
  pub fleets : u.fleets ≡ t.fleets
  pub legs : u.legs ≡ list_below (settled_leg t a) (legs_in t)
  pub costs : u.costs ≡ map (settled_cost t a) t.costs
  pub throughs : u.throughs ≡ t.throughs
  pub settings : u.settings ≡ t.settings
  pub windows : u.windows ≡ false
  pub optional : u.optional ≡ t.optional

-- .. and the assignment of the same fleets on them
pub record IsSettled (t : Tables) (a : List ℕ) (u : Tables) (b : List ℕ) : Type 0 where
  pub tables : AreSettled t a u
  pub plan : b ≡ settled_plan t a

-- where legs have windows, costs are such as a table names: what a time costs can be added to them
abbrev pub CanSettle : Tables → Type 0
CanSettle t = t.windows ≡ true → All (λ entry. IsCostUpTo 1 entry.cost) t.costs
