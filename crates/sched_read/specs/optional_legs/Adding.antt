-- Tables whose legs may be left out as a file says.
use Rattle.std.specs.Prelude.{◌≡◌, ◌==◌, ℕ, ℤ, true, if◌then◌else◌, List, [], ◌∷◌, Option, None, Some}
use Rattle.sums.specs.Places.{list_below}
use Rattle.csv_fields.specs.Record.{records_of}
use Rattle.fleet_model.specs.Schedule.{leg_of, legs_in}
use Rattle.fleet_model.specs.declared.parts.Leg.{Leg}
use Rattle.fleet_model.specs.declared.tables.Tables.{Tables}
use Rattle.sched_read.specs.optional_legs.Optional.{OptionalRead}
use Rattle.sched_read.specs.declared.optional_legs.optional.OptionalLeg.{OptionalLeg}

-- what it costs to leave a leg out by a list of optional legs, and none where it isn't among them
abbrev pub skip_in : List OptionalLeg → ℕ → Option ℤ
skip_in [] l = None
skip_in (first ∷ rest) l = if first.leg == l then Some first.skip else skip_in rest l

-- a leg that may be left out at this cost, or must be flown
abbrev pub skippable_leg : Leg → Option ℤ → Leg
skippable_leg leg skip = record {
  flight = leg.flight;
  from = leg.from;
  dep = leg.dep;
  to = leg.to;
  block = leg.block;
  shifts = leg.shifts;
  skip = skip;
}

abbrev pub leg_with_skip : Tables → List OptionalLeg → ℕ → Leg
leg_with_skip t optional l = skippable_leg (leg_of t l) (skip_in optional l)

-- tables as others are, but that these legs may be left out, and no other
pub record HaveOptional (t : Tables) (optional : List OptionalLeg) (u : Tables) : Type 0 where
  pub stations : u.stations ≡ t.stations
  pub fleets : u.fleets ≡ t.fleets
  pub legs : u.legs ≡ list_below (leg_with_skip t optional) (legs_in t)
  pub costs : u.costs ≡ t.costs
  pub throughs : u.throughs ≡ t.throughs
  pub settings : u.settings ≡ t.settings
  pub windows : u.windows ≡ t.windows
  pub asked : u.optional ≡ true

-- the bytes of a file read as optional legs, and the tables with them are these
pub record ReadsOptional (t : Tables) (bytes : List ℕ) (u : Tables) : Type 0 where
  pub optional : List OptionalLeg
  pub read : OptionalRead t (records_of bytes) optional
  pub have : HaveOptional t optional u
