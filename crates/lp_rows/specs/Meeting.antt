-- Which columns a line may have numbers in.
use Rattle.std.specs.Prelude.{◌≡◌, ℕ, ⊤, Bool, ◌==◌, ◌&&◌, ◌||◌, List, length, slice_index_or}
use Rattle.fleet_model.specs.declared.tables.Tables.{Tables}
use Rattle.fleet_model.specs.Schedule.{IsPair, fleet_by, fleets_in, leg_of, legs_in, stations_in}
use Rattle.lp_rows.specs.declared.kinds.Column.{Column}
use Rattle.lp_rows.specs.declared.kinds.Column.TheVariants.{Flight, Ground, Room, Slack}
use Rattle.lp_rows.specs.declared.kinds.Line.{Line}
use Rattle.lp_rows.specs.declared.kinds.Line.TheVariants.{Balance, Count, Cover, Parking}
use Rattle.lp_rows.specs.declared.meeting.Met.{Met}
use Rattle.lp_rows.specs.declared.meeting.Touched.{Touched}
use Rattle.lp_rows.specs.Staying.{passing_below}

-- the pair of a column, where it has one, is of the tables
abbrev pub HasPair : Tables → Column → Type 0
HasPair t (Flight p) = IsPair t p
HasPair t (Ground a) = ⊤
HasPair t (Slack f) = ⊤
HasPair t (Room p) = ⊤

abbrev pub touching : ℕ → ℕ → ℕ → ℕ → Touched
touching leg fleet from to = record { leg = leg; fleet = fleet; from = from; to = to }

-- what a column touches
abbrev pub touched_by : Tables → Column → Touched
touched_by t (Flight p) = touching p.leg (fleet_by t p) (leg_of t p.leg).from (leg_of t p.leg).to
touched_by t (Ground a) = touching (legs_in t) a.fleet a.station a.station
touched_by t (Slack f) = touching (legs_in t) f (stations_in t) (stations_in t)
touched_by t (Room p) = touching (legs_in t) (fleets_in t) p.station p.station

-- a line may have a number in a column that touches its leg, its fleet, its station
abbrev pub line_meets : Line → Touched → Bool
line_meets (Cover l) x = l == x.leg
line_meets (Balance n) x = (n.fleet == x.fleet) && ((x.from == n.station) || (x.to == n.station))
line_meets (Count f) x = f == x.fleet
line_meets (Parking p) x = (p.station == x.from) || (p.station == x.to)

abbrev pub meets_at : List Touched → Line → ℕ → Bool
meets_at touched line column = line_meets line (slice_index_or touched column (touching 0 0 0 0))

-- the columns that a line line_meets
pub record IsMet (touched : List Touched) (met : Met) : Type 0 where
  pub all : met.columns ≡ passing_below (meets_at touched met.line) (length touched)
