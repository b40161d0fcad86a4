-- The names of tables, by their numbers, and the pairs that they tell.
use Rattle.std.specs.Prelude.{ℕ, ◌&&◌, Bool, true, false, if◌then◌else◌, List, bytes_eq, codes, ℤ, pos, Option, Some, None, Result, Ok, Err, map}
use Rattle.fleet_model.specs.Schedule.{days_in, fleet_names, last_of, leg_on}
use Rattle.fleet_model.specs.declared.parts.Pair.{Pair}
use Rattle.fleet_model.specs.declared.tables.Tables.{Tables}
use Rattle.table_rows.specs.Names.{number_of_name}
use Rattle.proof_lines.specs.Choices.{choice_told}
use Rattle.proof_lines.specs.Figures.{signed_figure}
use Rattle.proof_lines.specs.Flaws.{both}
use Rattle.proof_lines.specs.declared.flaws.Flaw.{Flaw}
use Rattle.proof_lines.specs.declared.flaws.Flaw.TheVariants as flaw
use Rattle.proof_lines.specs.declared.grammar.Grammar.{Grammar}
use Rattle.proof_lines.specs.declared.line.Version.{Version}

-- the names of legs and stations, by their numbers
abbrev pub flights_of : Tables → List (List ℕ)
flights_of t = map (λ leg. leg.flight) t.legs

abbrev pub codes_of : Tables → List (List ℕ)
codes_of t = map (λ station. station.code) t.stations

-- what lines are read by, without what is known of it: the version of the text, the names of legs, fleets and stations,
-- the last minute of the period and how many days it has, whether legs may have other times than their own and may be left
-- out, and which choice of a leg is told by what flies it and its minutes
pub record Naming : Type 0 where
  pub version : Version
  pub legs : List (List ℕ)
  pub fleets : List (List ℕ)
  pub stations : List (List ℕ)
  pub last : ℕ
  pub days : ℕ
  pub windows : Bool
  pub optional : Bool
  pub choice : ℕ → Option ℕ → ℤ → Option ℕ

abbrev pub naming : Grammar → Naming
naming grammar = record { version = grammar.version; legs = grammar.legs; fleets = grammar.fleets; stations = grammar.stations; last = last_of grammar.tables.now; days = days_in grammar.tables.now; windows = grammar.tables.now.windows; optional = grammar.tables.now.optional; choice = choice_told grammar.tables.now }

-- what the lines of a text of this version are read by
abbrev pub names_in : Version → Tables → Naming
names_in version t = record { version = version; legs = flights_of t; fleets = fleet_names t; stations = codes_of t; last = last_of t; days = days_in t; windows = t.windows; optional = t.optional; choice = choice_told t }

-- the number of a name that is known
abbrev pub named : Option ℕ → Result ℕ Flaw
named (Some n) = Ok n
named None = Err flaw.Name

-- the number of a leg by its flight, of a fleet by its name, and of a station by its code
abbrev pub leg_in : Naming → List ℕ → Result ℕ Flaw
leg_in n flight = named (number_of_name flight n.legs)

abbrev pub fleet_in : Naming → List ℕ → Result ℕ Flaw
fleet_in n name = named (number_of_name name n.fleets)

abbrev pub station_in : Naming → List ℕ → Result ℕ Flaw
station_in n code = named (number_of_name code n.stations)

-- what flies a leg, told by a word: a fleet by its name, and none by `-` where legs may be left out
abbrev pub a_fleet : Result ℕ Flaw → Result (Option ℕ) Flaw
a_fleet (Ok fleet) = Ok (Some fleet)
a_fleet (Err flaw) = Err flaw

abbrev pub flier_in : Naming → List ℕ → Result (Option ℕ) Flaw
flier_in n name = if n.optional && bytes_eq name (codes "-") then Ok None else a_fleet (fleet_in n name)

-- by how many minutes a leg departs later than at its own time, told by a word where the tables have windows
abbrev pub minutes_in : Bool → List ℕ → Result ℤ Flaw
minutes_in true shift = signed_figure shift
minutes_in false shift = Ok (pos 0)

-- the pair of a leg, what flies it, and its minutes
abbrev pub paired : ℕ → Result ℕ Flaw → Result Pair Flaw
paired leg (Ok choice) = Ok (leg_on leg choice)
paired leg (Err flaw) = Err flaw

abbrev pub pair_of : Naming → Result ((ℕ × Option ℕ) × ℤ) Flaw → Result Pair Flaw
pair_of n (Ok told) = paired told.0.0 (named (n.choice told.0.0 told.0.1 told.1))
pair_of n (Err flaw) = Err flaw

-- the pair that is told by words: the leg's flight, the fleet's name or `-`, and where the tables have windows the shift
abbrev pub pair_in : Naming → List ℕ → List ℕ → List ℕ → Result Pair Flaw
pair_in n flight name shift = pair_of n (both (both (leg_in n flight) (flier_in n name)) (minutes_in n.windows shift))
