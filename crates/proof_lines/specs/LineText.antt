-- The text of a line: its words.
use Rattle.std.specs.Prelude.{ℕ, ◌<◌, ◌≤◌, ◌^◌, ⊤, nat_lt, Bool, true, false, if◌then◌else◌, List, [], ◌∷◌, ◌++◌, codes, ℤ, pos}
use Rattle.std.specs.Fmt.{decimal, signed_decimal}
use Rattle.fleet_model.specs.Schedule.{IsPair, days_in, fleet_by, fleet_of, fleets_in, last_of, leg_of, leg_on, legs_in, shift_by, station_of, stations_in}
use Rattle.fleet_model.specs.declared.tables.Tables.{Tables}
use Rattle.dual_bound.specs.WrittenOrder.{IsFigure}
use Rattle.proof_lines.specs.Figures.{version_word}
use Rattle.proof_lines.specs.Forms.{form_of, keywords}
use Rattle.proof_lines.specs.Words.{Word, joined, line_feed}
use Rattle.proof_lines.specs.declared.line.Line.{Line}
use Rattle.proof_lines.specs.declared.line.Line.TheVariants as line

-- the word of a leg, of a fleet, and of a station
abbrev pub leg_word : Tables → ℕ → Word
leg_word t leg = (leg_of t leg).flight

abbrev pub fleet_word : Tables → ℕ → Word
fleet_word t fleet = (fleet_of t fleet).name

abbrev pub station_word : Tables → ℕ → Word
station_word t station = (station_of t station).code

-- a fleet flies the leg by this choice
abbrev pub is_flown : Tables → ℕ → ℕ → Bool
is_flown t leg choice = nat_lt (fleet_by t (leg_on leg choice)) (fleets_in t)

-- the word of what flies a leg by a choice: its fleet's, and `-` where the leg is left out
abbrev pub flier_word : Tables → ℕ → ℕ → Word
flier_word t leg choice = if is_flown t leg choice then fleet_word t (fleet_by t (leg_on leg choice)) else codes "-"

-- by how many minutes the leg departs later than at its own time, and 0 where it is left out
abbrev pub minutes_by : Tables → ℕ → ℕ → ℤ
minutes_by t leg choice = if is_flown t leg choice then (shift_by t (leg_on leg choice)).minutes else pos 0

-- the word of these minutes, where the tables have windows
abbrev pub shift_words : Bool → Word → List Word
shift_words true shift = shift ∷ []
shift_words false shift = []

-- the words of a pair
abbrev pub pair_words : Tables → ℕ → ℕ → List Word
pair_words t leg choice = leg_word t leg ∷ flier_word t leg choice ∷ shift_words t.windows (signed_decimal (minutes_by t leg choice))

-- the words behind those with which a line begins: what it names, and then its figures
abbrev pub names_of : Tables → Line → List Word
names_of t (line.Bare leg) = leg_word t leg ∷ []
names_of t (line.Trim leg choice) = pair_words t leg choice
names_of t (line.Split leg choice) = pair_words t leg choice
names_of t (line.Rent fleet rent) = fleet_word t fleet ∷ []
names_of t (line.Charge station day charge) = station_word t station ∷ []
names_of t (line.At fleet station minute value) = fleet_word t fleet ∷ station_word t station ∷ []
names_of t (line.Weight leg choice weight) = pair_words t leg choice
names_of t other = []

abbrev pub figures_of : Line → List Word
figures_of (line.Head version) = version_word version ∷ []
figures_of (line.OpenPivots made) = decimal made ∷ []
figures_of (line.OpenGrew pivots row column) = decimal pivots ∷ decimal row ∷ decimal column ∷ []
figures_of (line.OpenLift step at) = decimal step ∷ decimal at ∷ []
figures_of (line.Scale scale) = signed_decimal scale ∷ []
figures_of (line.Rent fleet rent) = signed_decimal rent ∷ []
figures_of (line.Charge station day charge) = decimal day ∷ signed_decimal charge ∷ []
figures_of (line.At fleet station minute value) = decimal minute ∷ signed_decimal value ∷ []
figures_of (line.Mixed scale) = signed_decimal scale ∷ []
figures_of (line.Weight leg choice weight) = signed_decimal weight ∷ []
figures_of other = []

abbrev pub fields_of : Tables → Line → List Word
fields_of t line = names_of t line ++ figures_of line

-- the words of a line
abbrev pub line_words : Tables → Line → List Word
line_words t line = keywords (form_of line) ++ fields_of t line

-- the bytes of a line, without its line feed and with it
abbrev pub line_bytes : Tables → Line → List ℕ
line_bytes t line = joined (line_words t line)

abbrev pub text_of : Tables → Line → List ℕ
text_of t line = line_bytes t line ++ line_feed ∷ []

-- all that a line names is of the tables
abbrev pub IsNamed : Tables → Line → Type 0
IsNamed t (line.Bare leg) = leg < legs_in t
IsNamed t (line.Trim leg choice) = IsPair t (leg_on leg choice)
IsNamed t (line.Split leg choice) = IsPair t (leg_on leg choice)
IsNamed t (line.Rent fleet rent) = fleet < fleets_in t
IsNamed t (line.Charge station day charge) = station < stations_in t
IsNamed t (line.At fleet station minute value) = (fleet < fleets_in t) × (station < stations_in t)
IsNamed t (line.Weight leg choice weight) = IsPair t (leg_on leg choice)
IsNamed t other = ⊤

-- a count of 64 bits
abbrev pub IsWordCount : ℕ → Type 0
IsWordCount n = n < 2 ^ 64

-- all numbers of a line are such as a text may hold, and its minute or its day is of the period
abbrev pub HasFigures : Tables → Line → Type 0
HasFigures t (line.OpenPivots made) = IsWordCount made
HasFigures t (line.OpenGrew pivots row column) = IsWordCount pivots × IsWordCount row × IsWordCount column
HasFigures t (line.OpenLift step at) = IsWordCount step × IsWordCount at
HasFigures t (line.Scale scale) = IsFigure scale
HasFigures t (line.Rent fleet rent) = IsFigure rent
HasFigures t (line.Charge station day charge) = (1 ≤ day) × (day ≤ days_in t) × IsFigure charge
HasFigures t (line.At fleet station minute value) = (minute ≤ last_of t) × IsFigure value
HasFigures t (line.Mixed scale) = IsFigure scale
HasFigures t (line.Weight leg choice weight) = IsFigure weight
HasFigures t other = ⊤
