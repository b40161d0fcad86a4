-- The forms of lines: the words with which a line of each begins, how many it has, and which versions of the text have it.
use Rattle.std.specs.Prelude.{ℕ, ◌+◌, ◌&&◌, ◌||◌, Bool, true, false, not, if◌then◌else◌, List, [], ◌∷◌, codes, Option, Some, None}
use Rattle.proof_lines.specs.Words.{Word, is_word, stands, word_at}
use Rattle.proof_lines.specs.declared.forms.Form.{Form}
use Rattle.proof_lines.specs.declared.forms.Form.TheVariants as form
use Rattle.proof_lines.specs.declared.line.Line.{Line}
use Rattle.proof_lines.specs.declared.line.Line.TheVariants as line
use Rattle.proof_lines.specs.declared.line.Version.{Version}
use Rattle.proof_lines.specs.declared.line.Version.TheVariants as version

-- the words with which a line begins
abbrev pub keywords : Form → List Word
keywords form.Head = codes "fleet" ∷ codes "proof" ∷ []
keywords form.PlanYes = codes "plan" ∷ codes "yes" ∷ []
keywords form.PlanNo = codes "plan" ∷ codes "no" ∷ []
keywords form.Bare = codes "bare" ∷ []
keywords form.Sole = codes "sole" ∷ []
keywords form.Refuted = codes "refuted" ∷ []
keywords form.Priced = codes "priced" ∷ []
keywords form.OpenNodes = codes "open" ∷ codes "nodes" ∷ []
keywords form.OpenPivots = codes "open" ∷ codes "pivots" ∷ []
keywords form.OpenGrew = codes "open" ∷ codes "grew" ∷ []
keywords form.OpenLift = codes "open" ∷ codes "lift" ∷ []
keywords form.Trim = codes "trim" ∷ []
keywords form.Split = codes "split" ∷ []
keywords form.Scale = codes "scale" ∷ []
keywords form.Rent = codes "rent" ∷ []
keywords form.Charge = codes "charge" ∷ []
keywords form.At = codes "at" ∷ []
keywords form.Mixed = codes "mixed" ∷ []
keywords form.Weight = codes "weight" ∷ []
keywords form.End = codes "end" ∷ []

-- how many words a line that tells a pair has up to and with the pair: its first word, the flight, the fleet, and where the
-- tables have windows the shift
abbrev pub pair_end : Bool → ℕ
pair_end windows = if windows then 4 else 3

-- how many words a line has, where the tables have windows or haven't
abbrev pub width : Bool → Form → ℕ
width windows form.Head = 3
width windows form.PlanYes = 2
width windows form.PlanNo = 2
width windows form.Bare = 2
width windows form.Sole = 1
width windows form.Refuted = 1
width windows form.Priced = 1
width windows form.OpenNodes = 2
width windows form.OpenPivots = 3
width windows form.OpenGrew = 5
width windows form.OpenLift = 4
width windows form.Trim = pair_end windows
width windows form.Split = pair_end windows
width windows form.Scale = 2
width windows form.Rent = 3
width windows form.Charge = 4
width windows form.At = 5
width windows form.Mixed = 2
width windows form.Weight = pair_end windows + 1
width windows form.End = 1

-- the words begin as those of a form
abbrev pub opens : List Word → Form → Bool
opens words form = stands words 0 (word_at (keywords form) 0) && (not (is_word (word_at (keywords form) 1)) || stands words 1 (word_at (keywords form) 1))

-- the first of some forms as whose lines words begin
abbrev pub first_form : List Word → List Form → Option Form
first_form words [] = None
first_form words (form ∷ forms) = if opens words form then Some form else first_form words forms

-- all forms: words begin as those of one at most
unfoldable pub all_forms : List Form
all_forms =
    form.At ∷ form.Weight ∷ form.Rent ∷ form.Charge ∷ form.Scale ∷ form.Mixed ∷ form.Split ∷ form.Trim ∷ form.Bare ∷ form.Sole ∷ form.Refuted ∷ form.Priced
    ∷ form.OpenNodes ∷ form.OpenPivots ∷ form.OpenGrew ∷ form.OpenLift ∷ form.Head ∷ form.PlanYes ∷ form.PlanNo ∷ form.End ∷ []

-- a text of this version may have lines of charges, and lines of a form
abbrev pub has_charges : Version → Bool
has_charges version.One = false
has_charges version.Two = true
has_charges version.Three = true

abbrev pub has_form : Version → Form → Bool
has_form v form.Charge = has_charges v
has_form v other = true

-- a text of this version tells each pair with the shift of its leg
abbrev pub has_shifts : Version → Bool
has_shifts version.One = false
has_shifts version.Two = false
has_shifts version.Three = true

-- a form that was found, where a text of this version may have lines of it
abbrev pub of_version : Version → Option Form → Option Form
of_version v None = None
of_version v (Some form) = if has_form v form then Some form else None

-- the form that the first words say, where they begin one of this version
abbrev pub form_in : Version → List Word → Option Form
form_in v words = of_version v (first_form words all_forms)

-- the form of a line
abbrev pub form_of : Line → Form
form_of (line.Head version) = form.Head
form_of (line.Plan true) = form.PlanYes
form_of (line.Plan false) = form.PlanNo
form_of (line.Bare leg) = form.Bare
form_of line.Sole = form.Sole
form_of line.Refuted = form.Refuted
form_of line.Priced = form.Priced
form_of line.OpenNodes = form.OpenNodes
form_of (line.OpenPivots made) = form.OpenPivots
form_of (line.OpenGrew pivots row column) = form.OpenGrew
form_of (line.OpenLift step at) = form.OpenLift
form_of (line.Trim leg choice) = form.Trim
form_of (line.Split leg choice) = form.Split
form_of (line.Scale scale) = form.Scale
form_of (line.Rent fleet rent) = form.Rent
form_of (line.Charge station day charge) = form.Charge
form_of (line.At fleet station minute value) = form.At
form_of (line.Mixed scale) = form.Mixed
form_of (line.Weight leg choice weight) = form.Weight
form_of line.End = form.End
