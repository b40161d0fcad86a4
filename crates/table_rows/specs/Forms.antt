-- A file that has one of two headers: an old one, or a new one with a further column.
use Rattle.std.specs.Prelude.{◌≡◌, ◌⊎◌, ℕ, Bool, List, Result, IsTrue, ⊤}
use Rattle.fleet_model.specs.declared.refusals.TheConstants.{WRONG_HEADER}
use Rattle.table_rows.specs.Rows.{BadBelowHeader, Fields, IsUnder, LacksHeader, TableReads}
use Rattle.table_rows.specs.declared.forms.Form.{Form}
use Rattle.table_rows.specs.declared.forms.Form.TheVariants as form

-- the header of a file in each form
abbrev pub header_in : Fields → Fields → Form → Fields
header_in old new form.Old = old
header_in old new form.New = new

-- the new header is always allowed, and the old one where this says so
abbrev pub IsAllowedForm : Bool → Form → Type 0
IsAllowedForm old_allowed form.Old = IsTrue old_allowed
IsAllowedForm old_allowed form.New = ⊤

-- an allowed header stands first, and the rest below it
pub record IsInForm (header : Form → Fields) (old_allowed : Bool) (records : List Fields) (found : Form) (rest : List Fields) : Type 0 where
  pub allowed : IsAllowedForm old_allowed found
  pub under : IsUnder (header found) records rest

-- no allowed header stands first
abbrev pub LacksForm : (Form → Fields) → Bool → List Fields → Type 0
LacksForm header old_allowed records = (found : Form) → IsAllowedForm old_allowed found → LacksHeader (header found) records

module _ {E : Type 0} (key : E → List ℕ) (read : Form → List (List ℕ) → Fields → Result E ℕ) (header : Form → Fields) (old_allowed : Bool) where
  -- the records of a file are an allowed header and records that read, in its form, as these entries
  pub record FormReads (records : List Fields) (entries : List E) : Type 0 where
    pub found : Form
    pub allowed : IsAllowedForm old_allowed found
    pub table : TableReads key (read found) (header found) records entries

  -- below an allowed header a record doesn't read in the header's form
  pub record BadInForm (records : List Fields) (row kind : ℕ) : Type 0 where
    pub found : Form
    pub allowed : IsAllowedForm old_allowed found
    pub below : BadBelowHeader key (read found) (header found) records row kind

  -- the first fault of a file, with the number of its record
  abbrev pub FormBad : List Fields → ℕ → ℕ → Type 0
  FormBad records row kind = (LacksForm header old_allowed records × (row ≡ 1) × (kind ≡ WRONG_HEADER)) ⊎ BadInForm records row kind
