-- What steps make of a table and its basis.
use Rattle.std.specs.Prelude.{ℕ, ◌+◌, ◌<◌, ◌≡◌, ◌≢◌, pos, List, [], ◌∷◌, slice_set, None, ⊤}
use Rattle.sums.specs.Places.{list_below}
use Rattle.frac_row.specs.declared.row.FracRow.{FracRow}
use Rattle.row_store.specs.declared.error.Place.{Place}
use Rattle.row_store.specs.Table.{number_at, height_of}
use Rattle.row_store.specs.Steps.{stepped, step_growth}

-- a table, and the basic column of each line
pub record Tableau : Type 0 where
  pub table : List FracRow
  pub basis : List ℕ

-- the basis is the identity block, line by line
unfoldable pub first_tableau : List FracRow → ℕ → Tableau
first_tableau table columns = record { table = table; basis = list_below (λ line. columns + line) (height_of table) }

-- a step that is made: in a line's row, on a number other than 0 of a real column, and nothing is outgrown
pub record IsStep (table : List FracRow) (columns row column : ℕ) : Type 0 where
  pub line : row < height_of table
  pub real : column < columns
  pub number : number_at table row column ≢ pos 0
  pub fits : step_growth table row column ≡ None

-- the column is basic in its row after a step
unfoldable pub after_step : Tableau → Place → Tableau
after_step now place = record {
  table = stepped now.table place.row place.column;
  basis = slice_set now.basis place.row place.column;
}

-- the tableau after steps at these places, the last one first
abbrev pub tableau_after : List FracRow → ℕ → List Place → Tableau
tableau_after first columns [] = first_tableau first columns
tableau_after first columns (place ∷ before) = after_step (tableau_after first columns before) place

-- .. each of which is made
abbrev pub AreSteps : List FracRow → ℕ → List Place → Type 0
AreSteps first columns [] = ⊤
AreSteps first columns (place ∷ before) =
    AreSteps first columns before × IsStep (tableau_after first columns before).table columns place.row place.column

-- a table with its basis that steps reach from a first one of so many real columns
pub record IsReachedFrom (first : List FracRow) (columns : ℕ) (table : List FracRow) (basis : List ℕ) : Type 0 where
  pub places : List Place
  pub steps : AreSteps first columns places
  pub is : tableau_after first columns places ≡ record { table = table; basis = basis }
