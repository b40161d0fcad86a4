-- The kept pairs with what is counted of them, as the search holds them.
use Rattle.std.specs.Prelude.{◌≡◌, ℕ, ◌*◌, ◌<◌, length, slice_index}
use Rattle.sums.specs.Below.{sum_below}
use Rattle.fleet_model.specs.Kept.{Domains, kept_by, kept_on}
use Rattle.fleet_model.specs.Schedule.{fleets_in, legs_in, period_of, stations_in}
use Rattle.fleet_model.specs.declared.tables.Tables.{Tables}
use Rattle.presolve.specs.Cells.{AreCells}
use Rattle.presolve.specs.Removals.{NoneBare}
use Rattle.presolve.specs.Rules.{busy_alone, departures, landings}
use Rattle.presolve.specs.declared.cells.TheConstants.{CELL_WIDTH}
use Rattle.presolve.specs.declared.choices.Choices.{Choices}

-- the aircraft of a fleet that legs without a choice keep busy at the end of a minute
unfoldable pub all_busy_alone : Tables → Domains → ℕ → ℕ → ℕ
all_busy_alone t keeps f m = sum_below (busy_alone t keeps f m) (legs_in t)

-- the numbers are those of the kept pairs; of legs without a choice, as long as each leg keeps a pair
pub record AreChoices (t : Tables) (choices : Choices) : Type 0 where
  pub counted : (l : ℕ) → l < legs_in t → slice_index choices.counts l ≡ kept_on t (kept_by choices.kept) l
  pub landed : AreCells choices.landings.items (landings t (kept_by choices.kept)) (fleets_in t) (stations_in t)
  pub departed : AreCells choices.departures.items (departures t (kept_by choices.kept)) (fleets_in t) (stations_in t)
  pub busy_width : length choices.busy.items ≡ fleets_in t * CELL_WIDTH
  pub busy : NoneBare t (kept_by choices.kept) → AreCells choices.busy.items (all_busy_alone t (kept_by choices.kept)) (fleets_in t) (period_of t)
