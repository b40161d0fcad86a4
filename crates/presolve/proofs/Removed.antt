-- What is counted of kept pairs, once a pair is removed.
use Rattle.std.proofs.Common.{◌≡◌, ◌≢◌, ℕ, ◌+◌, ◌-◌, ◌*◌, ◌<◌, ◌≤◌, true, false, List, set, sym, ap, subst, ◌∙◌, arith}
use Rattle.fleet_model.specs.Kept.{Domains, kept_on}
use Rattle.fleet_model.specs.Schedule.{IsPair, fleet_by, fleets_in, no_leg, period_of, stations_in}
use Rattle.fleet_model.specs.declared.limits.TheConstants.{MAX_LEGS}
use Rattle.fleet_model.specs.declared.parts.Pair.{Pair}
use Rattle.fleet_model.specs.declared.tables.Tables.{Tables}
use Rattle.dual_bound.specs.Bound.{part}
use Rattle.presolve.specs.Cells.{AreCells, AreMore, cell_of}
use Rattle.presolve.specs.Choices.{all_busy_alone}
use Rattle.presolve.specs.Ends.{end_station, kept_at}
use Rattle.presolve.specs.Removals.{NoneBare}
use Rattle.presolve.specs.Rules.{busy_alone}
use Rattle.presolve.specs.declared.cells.TheConstants.{CELL_WIDTH}
use Rattle.presolve.specs.declared.counting.End.{End}
use Rattle.presolve.specs.declared.counting.End.TheVariants as end
use Rattle.presolve.proofs.AloneLaws.{few_alone, more_alone}
use Rattle.presolve.proofs.CellLaws.{few_stations, more_there, one_less}
use Rattle.presolve.proofs.Landed.{end_fewer, end_same}

module _ (t : Tables) (keeps after : Domains) (p : Pair) (pair : IsPair t p) (flies : fleet_by t p < fleets_in t) (kept : keeps p ≡ true) (is : after ≡ part keeps p.leg p.choice false) where
  -- one fewer where an end of the leg is
  end_known : (at : End) → end_station t at p.leg < stations_in t
  end_known end.From = (t.in_range.legs_fit.each p.leg no_leg pair.leg).from
  end_known end.To = (t.in_range.legs_fit.each p.leg no_leg pair.leg).to

  pub some_there : (at : End) (fleet station : ℕ) (cells : List ℕ) → AreCells cells (kept_at t keeps at) (fleets_in t) (stations_in t) → fleet ≡ fleet_by t p → station ≡ end_station t at p.leg → 0 < cell_of cells fleet station
  some_there at fleet station cells are by there =
      let value = are.each (fleet_by t p) (end_station t at p.leg) flies (end_known at) in
      rw (by, there) (omega (arith, value, end_fewer t keeps p at pair kept))

  pub ends_after : (at : End) (fleet station : ℕ) (cells new : List ℕ) → AreCells cells (kept_at t keeps at) (fleets_in t) (stations_in t) → fleet ≡ fleet_by t p → station ≡ end_station t at p.leg
      → new ≡ set cells (fleet * CELL_WIDTH + station) (cell_of cells fleet station - 1) → AreCells new (kept_at t after at) (fleets_in t) (stations_in t)
  ends_after at fleet station cells new are by there made =
      subst (λ k. AreCells new (kept_at t k at) (fleets_in t) (stations_in t)) (sym is)
      (one_less cells new (kept_at t keeps at) (kept_at t (part keeps p.leg p.choice false) at) (fleets_in t) (stations_in t) (fleet_by t p) (end_station t at p.leg) (few_stations t) are
      (made ∙ ap (λ f. set cells (f * CELL_WIDTH + station) (cell_of cells f station - 1)) by ∙ ap (λ s. set cells (fleet_by t p * CELL_WIDTH + s) (cell_of cells (fleet_by t p) s - 1)) there) flies (end_known at)
      (end_fewer t keeps p at pair kept) (λ f s other. end_same t keeps p at f s other))

  -- what the leg keeps busy alone then is more
  pub alone_after : (cells new : List ℕ) → AreCells cells (all_busy_alone t keeps) (fleets_in t) (period_of t)
      → AreMore (λ f m. busy_alone t after f m p.leg) (fleets_in t) (period_of t) cells new → NoneBare t after → AreCells new (all_busy_alone t after) (fleets_in t) (period_of t)
  alone_after cells new are grown none =
      more_there cells new (all_busy_alone t keeps) (all_busy_alone t after) (λ f m. busy_alone t after f m p.leg) (fleets_in t) (period_of t) are grown
      (λ f m known. subst (λ k. kept_on t k p.leg ≢ 0 → all_busy_alone t k f m ≡ all_busy_alone t keeps f m + busy_alone t k f m p.leg) (sym is)
      (λ left. more_alone t keeps p f m pair kept left) (λ e. none p.leg (record { within = pair.leg; none = e })))

-- no number is great
pub few_there : (t : Tables) (keeps : Domains) (cells : List ℕ) → AreCells cells (all_busy_alone t keeps) (fleets_in t) (period_of t) → (f m : ℕ) → f < fleets_in t → m < period_of t
    → cell_of cells f m ≤ 3 * MAX_LEGS
few_there t keeps cells are f m known within = omega (arith, are.each f m known within, few_alone t keeps f m)
