-- What is counted of all kept pairs at first, leg by leg.
use Rattle.std.proofs.Common.{◌≡◌, ℕ, ◌+◌, ◌*◌, ◌<◌, ◌≤◌, Bool, true, false, ◌==◌, ◌&&◌, if◌then◌else◌, List, add-one, refl, ap, sym, ◌∙◌, arith}
use Rattle.sums.specs.Below.{count_below, sum_below}
use Rattle.sums.proofs.NumberTests.{if_below}
use Rattle.sums.proofs.Sums.{count_below-le}
use Rattle.fleet_model.specs.Kept.{Domains}
use Rattle.fleet_model.specs.Schedule.{choices_in, fleets_in, legs_in, period_of, stations_in}
use Rattle.fleet_model.specs.declared.limits.TheConstants.{MAX_CHOICES, MAX_LEGS}
use Rattle.fleet_model.specs.declared.tables.Tables.{Tables}
use Rattle.fleet_model.proofs.FewChoices.{few_choices}
use Rattle.presolve.specs.Cells.{AreCells, AreMore, cell_of}
use Rattle.presolve.specs.Choices.{all_busy_alone}
use Rattle.presolve.specs.Ends.{end_station, kept_at}
use Rattle.presolve.specs.Rules.{busy_alone, departures, flies, kept_flown_on, landings}
use Rattle.presolve.specs.declared.counting.End.{End}
use Rattle.presolve.specs.declared.counting.End.TheVariants as end
use Rattle.presolve.specs.declared.cells.TheConstants.{CELL_WIDTH}
use Rattle.presolve.proofs.AloneLaws.{few_below}
use Rattle.presolve.proofs.CellLaws.{few_minutes, few_stations, fewer_places, more_there, same_there}
use Rattle.presolve.proofs.Landed.{counted, few_counted}

next : (f : ℕ → ℕ) (n : ℕ) → sum_below f (n + 1) ≡ sum_below f n + f n
next f n = ap (sum_below f) (add-one n)

at_end : (t : Tables) (leg : ℕ) → leg ≡ legs_in t → (f : ℕ → ℕ) → sum_below f leg ≡ sum_below f (legs_in t)
at_end t leg all f = ap (sum_below f) all

-- ---- landings and departures, by the place of a leg
pub none_counted : (t : Tables) (cells : List ℕ) → AreCells cells (λ f k. 0) (fleets_in t) CELL_WIDTH → AreCells cells (λ f s. 0) (fleets_in t) (stations_in t)
none_counted t cells are = fewer_places cells (λ f k. 0) (fleets_in t) CELL_WIDTH (stations_in t) (few_stations t) are

module _ (t : Tables) (keeps : Domains) (place : ℕ → ℕ) (leg : ℕ) where
  abbrev AreCounted : List ℕ → ℕ → Type 0
  AreCounted cells n = AreCells cells (λ f s. sum_below (counted t keeps place f s) n) (fleets_in t) (stations_in t)

  pub few_counted_there : (cells : List ℕ) → AreCounted cells leg → (f s : ℕ) → f < fleets_in t → s < stations_in t → cell_of cells f s ≤ leg * MAX_CHOICES
  few_counted_there cells are f s known there = omega (arith, are.each f s known there, few_counted t keeps place f s leg)

  pub one_leg_more : (station : ℕ) (cells new : List ℕ) → station ≡ place leg → AreCounted cells leg
      → AreMore (λ f s. if station == s then kept_flown_on t keeps f leg else 0) (fleets_in t) (stations_in t) cells new → AreCounted new (leg + 1)
  one_leg_more station cells new there are grown =
      more_there cells new (λ f s. sum_below (counted t keeps place f s) leg) (λ f s. sum_below (counted t keeps place f s) (leg + 1)) (λ f s. if station == s then kept_flown_on t keeps f leg else 0) (fleets_in t) (stations_in t) are grown
      (λ f s known. next (counted t keeps place f s) leg ∙ ap (λ k. sum_below (counted t keeps place f s) leg + (if k == s then kept_flown_on t keeps f leg else 0)) (sym there))

pub all_counted : (t : Tables) (keeps : Domains) (at : End) (leg : ℕ) (cells : List ℕ) → leg ≡ legs_in t → AreCounted t keeps (end_station t at) leg cells leg → AreCells cells (kept_at t keeps at) (fleets_in t) (stations_in t)
unfolding departures landings
all_counted t keeps end.From leg cells all are = same_there cells _ _ (fleets_in t) (stations_in t) are (λ f s known. sym (at_end t leg all (counted t keeps (end_station t end.From) f s)))
all_counted t keeps end.To leg cells all are = same_there cells _ _ (fleets_in t) (stations_in t) are (λ f s known. sym (at_end t leg all (counted t keeps (end_station t end.To) f s)))

-- ---- what one leg adds, choice by choice
module _ (t : Tables) (keeps : Domains) (leg station : ℕ) where
  abbrev added : ℕ → ℕ → ℕ → ℕ
  added n f s = if station == s then count_below (flies t keeps f leg) n else 0

  pub none_added : (cells : List ℕ) → AreMore (added 0) (fleets_in t) (stations_in t) cells cells
  none_added cells = record { width = refl; each = λ f s known within. nothing (station == s) _ }
    where
      nothing : (b : Bool) (n : ℕ) → n ≡ n + (if b then 0 else 0)
      nothing true n = omega arith
      nothing false n = omega arith

  pub few_added : (n : ℕ) (old new : List ℕ) → leg < legs_in t → n < choices_in t leg → ((f s : ℕ) → f < fleets_in t → s < stations_in t → cell_of old f s ≤ leg * MAX_CHOICES)
      → AreMore (added n) (fleets_in t) (stations_in t) old new → (f s : ℕ) → f < fleets_in t → s < stations_in t → cell_of new f s < MAX_LEGS * MAX_CHOICES
  few_added n old new leg_within within few more f s known there =
      let legs = t.in_range.legs_fit.few in
      let some = if_below (station == s) (count_below (flies t keeps f leg) n) n (count_below-le (flies t keeps f leg) n) in
      omega (arith, more.each f s known there, few f s known there, some, few_choices t leg, legs)

  one_more : (n f s : ℕ) → ◌≡◌ {A = ℕ} (added (n + 1) f s) (added n f s + (if (station == s) && flies t keeps f leg n then 1 else 0))
  one_more n f s = by_tests (station == s) (flies t keeps f leg n) _ _ (next (λ c. if flies t keeps f leg c then 1 else 0) n)
    where
      by_tests : (here b : Bool) (x y : ℕ) → x ≡ y + (if b then 1 else 0) → ◌≡◌ {A = ℕ} (if here then x else 0) ((if here then y else 0) + (if here && b then 1 else 0))
      by_tests true b x y h = h
      by_tests false b x y h = refl

  pub one_choice_more : (n : ℕ) (old cells new : List ℕ) → AreMore (added n) (fleets_in t) (stations_in t) old cells
      → AreMore (λ f s. if (station == s) && flies t keeps f leg n then 1 else 0) (fleets_in t) (stations_in t) cells new → AreMore (added (n + 1)) (fleets_in t) (stations_in t) old new
  one_choice_more n old cells new before grown = record {
    width = grown.width ∙ before.width;
    each = λ f s known there. omega (arith, grown.each f s known there, before.each f s known there, one_more n f s);
  }

  pub all_choices : (n : ℕ) (old new : List ℕ) → n ≡ choices_in t leg → AreMore (added n) (fleets_in t) (stations_in t) old new
      → AreMore (λ f s. if station == s then kept_flown_on t keeps f leg else 0) (fleets_in t) (stations_in t) old new
  unfolding kept_flown_on
  all_choices n old new all more = record {
    width = more.width;
    each = λ f s known there. more.each f s known there ∙ ap (λ k. cell_of old f s + (if station == s then count_below (flies t keeps f leg) k else 0)) all;
  }

-- ---- the aircraft of legs that keep one pair
pub none_alone : (t : Tables) (cells : List ℕ) → AreCells cells (λ f k. 0) (fleets_in t) CELL_WIDTH → AreCells cells (λ f m. 0) (fleets_in t) (period_of t)
none_alone t cells are = fewer_places cells (λ f k. 0) (fleets_in t) CELL_WIDTH (period_of t) (few_minutes t) are

module _ (t : Tables) (keeps : Domains) (leg : ℕ) where
  abbrev pub AreAlone : List ℕ → ℕ → Type 0
  AreAlone cells n = AreCells cells (λ f m. sum_below (busy_alone t keeps f m) n) (fleets_in t) (period_of t)

  pub few_alone_there : (cells : List ℕ) → leg ≤ legs_in t → AreAlone cells leg → (f m : ℕ) → f < fleets_in t → m < period_of t → cell_of cells f m ≤ 3 * MAX_LEGS
  few_alone_there cells within are f m known early = omega (arith, are.each f m known early, few_below t keeps f m leg within)

  pub alone_leg_more : (cells new : List ℕ) → AreAlone cells leg → AreMore (λ f m. busy_alone t keeps f m leg) (fleets_in t) (period_of t) cells new → AreAlone new (leg + 1)
  alone_leg_more cells new are grown =
      more_there cells new (λ f m. sum_below (busy_alone t keeps f m) leg) (λ f m. sum_below (busy_alone t keeps f m) (leg + 1)) (λ f m. busy_alone t keeps f m leg) (fleets_in t) (period_of t) are grown
      (λ f m known. next (busy_alone t keeps f m) leg)

pub all_alone : (t : Tables) (keeps : Domains) (leg : ℕ) (cells : List ℕ) → leg ≡ legs_in t → AreAlone t keeps leg cells leg → AreCells cells (all_busy_alone t keeps) (fleets_in t) (period_of t)
unfolding all_busy_alone
all_alone t keeps leg cells all are = same_there cells _ _ (fleets_in t) (period_of t) are (λ f m known. sym (at_end t leg all (busy_alone t keeps f m)))
