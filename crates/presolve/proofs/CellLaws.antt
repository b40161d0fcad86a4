-- Numbers for each fleet at each place: all 0, another at one place, more at some.
use Rattle.std.proofs.Common.{◌≡◌, ◌≢◌, ℕ, ◌+◌, ◌-◌, ◌*◌, ◌<◌, ◌≤◌, Bool, true, false, if◌then◌else◌, ◌==◌, ◌&&◌, List, length, set, length-set, replicate, get_or-set_same, get_or-set_other, refl, sym, ap, ◌∙◌, arith}
use Rattle.std.proofs.lemmas.Bool.Decides.{nat_tests}
use Rattle.std.proofs.lemmas.List.{get_or-replicate, length-replicate}
use Rattle.fleet_model.specs.Schedule.{period_of, stations_in}
use Rattle.fleet_model.specs.declared.tables.Tables.{Tables}
use Rattle.fleet_model.proofs.PeriodMinutes.{at_most_week}
use Rattle.presolve.specs.Cells.{AreCells, AreMore, cell_of}
use Rattle.presolve.specs.declared.cells.TheConstants.{CELL_WIDTH}

-- there is a place for each station and each minute
pub few_stations : (t : Tables) → stations_in t ≤ CELL_WIDTH
few_stations t = let few = t.in_range.stations_fit.few in omega (arith, few)

pub few_minutes : (t : Tables) → period_of t ≤ CELL_WIDTH
few_minutes t = omega (arith, at_most_week t)

pub within_cells : (fleets f k : ℕ) → f < fleets → k < CELL_WIDTH → f * CELL_WIDTH + k < fleets * CELL_WIDTH
within_cells fleets f k known below = omega arith

-- all are 0
pub zeros_are : (cells : List ℕ) (fleets : ℕ) → cells ≡ replicate (fleets * CELL_WIDTH) 0 → AreCells cells (λ f k. 0) fleets CELL_WIDTH
zeros_are cells fleets is = record {
  width = ap length is ∙ length-replicate {A = ℕ} (fleets * CELL_WIDTH) 0;
  each = λ f k known below. ap (λ xs. cell_of xs f k) is ∙ get_or-replicate {A = ℕ} (fleets * CELL_WIDTH) (f * CELL_WIDTH + k) 0 0 (within_cells fleets f k known below);
}

-- two cells are apart where their fleets or their places are
apart : (f k g j : ℕ) → k < CELL_WIDTH → j < CELL_WIDTH → (f ≡ g → k ≡ j → ⊥) → f * CELL_WIDTH + k ≢ g * CELL_WIDTH + j
apart f k g j below under other same =
    let fleets : f ≡ g = omega arith in
    let places : k ≡ j = omega arith in
    other fleets places

-- another number at one place
pub set_there : (cells : List ℕ) (after : ℕ → ℕ → ℕ) (fleets places g j x : ℕ) → places ≤ CELL_WIDTH → length cells ≡ fleets * CELL_WIDTH → g < fleets → j < places → x ≡ after g j
    → ((f k : ℕ) → f < fleets → k < places → (f ≡ g → k ≡ j → ⊥) → cell_of cells f k ≡ after f k)
    → (f k : ℕ) → f < fleets → k < places → cell_of (set cells (g * CELL_WIDTH + j) x) f k ≡ after f k
set_there cells after fleets places g j x narrow width known there is others f k in_fleets in_places = by_place ((f == g) && (k == j)) refl
  where
    here : cell_of (set cells (g * CELL_WIDTH + j) x) g j ≡ after g j
    here =
        let inside : g * CELL_WIDTH + j < length cells = omega (arith, width, within_cells fleets g j known (omega arith)) in
        get_or-set_same cells (g * CELL_WIDTH + j) x 0 inside ∙ is

    elsewhere : (f ≡ g → k ≡ j → ⊥) → cell_of (set cells (g * CELL_WIDTH + j) x) f k ≡ after f k
    elsewhere other =
        get_or-set_other cells (g * CELL_WIDTH + j) (f * CELL_WIDTH + k) x 0 (apart f k g j (omega arith) (omega arith) other) ∙ others f k in_fleets in_places other

    by_place : (b : Bool) → ((f == g) && (k == j)) ≡ b → cell_of (set cells (g * CELL_WIDTH + j) x) f k ≡ after f k
    by_place true e =
        let fleet : f ≡ g = grind (arith, nat_tests) in
        let place : k ≡ j = grind (arith, nat_tests) in
        rw (fleet, place) here
    by_place false e = elsewhere (λ p q. grind (arith, nat_tests))

-- one less at one place
pub one_less : (cells new : List ℕ) (value after : ℕ → ℕ → ℕ) (fleets places g j : ℕ) → places ≤ CELL_WIDTH → AreCells cells value fleets places
    → new ≡ set cells (g * CELL_WIDTH + j) (cell_of cells g j - 1) → g < fleets → j < places → value g j ≡ after g j + 1
    → ((f k : ℕ) → (f ≡ g → k ≡ j → ⊥) → value f k ≡ after f k) → AreCells new after fleets places
one_less cells new value after fleets places g j narrow are is known there fewer others = record {
  width = ap length is ∙ length-set cells (g * CELL_WIDTH + j) (cell_of cells g j - 1) ∙ are.width;
  each = λ f k in_fleets in_places.
      ap (λ xs. cell_of xs f k) is
      ∙ set_there cells after fleets places g j (cell_of cells g j - 1) narrow are.width known there (omega (arith, are.each g j known there, fewer))
      (λ f k in_fleets in_places other. are.each f k in_fleets in_places ∙ others f k other) f k in_fleets in_places;
}

-- one more at one place
pub one_more : (cells new : List ℕ) (fleets places g j : ℕ) → places ≤ CELL_WIDTH → length cells ≡ fleets * CELL_WIDTH → new ≡ set cells (g * CELL_WIDTH + j) (cell_of cells g j + 1) → g < fleets → j < places
    → AreMore (λ f k. if (j == k) && (g == f) then 1 else 0) fleets places cells new
one_more cells new fleets places g j narrow width is known there = record {
  width = ap length is ∙ length-set cells (g * CELL_WIDTH + j) (cell_of cells g j + 1);
  each = λ f k in_fleets in_places.
      ap (λ xs. cell_of xs f k) is
      ∙ set_there cells (λ f k. cell_of cells f k + (if (j == k) && (g == f) then 1 else 0)) fleets places g j (cell_of cells g j + 1) narrow width known there (grind (arith, nat_tests))
      (λ f k in_fleets in_places other. apart_adds f k (j == k) (g == f) (λ e h. other (grind (arith, nat_tests)) (grind (arith, nat_tests)))) f k in_fleets in_places;
}
  where
    apart_adds : (f k : ℕ) (a b : Bool) → (a ≡ true → b ≡ true → ⊥) → cell_of cells f k ≡ cell_of cells f k + (if a && b then 1 else 0)
    apart_adds f k true true other = absurd (other refl refl)
    apart_adds f k true false other = omega arith
    apart_adds f k false b other = omega arith

-- none is more
pub none_more : (cells : List ℕ) (more : ℕ → ℕ → ℕ) (fleets places : ℕ) → ((f k : ℕ) → f < fleets → more f k ≡ 0) → AreMore more fleets places cells cells
none_more cells more fleets places none = record { width = refl; each = λ f k known within. omega (arith, none f k known) }

-- numbers that are more
pub more_there : (cells new : List ℕ) (value after more : ℕ → ℕ → ℕ) (fleets places : ℕ) → AreCells cells value fleets places → AreMore more fleets places cells new
    → ((f k : ℕ) → f < fleets → after f k ≡ value f k + more f k) → AreCells new after fleets places
more_there cells new value after more fleets places are grown same = record {
  width = grown.width ∙ are.width;
  each = λ f k known within. omega (arith, grown.each f k known within, are.each f k known within, same f k known);
}

pub same_there : (cells : List ℕ) (value after : ℕ → ℕ → ℕ) (fleets places : ℕ) → AreCells cells value fleets places
    → ((f k : ℕ) → f < fleets → after f k ≡ value f k) → AreCells cells after fleets places
same_there cells value after fleets places are same = record {
  width = are.width;
  each = λ f k known within. are.each f k known within ∙ sym (same f k known);
}

pub fewer_places : (cells : List ℕ) (value : ℕ → ℕ → ℕ) (fleets places fewer : ℕ) → fewer ≤ places → AreCells cells value fleets places → AreCells cells value fleets fewer
fewer_places cells value fleets places fewer less are = record {
  width = are.width;
  each = λ f k known within. are.each f k known (omega arith);
}
