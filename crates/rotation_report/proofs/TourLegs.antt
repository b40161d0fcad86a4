-- The lines of a tour have legs of the tables.
use Rattle.std.proofs.Common.{ℕ, zero, suc, ◌<◌, ◌≤◌, ◌==◌, List, [], ◌∷◌, ◌++◌, length, slice_index, slice_index_or, sym, subst, inl, inr, arith}
use Rattle.std.proofs.lemmas.Bool.{cases_Bool}
use Rattle.std.proofs.lemmas.List.{append-nil}
use Rattle.sums.proofs.Places.{get_or-list_below, length-list_below}
use Rattle.fleet_model.specs.declared.tables.Tables.{Tables}
use Rattle.fleet_model.specs.Schedule.{legs_in}
use Rattle.lines_of_flying.specs.Lines.{AreLegsOfTables, day_of, days_of_tour, legs_on_day, lines_of}

legs-append : (t : Tables) (xs ys : List ℕ) → AreLegsOfTables t xs → AreLegsOfTables t ys → AreLegsOfTables t (xs ++ ys)
legs-append t xs ys front rest = record { each = at xs front }
  where
    at : (xs : List ℕ) → AreLegsOfTables t xs → (k : ℕ) → k < length (xs ++ ys) → slice_index (xs ++ ys) k < legs_in t
    at [] front k below = rest.each k below
    at (x ∷ xs) front zero below = front.each 0 (omega arith)
    at (x ∷ xs) front (suc k) below = at xs (record { each = λ j under. front.each (suc j) (omega arith) }) k (omega arith)

day_legs : (t : Tables) (f : ℕ) (tour : List ℕ) → AreLegsOfTables t tour → (d n : ℕ) → n ≤ length tour → AreLegsOfTables t (legs_on_day t f tour d n)
day_legs t f tour known d zero within = record { each = λ k below. absurd (omega arith) }
day_legs t f tour known d (suc n) within =
    let front = day_legs t f tour known d n (omega arith) in
    elim (cases_Bool (day_of t f tour n == d)) [
      | inl here ↦ rw here (legs-append t (legs_on_day t f tour d n) (slice_index tour n ∷ []) front (record { each = one }))
      | inr other ↦ rw (other, append-nil (legs_on_day t f tour d n)) front
    ]
  where
    one : (k : ℕ) → k < 1 → slice_index (slice_index tour n ∷ []) k < legs_in t
    one zero below = known.each n (omega arith)
    one (suc k) below = absurd (omega arith)

pub line_legs : (t : Tables) (f : ℕ) (tour : List ℕ) → AreLegsOfTables t tour → (k : ℕ) → k < length (lines_of t f tour) → AreLegsOfTables t (slice_index_or (lines_of t f tour) k [])
line_legs t f tour known k below =
    let nights = days_of_tour t f tour in
    let line = λ (d : ℕ). legs_on_day t f tour d (length tour) in
    let within : k < nights = rw (length-list_below line nights) at below in
    subst (AreLegsOfTables t) (sym (get_or-list_below line nights k [] within)) (day_legs t f tour known k (length tour) (omega arith))
