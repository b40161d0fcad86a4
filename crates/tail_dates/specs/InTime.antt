-- What the answers come to: starts by which each tail comes to maintenance in time, or that there are none.
use Rattle.std.specs.Prelude.{◌≡◌, ℕ, ◌<◌, ◌≤◌, List, length, slice_index, slice_index_or, Option, Some, None, ⊤}
use Rattle.fleet_model.specs.declared.tables.Tables.{Tables}
use Rattle.fleet_model.specs.Counts.{weights_of}
use Rattle.fleet_model.specs.Use.{used_of}
use Rattle.tail_dates.specs.Places.{place_of_line}
use Rattle.tail_dates.specs.Placing.{ats_of, lefts_of}
use Rattle.tail_dates.specs.Reaches.{HasReach, start_line}
use Rattle.tail_dates.specs.declared.placing.Placed.{Placed}
use Rattle.tail_dates.specs.declared.placing.Placed.TheVariants as placed
use Rattle.tail_dates.specs.declared.tails.Place.{Place}
use Rattle.tail_dates.specs.declared.tails.TailState.{TailState}

-- the line is a start of the day of the period, and from it maintenance comes within the nights left
pub record ComesInTime (t : Tables) (f : ℕ) (tour : List ℕ) (day used left line : ℕ) : Type 0 where
  pub start : ℕ
  pub within : start < used
  pub its_line : line ≡ start_line t day start
  pub reach : ℕ
  pub has_reach : HasReach t f tour line reach
  pub in_time : reach ≤ left

-- each tail has a line of its own from which it comes to maintenance in time
pub record AreInTime (t : Tables) (f : ℕ) (tour : List ℕ) (day used : ℕ) (lefts lines : List ℕ) : Type 0 where
  pub each_tail : length lines ≡ length lefts
  pub each : (k : ℕ) → k < length lefts → ComesInTime t f tour day used (slice_index lefts k) (slice_index lines k)
  pub own : (j k : ℕ) → j < length lefts → k < length lefts → slice_index lines j ≡ slice_index lines k → j ≡ k

-- a line begins where the tail is, if that is told
abbrev pub BeginsThere : Tables → ℕ → List ℕ → ℕ → Option Place → Type 0
BeginsThere t f tour line None = ⊤
BeginsThere t f tour line (Some place) = place_of_line t f tour line ≡ place

-- such lines of which each begins where its tail is
pub record AreInTimeThere (t : Tables) (f : ℕ) (tour : List ℕ) (day used : ℕ) (lefts : List ℕ) (ats : List (Option Place)) (lines : List ℕ) : Type 0 where
  pub in_time : AreInTime t f tour day used lefts lines
  pub there : (k : ℕ) → k < length lefts → BeginsThere t f tour (slice_index lines k) (slice_index_or ats k None)

-- the lines that are given are such
abbrev pub AnswersInTime : Tables → ℕ → List ℕ → ℕ → ℕ → List ℕ → List (Option Place) → Placed → Type 0
AnswersInTime t f tour day used lefts ats (placed.WrongNumber tails told) = Unit {0}
AnswersInTime t f tour day used lefts ats (placed.Late within tails starts) = Unit {0}
AnswersInTime t f tour day used lefts ats (placed.SomeAt at tails) = Unit {0}
AnswersInTime t f tour day used lefts ats (placed.Lacks place tails starts) = Unit {0}
AnswersInTime t f tour day used lefts ats (placed.LateAt place within tails starts) = Unit {0}
AnswersInTime t f tour day used lefts ats (placed.Lines lines) = AreInTimeThere t f tour day used lefts ats lines

-- where tails are late there are none, wherever they are; where a place lacks tails, or they are late there, none such
abbrev pub AnswersNone : Tables → ℕ → List ℕ → ℕ → ℕ → List ℕ → List (Option Place) → Placed → Type 0
AnswersNone t f tour day used lefts ats (placed.WrongNumber tails told) = Unit {0}
AnswersNone t f tour day used lefts ats (placed.Late within tails starts) = (lines : List ℕ) → ¬ (AreInTime t f tour day used lefts lines)
AnswersNone t f tour day used lefts ats (placed.SomeAt at tails) = Unit {0}
AnswersNone t f tour day used lefts ats (placed.Lacks place tails starts) = (lines : List ℕ) → ¬ (AreInTimeThere t f tour day used lefts ats lines)
AnswersNone t f tour day used lefts ats (placed.LateAt place within tails starts) = (lines : List ℕ) → ¬ (AreInTimeThere t f tour day used lefts ats lines)
AnswersNone t f tour day used lefts ats (placed.Lines lines) = Unit {0}

abbrev pub GivesStarts : Tables → List ℕ → ℕ → List ℕ → ℕ → List TailState → Placed → Type 0
GivesStarts t a f tour day tails answer = AnswersInTime t f tour day (used_of t (weights_of a) f) (lefts_of f tails) (ats_of f tails) answer

abbrev pub ShowsNone : Tables → List ℕ → ℕ → List ℕ → ℕ → List TailState → Placed → Type 0
ShowsNone t a f tour day tails answer = AnswersNone t f tour day (used_of t (weights_of a) f) (lefts_of f tails) (ats_of f tails) answer
