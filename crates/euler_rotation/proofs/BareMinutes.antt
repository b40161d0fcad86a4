-- The minutes at whose end none stands, and what segments that end with them tell.
use Rattle.std.proofs.Common.{◌≡◌, ℕ, ◌+◌, ◌<◌, Bool, true, false, IsTrue, List, [], ◌∷◌, ◌++◌, length, get_or, sym, ◌∙◌, ap, subst, inl, inr, arith}
use Rattle.std.proofs.lemmas.Bool.{cases_lt}
use Rattle.std.proofs.lemmas.List.{get_or_append_left, get_or_default, get_or_push, length_push}
use mathlib.Core.Bool.{false≢true}
use Rattle.sums.proofs.Tests.{by_test}
use Rattle.fleet_model.specs.declared.parts.Connection.{Connection}
use Rattle.fleet_model.specs.declared.tables.Tables.{Tables}
use Rattle.fleet_model.specs.Counts.{weights_of}
use Rattle.fleet_model.specs.Schedule.{legs_in, no_leg, period_of, stations_in}
use Rattle.lines_of_flying.specs.ground_turns.Laws.{AreBareMinutes}
use Rattle.lines_of_flying.specs.ground_turns.Segments.{NoneEnds, is_minute_among, span_of}
use Rattle.lines_of_flying.specs.ground_turns.Turns.{IsClean, departs_at, ready_at, station_at}
use Rattle.lines_of_flying.proofs.ground_turns.CleanTurns.{among_filtered, segments_tell_clean}
use Rattle.node_aggregate.specs.island_cut.Zeros.{none_stands, zeros_below, zeros_of}
use Rattle.euler_rotation.specs.Asked.{AreAllSegments, AreSegments}
use Rattle.euler_rotation.specs.Prefixes.{is_clean}
use Rattle.euler_rotation.proofs.TourTurns.{clean_from, clean_to}

pub are_bare : (t : Tables) (a : List ℕ) (f s : ℕ) (minutes : List ℕ) → minutes ≡ zeros_of t (weights_of a) f s → AreBareMinutes t a f s minutes
unfolding zeros_below
are_bare t a f s minutes is = record {
  each = λ m lt. ap (λ xs. is_minute_among xs m) is ∙ among_filtered (none_stands t (weights_of a) f s) (period_of t) m lt;
}

-- segments of its station tell whether a turn is clean
pub told_clean : (t : Tables) (a : List ℕ) (f : ℕ) (turn : Connection) (numbers : List ℕ) (b : Bool) → AreSegments t a f (station_at t turn) numbers
    → (IsTrue b → NoneEnds numbers (ready_at t f turn) (departs_at t f turn)) × (NoneEnds numbers (ready_at t f turn) (departs_at t f turn) → IsTrue b) → b ≡ is_clean t a f turn
told_clean t a f turn numbers b segments told = by_test b yes_clean not_clean
  where
    law : (NoneEnds numbers (ready_at t f turn) (departs_at t f turn) → IsClean t a f turn) × (IsClean t a f turn → NoneEnds numbers (ready_at t f turn) (departs_at t f turn))
    law = segments_tell_clean t a f turn segments.minutes numbers segments.bare segments.period segments.ends

    yes_clean : b ≡ true → b ≡ is_clean t a f turn
    yes_clean e = e ∙ sym (clean_from t a f turn (law.0 (told.0 e)))

    not_clean : b ≡ false → b ≡ is_clean t a f turn
    not_clean e = e ∙ sym (by_test (is_clean t a f turn) (λ clean. absurd (false≢true (sym e ∙ told.1 (law.1 (clean_to t a f turn clean))))) (λ other. other))

-- the segments of a turn's station are read at its number
module _ (t : Tables) (a : List ℕ) (f : ℕ) (turn : Connection) (all : List (List ℕ)) (segments : AreAllSegments t a f all) (s : ℕ) (at_station : s ≡ station_at t turn) (known : turn.arriving < legs_in t) where
  station_known : station_at t turn < stations_in t
  station_known = (t.in_range.legs_fit.each turn.arriving no_leg known).to

  pub there : s < length all
  there = omega (arith, at_station, station_known, segments.each_station)

  module _ (numbers : List ℕ) (read : numbers ≡ get_or all s numbers) where
    same : numbers ≡ get_or all (station_at t turn) []
    same = read ∙ get_or_default all s numbers [] there ∙ ap (λ k. get_or all k []) at_station

    of_station : AreSegments t a f (station_at t turn) numbers
    of_station = subst (AreSegments t a f (station_at t turn)) (sym same) (segments.each (station_at t turn) station_known)

    pub in_period : (minute : ℕ) → minute < period_of t → minute < span_of numbers
    in_period minute within = subst (λ n. minute < n) (sym of_station.period) within

    -- they tell whether it is clean
    pub told_by : (ready departure : ℕ) (b : Bool) → ready ≡ ready_at t f turn → departure ≡ departs_at t f turn
        → (IsTrue b → NoneEnds numbers ready departure) × (NoneEnds numbers ready departure → IsTrue b) → b ≡ is_clean t a f turn
    told_by ready departure b is_ready departs told =
        told_clean t a f turn numbers b of_station
        (subst (λ (r : ℕ). (IsTrue b → NoneEnds numbers r (departs_at t f turn)) × (NoneEnds numbers r (departs_at t f turn) → IsTrue b)) is_ready
        (subst (λ (d : ℕ). (IsTrue b → NoneEnds numbers ready d) × (NoneEnds numbers ready d → IsTrue b)) departs told))

-- one station more
pub one_station_more : (t : Tables) (a : List ℕ) (f : ℕ) (all more : List (List ℕ)) (n : ℕ) (numbers : List ℕ) → more ≡ all ++ numbers ∷ [] → length all ≡ n
    → ((s : ℕ) → s < n → AreSegments t a f s (get_or all s [])) → AreSegments t a f n numbers → (length more ≡ n + 1) × ((s : ℕ) → s < n + 1 → AreSegments t a f s (get_or more s []))
one_station_more t a f all more n numbers pushed long each here = (
  omega (arith, ap length pushed, length_push all numbers, long),
  (λ s below. elim (cases_lt s n) [
    | inl before ↦ subst (AreSegments t a f s) (sym (ap (λ xs. get_or xs s []) pushed ∙ get_or_append_left all (numbers ∷ []) [] s (omega (arith, long, before)))) (each s before)
    | inr last ↦
        let same : n ≡ s = omega (arith, last, below) in
        subst (λ k. AreSegments t a f k (get_or more k [])) same (subst (AreSegments t a f n) (sym (ap (λ xs. get_or xs n []) pushed ∙ get_or_push all numbers [] n long)) here)
  ]),
)
