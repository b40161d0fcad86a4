-- What becomes of a fleet's rotation: the cases, and that the search is complete.
use Rattle.std.proofs.Common.{◌≡◌, ℕ, ◌*◌, ◌<◌, ◌≤◌, Bool, IsTrue, true, false, ◌||◌, ◌==◌, if◌then◌else◌, List, [], ◌∷◌, Result, Ok, Err, IfOk, length, slice_index, sym, ◌∙◌, ap, subst, inl, inr, arith}
use Rattle.std.specs.List.{list_any}
use Rattle.std.proofs.Math.Nat.{mul_comm, mul-le-mul_left}
use Rattle.std.proofs.lemmas.Bool.{cases_lt, eq-eqb, eqb-true}
use Rattle.std.proofs.lemmas.List.{get_or_default}
use Rattle.std.proofs.lemmas.List.Sums.{sum_by-append}
use mathlib.Core.Bool.{false≢true}
use Rattle.sums.proofs.Tests.{by_test}
use Rattle.fleet_model.specs.declared.parts.Connection.{Connection}
use Rattle.fleet_model.specs.declared.tables.Tables.{Tables}
use Rattle.entries.specs.declared.memory.NoMemory.{NoMemory}
use Rattle.lines_of_flying.specs.ground_turns.Maps.{IsTour, turns_round}
use Rattle.lines_of_flying.specs.ground_turns.Nights.{IsMaintainedFrom, can_maintain, maintained_in, nights_at_maintenance, nights_of_tour}
use Rattle.lines_of_flying.specs.declared.ground_turns.nights.Night.{Night}
use Rattle.lines_of_flying.specs.declared.ground_turns.nights.Night.TheVariants as night
use Rattle.lines_of_flying.proofs.ground_turns.MaintainedNights.{kept_has_nights, maintained_are_stands}
use Rattle.lines_of_flying.proofs.ground_turns.Stays.{all_are_maintained, maintained_are_there}
use Rattle.lines_of_flying.proofs.ground_turns.TourNights.{nights_are_use}
use Rattle.lines_of_flying.proofs.ground_turns.Totals.{some_counted}
use Rattle.lines_of_flying.proofs.ground_turns.Rounds.{bit}
use Rattle.euler_rotation.specs.declared.asked.Asked.{Asked}
use Rattle.euler_rotation.specs.declared.search.Found.{Found}
use Rattle.euler_rotation.specs.declared.search.Found.TheVariants as found
use Rattle.euler_rotation.specs.declared.rotation.Rotation.{Rotation}
use Rattle.euler_rotation.specs.declared.rotation.Rotation.TheVariants as rotation
use Rattle.euler_rotation.specs.Answers.{AreEnough, IsRotation, IsRotationComplete, IsUnused, Suffice}
use Rattle.euler_rotation.specs.Asked.{IsAsked}
use Rattle.euler_rotation.specs.Prefixes.{preorder}
use Rattle.euler_rotation.specs.Searches.{EndNoneOf, IsFoundUnder}
use Rattle.euler_rotation.specs.Tours.{IsKeptTour, IsOrder, IsTourWith, nights_maintained, nights_used, times_in, turned_tour}
use Rattle.euler_rotation.proofs.Gaps.{at, kept_round, some_place}
use Rattle.euler_rotation.proofs.InPreorder.{reached}
use Rattle.euler_rotation.proofs.Turning.{entry_turned, kept_turned}
use Rattle.euler_rotation.proofs.TourTurns.{own_leg, tour_order}
use Rattle.sums.proofs.Rounds.{from_start}

module _ (t : Tables) (a : List ℕ) (f : ℕ) where
  -- the nights of a tour, those at maintenance stations, and those for maintenance
  tour_nights : (legs : List ℕ) → IsTour t a f legs → length (nights_of_tour t f legs) ≡ nights_used t a f
  tour_nights legs tour = nights_are_use t a f (turns_round legs) tour.fitting

  tour_there : (legs : List ℕ) → IsTour t a f legs → nights_at_maintenance t (nights_of_tour t f legs) ≡ nights_maintained t a f
  tour_there legs tour = maintained_are_stands t a f (turns_round legs) tour.fitting

  tour_few : (legs : List ℕ) → IsTour t a f legs → maintained_in t (nights_of_tour t f legs) ≤ nights_maintained t a f
  tour_few legs tour = omega (arith, maintained_are_there t (nights_of_tour t f legs), tour_there legs tour)

  tour_maintained : (legs : List ℕ) → IsTour t a f legs → t.settings.least_night ≡ 0 → maintained_in t (nights_of_tour t f legs) ≡ nights_maintained t a f
  tour_maintained legs tour none = all_are_maintained t f (turns_round legs) none ∙ tour_there legs tour

  module _ (pairs : List Connection) (days : ℕ) where
    -- with too few nights no tour is kept
    pub too_few : (legs : List ℕ) → nights_maintained t a f * days < nights_used t a f → IsKeptTour t a f pairs days legs → ⊥
    too_few legs few kept =
        contradict (length (nights_of_tour t f legs)) (nights_used t a f) days (maintained_in t (nights_of_tour t f legs)) (nights_maintained t a f)
        (kept_has_nights t (nights_of_tour t f legs) days kept.kept) (tour_nights legs kept.tour) (tour_few legs kept.tour) few
      where
        contradict : (l u d m h : ℕ) → l ≤ d * m → l ≡ u → m ≤ h → h * d < u → ⊥
        contradict l u d m h le e g lt = let most : d * m ≤ d * h = mul-le-mul_left d g in omega (arith, le, e, most, mul_comm d h, lt)

    -- some night counts
    some_night : (nights : List Night) → 0 < maintained_in t nights → list_any (can_maintain t) nights ≡ true
    some_night [] some = absurd (omega arith)
    some_night (x ∷ xs) some = by_test (can_maintain t x)
        (λ here. ap (λ b. or_else b (list_any (can_maintain t) xs)) here)
        (λ none. ap (λ b. or_else b (list_any (can_maintain t) xs)) none ∙ some_night xs (omega (arith, sum_by-append (λ y. bit (can_maintain t y)) (x ∷ []) xs, some, ap bit none)))
      where
        or_else : Bool → Bool → Bool
        or_else b c = b || c

    -- where there are as many days as nights and none is short, each tour is kept if one is
    pub all_kept : (joined legs : List ℕ) → t.settings.least_night ≡ 0 → AreEnough t a f days → IsTourWith t a f pairs joined → nights_used t a f ≤ days → IsKeptTour t a f pairs days legs → IsKeptTour t a f pairs days joined
    all_kept joined legs none_short nights tour many kept = record { tour = tour.tour; holds = tour.holds; kept = record { some = some; each = each } }
      where
        long : length (nights_of_tour t f joined) ≡ length (nights_of_tour t f legs)
        long = tour_nights joined tour.tour ∙ sym (tour_nights legs kept.tour)

        some : 0 < length (nights_of_tour t f joined)
        some = omega (arith, long, kept.kept.some)

        maintained : 0 < maintained_in t (nights_of_tour t f joined)
        maintained = above (nights_used t a f) (nights_maintained t a f) days (maintained_in t (nights_of_tour t f joined)) nights.enough (omega (arith, kept.kept.some, tour_nights legs kept.tour)) (tour_maintained joined tour.tour none_short)
          where
            above : (u h d m : ℕ) → u ≤ h * d → 0 < u → m ≡ h → 0 < m
            above u h d m le lt e = elim (cases_lt 0 m) [ inl more ↦ more | inr none ↦ absurd (zero u h d (omega arith) le lt) ]
              where
                zero : (u h d : ℕ) → h ≡ 0 → u ≤ h * d → 0 < u → ⊥
                zero u h d e le lt = let none : h * d ≡ 0 * d = ap (λ n. n * d) e in omega (arith, none, le, lt)

        place : (k : ℕ) × (k < length (nights_of_tour t f joined)) × (can_maintain t (at (nights_of_tour t f joined) k) ≡ true)
        place = some_place (can_maintain t) night.Aloft (nights_of_tour t f joined) (some_night (nights_of_tour t f joined) maintained)

        each : (first : ℕ) → first < length (nights_of_tour t f joined) → IsMaintainedFrom t (nights_of_tour t f joined) days first
        each first lt = kept_round t days (nights_of_tour t f joined) first place.0 lt place.1 (omega (arith, many, tour_nights joined tour.tour)) place.2

    -- where no prefix ends a kept tour, there is none
    pub none_ends : (order legs : List ℕ) → IsOrder t a f order → 0 < length order → 0 < days → EndNoneOf t a f pairs days order (length (preorder t a f pairs days order)) → IsKeptTour t a f pairs days legs → ⊥
    none_ends order legs is some some_days none kept =
        reached t a f pairs days some_days (turned_tour place.0 legs) turned_kept order is (λ p. IsKeptTour t a f pairs days p → ⊥) begins
        (λ k d lt ends. none.each k lt (subst (IsKeptTour t a f pairs days) (get_or_default (preorder t a f pairs days order) k d [] lt) ends)) turned_kept
      where
        l : ℕ
        l = slice_index order 0

        one : times_in legs (slice_index order 0) ≡ 1
        one = (tour_order t a f legs kept.tour).once (slice_index order 0) (is.known 0 some) ∙ ap (λ b. if b then 1 else 0) (eq-eqb _ _ (own_leg t a f order is 0 some))

        place : (k : ℕ) × (k < length legs) × ((slice_index legs k == slice_index order 0) ≡ true)
        place = some_counted (λ k. slice_index legs k == slice_index order 0) (length legs) (omega (arith, one))

        turned_kept : IsKeptTour t a f pairs days (turned_tour place.0 legs)
        turned_kept = kept_turned legs place.0 place.1 t a f pairs days kept

        begins : slice_index (turned_tour place.0 legs) 0 ≡ slice_index order 0
        begins = entry_turned legs place.0 place.1 0 (omega (arith, place.1)) ∙ ap (slice_index legs) (from_start place.0 (length legs) place.1) ∙ eqb-true _ _ place.2

    -- a fleet without a leg has no tour
    none_flown : (legs : List ℕ) → IsUnused t a f → IsKeptTour t a f pairs days legs → ⊥
    none_flown legs unused kept =
        let order = tour_order t a f legs kept.tour in
        unused.each (slice_index legs 0) (order.known 0 kept.tour.some) (own_leg t a f legs order 0 kept.tour.some)

    -- where the search comes to its end, the answer is a tour exactly where one is kept
    pub complete : (visits : ℕ) (answer : Rotation) → IsRotation t a f pairs days visits answer → IsRotationComplete t a f pairs days visits answer
    complete visits rotation.Unused is suffice = ((λ none. absurd none), (λ has. none_flown has.legs is has.tour))
    complete visits (rotation.TooFewNights have used) is suffice = ((λ none. absurd none), (λ has. too_few has.legs (subst (λ (n : ℕ). n * days < nights_used t a f) is.have_is (subst (λ (n : ℕ). have * days < n) is.used_is is.few)) has.tour))
    complete visits (rotation.Apart legs) is suffice = ((λ none. absurd none), (λ has. is.apart.no_tour has.legs has.tour.tour has.tour.holds))
    complete visits (rotation.Tour legs) is suffice = ((λ some. record { legs = legs; tour = is.tour }), (λ has. tt))
    complete visits rotation.None is suffice = ((λ none. absurd none), (λ has. is.none has.legs has.tour))
    complete visits (rotation.Spent order prefix) is suffice = ((λ none. absurd none), (λ has. spent suffice))
      where
        spent : Suffice t a f pairs days visits → ⊥
        spent (inl many) = omega (arith, many.1, is.few many.0)
        spent (inr few) = omega (arith, few order is.visited.each_leg, is.visited.more)

    pub complete_all : (visits : ℕ) (answer : Result Rotation NoMemory) → IfOk answer (IsRotation t a f pairs days visits) → IfOk answer (IsRotationComplete t a f pairs days visits)
    complete_all visits (Ok answer) is = complete visits answer is
    complete_all visits (Err error) is = is

-- ---- what was tried in vain
unfoldable pub kept_for : Asked → List ℕ → Type 0
kept_for asked legs = IsKeptTour asked.tables.now asked.plan.now asked.fleet asked.pairs.now asked.days legs

-- a list that isn't a kept tour
pub not_kept : (asked : Asked) (legs : List ℕ) (b : Bool) → (IsKeptTour asked.tables.now asked.plan.now asked.fleet asked.pairs.now asked.days legs → IsTrue b) → b ≡ false
    → IsKeptTour asked.tables.now asked.plan.now asked.fleet asked.pairs.now asked.days legs → ⊥
not_kept asked legs b told fails kept = false≢true (sym fails ∙ told kept)

-- a search that found nothing
unfoldable pub found_for : Asked → List ℕ → ℕ → Found → Type 0
found_for asked order visits found = IsFoundUnder asked.tables.now asked.plan.now asked.fleet asked.pairs.now asked.days order visits found

pub none_found : (asked : Asked) (order : List ℕ) (visits : ℕ) (it : Found) → IsFoundUnder asked.tables.now asked.plan.now asked.fleet asked.pairs.now asked.days order visits it → it ≡ found.Nothing → IsAsked asked
    → IsTourWith asked.tables.now asked.plan.now asked.fleet asked.pairs.now order → (legs : List ℕ) → IsKeptTour asked.tables.now asked.plan.now asked.fleet asked.pairs.now asked.days legs → ⊥
unfolding found_for
none_found asked order visits it is nothing is_asked tour legs kept =
    none_ends asked.tables.now asked.plan.now asked.fleet asked.pairs.now asked.days order legs (tour_order asked.tables.now asked.plan.now asked.fleet order tour.tour) tour.tour.some is_asked.some_days
    (subst (found_for asked order visits) nothing is) kept
