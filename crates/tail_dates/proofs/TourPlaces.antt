-- The places of a tour: as many as its nights, and each of them one of the tables.
use Rattle.std.proofs.Common.{◌≡◌, ℕ, suc, ◌+◌, ◌-◌, ◌*◌, ◌%◌, ◌<◌, List, [], ◌∷◌, ◌++◌, Bool, true, false, nat_lt, if◌then◌else◌, All, append_assoc, inl, inr, length, replicate, slice_index, slice_index_or, Result, Ok, Err, OnOk, refl, sym, ◌∙◌, ap, subst, arith}
use Rattle.std.proofs.lemmas.Bool.{cases_lt, lt-ltb}
use Rattle.std.proofs.lemmas.Bool.Decides.{nat_tests}
use Rattle.std.proofs.lemmas.List.{append-nil, get_or_append_left, get_or_default, get_or_push, length-append, length-map, length-replicate}
use Rattle.std.proofs.lemmas.List.Elements.{All-append, All-get_or, All-nil, All-replicate}
use Rattle.std.proofs.lemmas.Nat.{mod_below}
use Rattle.fleet_model.specs.declared.parts.Connection.{Connection}
use Rattle.fleet_model.specs.declared.tables.Tables.{Tables}
use Rattle.fleet_model.specs.Schedule.{leg_on, legs_in, no_leg, stations_in}
use Rattle.fleet_model.specs.Times.{nights_of}
use Rattle.lines_of_flying.proofs.ground_turns.TourNights.{nights_long}
use Rattle.lines_of_flying.specs.ground_turns.Maps.{IsTour, turn_after, turn_at, turns_round}
use Rattle.lines_of_flying.specs.ground_turns.Nights.{can_maintain, nights_in, nights_of_tour}
use Rattle.lines_of_flying.specs.ground_turns.Turns.{nights_waited, station_at}
use Rattle.sums.proofs.Places.{list_below-more}
use Rattle.sums.proofs.Tests.{passed_over, picked}
use Rattle.sums.proofs.Turned.{shifted}
use Rattle.sums.specs.Below.{sum_below}
use Rattle.sums.specs.Places.{list_below}
use Rattle.tail_dates.specs.Places.{AreStartPlaces, IsPlace, no_place, place_number, place_numbered, place_of_line, place_round, places_in, places_in_turn, places_in_turns, places_of_tour}
use Rattle.tail_dates.proofs.StartReaches.{line_within}
use Rattle.tail_dates.specs.Reaches.{maintenance_nights, night_ending, start_line}
use Rattle.tail_dates.specs.declared.tails.Place.{Place}
use Rattle.tail_dates.specs.declared.tails.Place.TheVariants as place

-- ---- leg by leg
places_append : (t : Tables) (f : ℕ) (xs ys : List Connection) → places_in_turns t f (xs ++ ys) ≡ places_in_turns t f xs ++ places_in_turns t f ys
places_append t f [] ys = refl
places_append t f (x ∷ xs) ys =
    ap (λ places. places_in_turn t f x ++ places) (places_append t f xs ys) ∙ sym (append_assoc (places_in_turn t f x) (places_in_turns t f xs) (places_in_turns t f ys))

abbrev pub places_so_far : Tables → ℕ → List ℕ → ℕ → List Place
places_so_far t f tour n = places_in_turns t f (list_below (turn_after tour) n)

pub places_more : (t : Tables) (f : ℕ) (tour : List ℕ) (n : ℕ) (old new : List Place) → old ≡ places_so_far t f tour n
    → new ≡ old ++ places_in_turn t f (turn_after tour n) → new ≡ places_so_far t f tour (n + 1)
places_more t f tour n old new before pushed =
    let turn = turn_after tour n in
    pushed ∙ ap (λ places. places ++ places_in_turn t f turn) before
    ∙ ap (λ places. places_in_turns t f (list_below (turn_after tour) n) ++ places) (sym (append-nil (places_in_turn t f turn)))
    ∙ sym (places_append t f (list_below (turn_after tour) n) (turn ∷ []))
    ∙ ap (places_in_turns t f) (sym (list_below-more (turn_after tour) n))

pub turn_places : (t : Tables) (f aloft waited : ℕ) (turn : Connection) (old with_flight new : List Place)
    → aloft ≡ nights_of t (leg_on turn.arriving f) → waited ≡ nights_waited t f turn
    → with_flight ≡ old ++ replicate aloft (place.Flies turn.arriving) → new ≡ with_flight ++ replicate waited (place.Stands (station_at t turn)) → new ≡ old ++ places_in_turn t f turn
turn_places t f aloft waited turn old with_flight new flown stays first second =
    second ∙ ap (λ places. places ++ replicate waited (place.Stands (station_at t turn))) first
    ∙ append_assoc old (replicate aloft (place.Flies turn.arriving)) (replicate waited (place.Stands (station_at t turn)))
    ∙ ap (λ places. old ++ (places ++ replicate waited (place.Stands (station_at t turn)))) (ap (λ n. replicate n (place.Flies turn.arriving)) flown)
    ∙ ap (λ n. old ++ (replicate (nights_of t (leg_on turn.arriving f)) (place.Flies turn.arriving) ++ replicate n (place.Stands (station_at t turn)))) stays

pub turn_places_of : {E : Type 0} (t : Tables) (f : ℕ) (tour : List ℕ) (at aloft waited station : ℕ) (turn : Connection) (old with_flight new : List Place) (result : Result (Unit {0}) E)
    → turn ≡ turn_after tour at → aloft ≡ nights_of t (leg_on turn.arriving f) → waited ≡ nights_waited t f turn → station ≡ station_at t turn
    → with_flight ≡ old ++ replicate aloft (place.Flies turn.arriving) → OnOk result (new ≡ with_flight ++ replicate waited (place.Stands station))
    → OnOk result (new ≡ old ++ places_in_turn t f (turn_after tour at))
turn_places_of t f tour at aloft waited station turn old with_flight new (Ok done) is flown stays lands first second =
    turn_places t f aloft waited turn old with_flight new flown stays first (second ∙ ap (λ s. with_flight ++ replicate waited (place.Stands s)) lands)
    ∙ ap (λ one. old ++ places_in_turn t f one) is
turn_places_of t f tour at aloft waited station turn old with_flight new (Err error) is flown stays lands first second = tt

-- ---- how many they are
places_long : (t : Tables) (f : ℕ) (turns : List Connection) → length (places_in_turns t f turns) ≡ sum_below (λ k. nights_in t f (turn_at turns k)) (length turns)
places_long t f [] = refl
places_long t f (turn ∷ turns) =
    let front = length-append (places_in_turn t f turn) (places_in_turns t f turns) in
    let parts = length-append (replicate (nights_of t (leg_on turn.arriving f)) (place.Flies turn.arriving)) (replicate (nights_waited t f turn) (place.Stands (station_at t turn))) in
    let aloft = length-replicate (nights_of t (leg_on turn.arriving f)) (place.Flies turn.arriving) in
    let stood = length-replicate (nights_waited t f turn) (place.Stands (station_at t turn)) in
    omega (arith, front, parts, aloft, stood, places_long t f turns, shifted (λ k. nights_in t f (turn_at (turn ∷ turns) k)) (length turns))

pub a_place_each_night : (t : Tables) (f : ℕ) (tour : List ℕ) → length (places_of_tour t f tour) ≡ length (maintenance_nights t f tour)
a_place_each_night t f tour =
    places_long t f (turns_round tour) ∙ sym (nights_long t f (turns_round tour)) ∙ sym (length-map (nights_of_tour t f tour) (can_maintain t))

-- ---- each is one of the tables
places_known : (t : Tables) (f : ℕ) (turns : List Connection) → ((k : ℕ) → k < length turns → (turn_at turns k).arriving < legs_in t) → All (IsPlace t) (places_in_turns t f turns)
places_known t f [] known = All-nil (IsPlace t)
places_known t f (turn ∷ turns) known =
    All-append (IsPlace t) (places_in_turn t f turn) (places_in_turns t f turns)
    (All-append (IsPlace t) (replicate (nights_of t (leg_on turn.arriving f)) (place.Flies turn.arriving)) (replicate (nights_waited t f turn) (place.Stands (station_at t turn)))
    (All-replicate (IsPlace t) (nights_of t (leg_on turn.arriving f)) (place.Flies turn.arriving) (known 0 (omega arith)))
    (All-replicate (IsPlace t) (nights_waited t f turn) (place.Stands (station_at t turn)) ((t.in_range.legs_fit.each turn.arriving no_leg (known 0 (omega arith))).to)))
    (places_known t f turns (λ k below. known (suc k) (omega (arith, below))))

pub place_known : (t : Tables) (a : List ℕ) (f : ℕ) (tour : List ℕ) (k : ℕ) → IsTour t a f tour → 0 < length (places_of_tour t f tour) → IsPlace t (place_round (places_of_tour t f tour) k)
place_known t a f tour k is some =
    All-get_or (IsPlace t) (places_of_tour t f tour) (k % length (places_of_tour t f tour)) no_place (mod_below k (length (places_of_tour t f tour)) some)
    (places_known t f (turns_round tour) (λ n below. (is.fitting.map.each n below).arriving))

pub number_known : (t : Tables) (p : Place) → IsPlace t p → place_number t p < places_in t
number_known t (place.Stands s) known = omega (arith, picked (nat_lt s (stations_in t)) s (places_in t) (lt-ltb s (stations_in t) known), known)
number_known t (place.Flies l) known = omega (arith, picked (nat_lt l (legs_in t)) (stations_in t + l) (places_in t) (lt-ltb l (legs_in t) known), known)

-- a number of the tables is that of one place
pub number_back : (t : Tables) (p : Place) → place_number t p < places_in t → p ≡ place_numbered t (place_number t p)
number_back t (place.Stands s) known = by_test (nat_lt s (stations_in t)) refl known
  where
    by_test : (b : Bool) → nat_lt s (stations_in t) ≡ b → (if b then s else places_in t) < places_in t → place.Stands s ≡ place_numbered t (if b then s else places_in t)
    by_test true is known = picked (nat_lt s (stations_in t)) (place.Stands s) (place.Flies (s - stations_in t)) is
    by_test false is known = absurd (omega (arith, known))
number_back t (place.Flies l) known = by_test (nat_lt l (legs_in t)) refl known
  where
    past : (m n : ℕ) → nat_lt (m + n) m ≡ false
    past m n = grind (arith, nat_tests)

    rest : (m n : ℕ) → n ≡ m + n - m
    rest m n = omega arith

    by_test : (b : Bool) → nat_lt l (legs_in t) ≡ b → (if b then stations_in t + l else places_in t) < places_in t → place.Flies l ≡ place_numbered t (if b then stations_in t + l else places_in t)
    by_test true is known =
        ap place.Flies (rest (stations_in t) l)
        ∙ passed_over (nat_lt (stations_in t + l) (stations_in t)) (place.Stands (stations_in t + l)) (place.Flies (stations_in t + l - stations_in t)) (past (stations_in t) l)
    by_test false is known = absurd (omega (arith, known))

-- ---- start by start
pub some_nights : (start day used days count : ℕ) → count ≡ used * days → start < used → day < days → 0 < count
some_nights start day used days count all within inside = omega (arith, all, line_within start day used days within inside)

pub there_is : (t : Tables) (f : ℕ) (tour : List ℕ) (line : ℕ) (nights : List Place) (count k : ℕ) (there : Place) → nights ≡ places_of_tour t f tour → count ≡ length (places_of_tour t f tour)
    → k ≡ night_ending t f tour line + length (places_of_tour t f tour) - 1 → there ≡ slice_index_or nights (k % count) there → 0 < count → there ≡ place_of_line t f tour line
there_is t f tour line nights count k there same counted is found some =
    let places = places_of_tour t f tour in
    let last = night_ending t f tour line + length places - 1 in
    found ∙ ap (λ xs. slice_index_or xs (k % count) there) same ∙ ap (λ n. slice_index_or places (k % n) there) counted ∙ ap (λ m. slice_index_or places (m % length places) there) is
    ∙ get_or_default places (last % length places) there no_place (mod_below last (length places) (subst (λ n. 0 < n) counted some))

pub start_places_more : (t : Tables) (f : ℕ) (tour : List ℕ) (day : ℕ) (places grown : List ℕ) (start place : ℕ) → AreStartPlaces t f tour day start places
    → grown ≡ places ++ place ∷ [] → place ≡ place_number t (place_of_line t f tour (start_line t day start)) → place < places_in t → AreStartPlaces t f tour day (start + 1) grown
start_places_more t f tour day places grown start place so_far pushed is known = record {
  each_start = ap length pushed ∙ length-append places (place ∷ []) ∙ ap (λ n. n + 1) so_far.each_start;
  each = λ k below. elim (cases_lt k start) [
    | inl less ↦ front k less ∙ so_far.each k less
    | inr ge ↦
        let same : start ≡ k = omega (arith, below, ge) in
        subst (λ n. slice_index grown n ≡ place_number t (place_of_line t f tour (start_line t day n))) same (last ∙ is)
  ];
  known = λ k below. elim (cases_lt k start) [
    | inl less ↦ omega (arith, front k less, so_far.known k less)
    | inr ge ↦
        let same : start ≡ k = omega (arith, below, ge) in
        subst (λ n. slice_index grown n < places_in t) same (omega (arith, last, known))
  ];
}
  where
    front : (k : ℕ) → k < start → slice_index grown k ≡ slice_index places k
    front k less = ap (λ xs. slice_index xs k) pushed ∙ get_or_append_left places (place ∷ []) 0 k (omega (arith, less, so_far.each_start))

    last : slice_index grown start ≡ place
    last = ap (λ xs. slice_index xs start) pushed ∙ get_or_push places place 0 start so_far.each_start
