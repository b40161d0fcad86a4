-- The nights of a tour, leg by leg, and how many there are.
use Rattle.std.proofs.Common.{◌≡◌, ℕ, Result, Ok, Err, OnOk, zero, suc, ◌+◌, ◌*◌, [], ◌∷◌, ◌++◌, Bool, false, List, length, map, replicate, append_assoc, refl, sym, ◌∙◌, ap}
use Rattle.std.proofs.lemmas.List.{append-nil, length-map, map-append, replicate_more}
use Rattle.fleet_model.specs.declared.tables.Tables.{Tables}
use Rattle.fleet_model.specs.Counts.{weights_of}
use Rattle.fleet_model.specs.Schedule.{days_in, leg_on}
use Rattle.fleet_model.specs.Times.{nights_of}
use Rattle.fleet_model.specs.Use.{used_of}
use Rattle.lines_of_flying.proofs.ground_turns.NightLists.{nights_append}
use Rattle.lines_of_flying.proofs.ground_turns.TourNights.{nights_are_use}
use Rattle.fleet_model.specs.declared.parts.Connection.{Connection}
use Rattle.lines_of_flying.specs.ground_turns.Maps.{IsTour, turn_after, turns_round}
use Rattle.lines_of_flying.specs.ground_turns.Nights.{can_maintain, night_of_stay, nights_in_turn, nights_in_turns}
use Rattle.lines_of_flying.specs.ground_turns.Turns.{nights_waited}
use Rattle.lines_of_flying.specs.declared.ground_turns.nights.Night.TheVariants as night
use Rattle.sums.proofs.Places.{list_below-more}
use Rattle.sums.specs.Places.{list_below}
use Rattle.tail_dates.specs.Reaches.{maintenance_nights}

-- of each night after a tour's first legs whether it is for maintenance
abbrev pub nights_so_far : Tables → ℕ → List ℕ → ℕ → List Bool
nights_so_far t f tour n = map (can_maintain t) (nights_in_turns t f (list_below (turn_after tour) n))

module _ (t : Tables) (f : ℕ) (tour : List ℕ) where
  pub nights_more : (n : ℕ) (old new : List Bool) → old ≡ nights_so_far t f tour n
      → new ≡ old ++ map (can_maintain t) (nights_in_turn t f (turn_after tour n)) → new ≡ nights_so_far t f tour (n + 1)
  nights_more n old new before pushed =
      let turn = turn_after tour n in
      pushed ∙ ap (λ nights. nights ++ map (can_maintain t) (nights_in_turn t f turn)) before
      ∙ sym (map-append (can_maintain t) (nights_in_turns t f (list_below (turn_after tour) n)) (nights_in_turn t f turn))
      ∙ ap (map (can_maintain t))
      (ap (λ nights. nights_in_turns t f (list_below (turn_after tour) n) ++ nights) (sym (append-nil (nights_in_turn t f turn)))
      ∙ sym (nights_append t f (list_below (turn_after tour) n) (turn ∷ []))
      ∙ ap (nights_in_turns t f) (sym (list_below-more (turn_after tour) n)))

all_alike : {X Y : Type 0} (g : X → Y) (x : X) (n : ℕ) → replicate n (g x) ≡ map g (replicate n x)
all_alike g x zero = refl
all_alike g x (suc n) = ap (λ ys. g x ∷ ys) (all_alike g x n)

-- the nights of a turn: those in the flight aren't for maintenance, those in the wait may be
pub turn_nights : (t : Tables) (f aloft waited : ℕ) (turn : Connection) (flag : Bool) (old with_flight new : List Bool)
    → aloft ≡ nights_of t (leg_on turn.arriving f) → waited ≡ nights_waited t f turn → flag ≡ can_maintain t (night_of_stay t f turn)
    → with_flight ≡ old ++ replicate aloft false → new ≡ with_flight ++ replicate waited flag → new ≡ old ++ map (can_maintain t) (nights_in_turn t f turn)
turn_nights t f aloft waited turn flag old with_flight new flown stays there first second =
    second ∙ ap (λ nights. nights ++ replicate waited flag) first ∙ append_assoc old (replicate aloft false) (replicate waited flag)
    ∙ ap (λ nights. old ++ nights)
    (ap (λ nights. nights ++ replicate waited flag) (ap (λ n. replicate n false) flown ∙ all_alike (can_maintain t) night.Aloft (nights_of t (leg_on turn.arriving f)))
    ∙ ap (λ nights. map (can_maintain t) (replicate (nights_of t (leg_on turn.arriving f)) night.Aloft) ++ nights)
    (ap (λ n. replicate n flag) stays ∙ ap (replicate (nights_waited t f turn)) there ∙ all_alike (can_maintain t) (night_of_stay t f turn) (nights_waited t f turn))
    ∙ sym (map-append (can_maintain t) (replicate (nights_of t (leg_on turn.arriving f)) night.Aloft) (replicate (nights_waited t f turn) (night_of_stay t f turn))))

pub turn_nights_of : {E : Type 0} (t : Tables) (f : ℕ) (tour : List ℕ) (place aloft waited : ℕ) (turn : Connection) (flag : Bool) (old with_flight new : List Bool) (result : Result (Unit {0}) E)
    → turn ≡ turn_after tour place → aloft ≡ nights_of t (leg_on turn.arriving f) → waited ≡ nights_waited t f turn → flag ≡ can_maintain t (night_of_stay t f turn)
    → with_flight ≡ old ++ replicate aloft false → OnOk result (new ≡ with_flight ++ replicate waited flag)
    → OnOk result (new ≡ old ++ map (can_maintain t) (nights_in_turn t f (turn_after tour place)))
turn_nights_of t f tour place aloft waited turn flag old with_flight new (Ok done) is flown stays there first second =
    turn_nights t f aloft waited turn flag old with_flight new flown stays there first second ∙ ap (λ one. old ++ map (can_maintain t) (nights_in_turn t f one)) is
turn_nights_of t f tour place aloft waited turn flag old with_flight new (Err error) is flown stays there first second = tt

-- there are as many as the fleet uses aircraft, for each day of the period
pub all_nights : (t : Tables) (a : List ℕ) (f : ℕ) (tour : List ℕ) → IsTour t a f tour → length (maintenance_nights t f tour) ≡ used_of t (weights_of a) f * days_in t
all_nights t a f tour is = length-map (nights_in_turns t f (turns_round tour)) (can_maintain t) ∙ nights_are_use t a f (turns_round tour) is.fitting

pub same_more : {X : Type 0} (old now grown : List X) (x : X) (n : ℕ) → now ≡ old ++ replicate n x → grown ≡ now ++ x ∷ [] → grown ≡ old ++ replicate (n + 1) x
same_more old now grown x n so_far pushed =
    pushed ∙ ap (λ xs. xs ++ x ∷ []) so_far ∙ append_assoc old (replicate n x) (x ∷ []) ∙ ap (λ xs. old ++ xs) (replicate_more n x)
