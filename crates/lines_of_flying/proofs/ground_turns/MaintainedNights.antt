-- The nights at maintenance stations.
use Rattle.std.proofs.Common.{◌≡◌, ℕ, zero, suc, ◌+◌, ◌*◌, ◌%◌, ◌≤◌, Bool, true, false, if◌then◌else◌, ◌==◌, List, [], ◌∷◌, ◌++◌, length, replicate, slice_index_or, refl, sym, ◌∙◌, ap, arith}
use Rattle.std.specs.List.{count_by}
use Rattle.std.proofs.lemmas.Bool.{eqb-true}
use Rattle.std.proofs.lemmas.List.Sums.{sum_by-append}
use Rattle.sums.specs.Below.{sum_below, count_below}
use Rattle.sums.proofs.Sums.{sum_below-agree, sum_below-bound, sum_below-le, sum_below-one, sum_below-ones, sum_below-swap, sum_below-zero}
use Rattle.sums.proofs.Turned.{shifted, turned}
use Rattle.sums.proofs.SumBounds.{term_le}
use Rattle.fleet_model.specs.declared.parts.Connection.{Connection}
use Rattle.fleet_model.specs.declared.tables.Tables.{Tables}
use Rattle.fleet_model.specs.Schedule.{leg_on, no_leg, station_of, stations_in}
use Rattle.fleet_model.specs.Times.{nights_of}
use Rattle.lines_of_flying.specs.ground_turns.Laws.{KeptHasNights, MaintainedAreStands, maintained_at, nights_there}
use Rattle.lines_of_flying.specs.ground_turns.Maps.{turn_at}
use Rattle.lines_of_flying.specs.ground_turns.Nights.{IsMaintainedFrom, at_maintenance, can_maintain, is_short, maintained_in, night_of_stay, nights_at_maintenance, nights_in_turn, nights_in_turns}
use Rattle.lines_of_flying.specs.ground_turns.Turns.{nights_waited, station_at}
use Rattle.lines_of_flying.specs.declared.ground_turns.nights.Night.{Night}
use Rattle.lines_of_flying.specs.declared.ground_turns.nights.Night.TheVariants as night
use Rattle.lines_of_flying.proofs.ground_turns.NightCounts.{nights_are_stands}
use Rattle.lines_of_flying.proofs.ground_turns.Rounds.{bit, times_bit}

pub count_cons : (p : Night → Bool) (x : Night) (xs : List Night) → count_by p (x ∷ xs) ≡ bit (p x) + count_by p xs
count_cons p x xs = omega (arith, sum_by-append (λ y. bit (p y)) (x ∷ []) xs)

pub count_append : (p : Night → Bool) (xs ys : List Night) → count_by p (xs ++ ys) ≡ count_by p xs + count_by p ys
count_append p xs ys = sum_by-append (λ y. bit (p y)) xs ys

-- a count over a list by its places
by_place : (p : Night → Bool) (nights : List Night) → count_by p nights ≡ count_below (λ k. p (slice_index_or nights k night.Aloft)) (length nights)
by_place p [] = refl
by_place p (x ∷ xs) = omega (arith, count_cons p x xs, by_place p xs, shifted (λ k. bit (p (slice_index_or (x ∷ xs) k night.Aloft))) (length xs))

pub kept_has_nights : KeptHasNights
kept_has_nights t nights days kept =
    let each = sum_below-le (λ first. 1) (λ first. sum_below (λ j. good ((first + j) % length nights)) days) (length nights) (record { each = λ first lt. one first (kept.each first lt) }) in
    let swapped = sum_below-swap (λ first j. good ((first + j) % length nights)) days (length nights) in
    let same = sum_below-agree (λ j. sum_below (λ first. good ((first + j) % length nights)) (length nights)) (λ j. sum_below good (length nights)) days
    (record { each = λ j lt. turned good (length nights) j }) in
    let all = sum_below-bound (λ j. sum_below good (length nights)) (sum_below good (length nights)) days (record { each = λ j lt. omega arith }) in
    let counted = by_place (can_maintain t) nights in
    let product : days * sum_below good (length nights) ≡ days * maintained_in t nights = ap (λ n. days * n) (sym counted) in
    omega (arith, each, swapped, same, all, product, sum_below-ones (length nights))
  where
    good : ℕ → ℕ
    good k = bit (can_maintain t (slice_index_or nights k night.Aloft))

    one : (first : ℕ) → IsMaintainedFrom t nights days first → 1 ≤ sum_below (λ j. good ((first + j) % length nights)) days
    one first h =
        let here : good ((first + h.after) % length nights) ≡ 1 = ap bit h.maintained in
        omega (arith, here, term_le (λ j. good ((first + j) % length nights)) h.after days h.within)

pub repeated : (p : Night → Bool) (n : ℕ) (x : Night) → count_by p (replicate n x) ≡ n * bit (p x)
repeated p zero x = omega arith
repeated p (suc n) x = let one : suc n * bit (p x) ≡ bit (p x) + n * bit (p x) = more n (bit (p x)) in omega (arith, count_cons p x (replicate n x), repeated p n x, one)
  where
    more : (n k : ℕ) → suc n * k ≡ k + n * k
    more n k = grind arith

-- the nights of a turn at a maintenance station
stood : Tables → ℕ → Connection → ℕ
stood t f turn = if (station_of t (station_at t turn)).maintenance then nights_waited t f turn else 0

there_by_stay : (t : Tables) (f : ℕ) (turn : Connection) → at_maintenance t (night_of_stay t f turn) ≡ (station_of t (station_at t turn)).maintenance
there_by_stay t f turn = by_stay (is_short t f turn)
  where
    by_stay : (b : Bool) → at_maintenance t (if b then night.Short (station_at t turn) else night.At (station_at t turn)) ≡ (station_of t (station_at t turn)).maintenance
    by_stay true = refl
    by_stay false = refl

in_turn : (t : Tables) (f : ℕ) (turn : Connection) → nights_at_maintenance t (nights_in_turn t f turn) ≡ stood t f turn
unfolding stood
in_turn t f turn =
    let parts = count_append (at_maintenance t) (replicate (nights_of t (leg_on turn.arriving f)) night.Aloft) (replicate (nights_waited t f turn) (night_of_stay t f turn)) in
    let aloft = repeated (at_maintenance t) (nights_of t (leg_on turn.arriving f)) night.Aloft in
    let there = repeated (at_maintenance t) (nights_waited t f turn) (night_of_stay t f turn) ∙ ap (λ b. nights_waited t f turn * bit b) (there_by_stay t f turn) in
    let none = times_bit (nights_of t (leg_on turn.arriving f)) false in
    let some = times_bit (nights_waited t f turn) (station_of t (station_at t turn)).maintenance in
    omega (arith, parts, aloft, there, none, some)

in_turns : (t : Tables) (f : ℕ) (turns : List Connection) → nights_at_maintenance t (nights_in_turns t f turns) ≡ sum_below (λ k. stood t f (turn_at turns k)) (length turns)
in_turns t f [] = refl
in_turns t f (turn ∷ turns) =
    let parts = count_append (at_maintenance t) (nights_in_turn t f turn) (nights_in_turns t f turns) in
    omega (arith, parts, in_turn t f turn, in_turns t f turns, shifted (λ k. stood t f (turn_at (turn ∷ turns) k)) (length turns))

-- what counts where a test of the station passes, at the one station
at_station : (m : ℕ → Bool) (p s w : ℕ) → (if m s then (if p == s then w else 0) else 0) ≡ (if p == s then (if m p then w else 0) else 0)
at_station m p s w = by_same (p == s) (λ e. ap m (sym (eqb-true p s e)))
  where
    by_same : (b : Bool) → (b ≡ true → m s ≡ m p) → (if m s then (if b then w else 0) else 0) ≡ (if b then (if m p then w else 0) else 0)
    by_same true h = ap (λ (c : Bool). if c then w else 0) (h refl)
    by_same false h = either (m s)
      where
        either : (c : Bool) → ◌≡◌ {A = ℕ} (if c then 0 else 0) 0
        either true = refl
        either false = refl

sum_where : (b : Bool) (g : ℕ → ℕ) (n : ℕ) → (if b then sum_below g n else 0) ≡ sum_below (λ k. if b then g k else 0) n
sum_where true g n = refl
sum_where false g n = sym (sum_below-zero n)

pub maintained_are_stands : MaintainedAreStands
unfolding stood
maintained_are_stands t a f turns h =
    let m = λ (s : ℕ). (station_of t s).maintenance in
    in_turns t f turns
    ∙ sum_below-agree (λ k. stood t f (turn_at turns k)) (λ k. sum_below (λ s. if m s then nights_there t f turns s k else 0) (stations_in t)) (length turns)
    (record {
      each = λ k lt. sym (
          sum_below-agree (λ s. if m s then nights_there t f turns s k else 0) (λ s. if station_at t (turn_at turns k) == s then stood t f (turn_at turns k) else 0) (stations_in t)
          (record { each = λ s below. at_station m (station_at t (turn_at turns k)) s (nights_waited t f (turn_at turns k)) })
          ∙ sum_below-one (station_at t (turn_at turns k)) (stood t f (turn_at turns k)) (stations_in t) (t.in_range.legs_fit.each (turn_at turns k).arriving no_leg (h.map.each k lt).arriving).to);
    })
    ∙ sum_below-swap (λ k s. if m s then nights_there t f turns s k else 0) (stations_in t) (length turns)
    ∙ sum_below-agree (λ s. sum_below (λ k. if m s then nights_there t f turns s k else 0) (length turns)) (maintained_at t a f) (stations_in t)
    (record { each = λ s below. sym (sum_where (m s) (nights_there t f turns s) (length turns)) ∙ ap (λ n. if m s then n else 0) (nights_are_stands t a f turns s h below) })
