-- The turns of a tour, as those of its legs, and when a list of legs is a kept tour.
use Rattle.std.proofs.Common.{◌≡◌, ◌≢◌, ℕ, suc, ◌+◌, ◌*◌, ◌%◌, ◌<◌, ◌≤◌, true, false, ◌==◌, if◌then◌else◌, List, length, slice_index, refl, sym, ◌∙◌, ap, subst, arith}
use Rattle.std.proofs.lemmas.Nat.{mod_below}
use Rattle.std.proofs.lemmas.Bool.{eq-eqb, eqb-true}
use Rattle.std.proofs.lemmas.Bool.Decides.{nat_tests}
use Rattle.std.proofs.Math.Numerals.{suc-eq-add-one}
use Rattle.sums.specs.Below.{count_below, sum_below}
use Rattle.sums.proofs.Counts.{count_below-none, count_below-some}
use Rattle.sums.proofs.Naturals.{zero_number}
use Rattle.sums.proofs.Places.{get_or-list_below, length-list_below}
use Rattle.sums.proofs.Sums.{sum_below-agree, sum_below-ones}
use Rattle.sums.proofs.Tests.{both_true, by_test, parts_true}
use Rattle.sums.proofs.Turned.{turned}
use Rattle.fleet_model.specs.declared.parts.Connection.{Connection}
use Rattle.fleet_model.specs.declared.tables.Tables.{Tables}
use Rattle.fleet_model.specs.Counts.{choice_at, weights_of}
use Rattle.fleet_model.specs.Schedule.{leg_on, legs_in, period_of}
use Rattle.fleet_model.specs.Use.{stand_of}
use Rattle.fleet_model.specs.Plain.{IsPlain}
use Rattle.lines_of_flying.specs.ground_turns.Maps.{AreClean, Holds, IsSuccessorMap, IsTour, arrivals_of, departures_of, no_turn, turn_after, turn_at, turns_round}
use Rattle.lines_of_flying.specs.ground_turns.Nights.{IsKeptFor, nights_of_tour}
use Rattle.lines_of_flying.specs.ground_turns.Turns.{IsClean, IsTurn, station_at, waits_at}
use Rattle.lines_of_flying.proofs.ground_turns.Fits.{fits_where_clean}
use Rattle.lines_of_flying.proofs.ground_turns.Regroup.{by_places}
use Rattle.euler_rotation.specs.Asked.{AreKnown, AreMet}
use Rattle.euler_rotation.specs.Prefixes.{is_bare_wait, is_clean, meets}
use Rattle.euler_rotation.specs.Tours.{IsKeptTour, IsOrder, times_in}

-- ---- clean turns, tested
pub clean_from : (t : Tables) (a : List ℕ) (f : ℕ) (turn : Connection) → IsClean t a f turn → is_clean t a f turn ≡ true
unfolding is_clean
clean_from t a f turn clean = counted (count_below-none (is_bare_wait t a f turn) (period_of t) (λ m lt. by_test (is_bare_wait t a f turn m) (λ bare. refuted m lt bare) (λ other. other)))
  where
    counted : {n : ℕ} → n ≡ 0 → (n == 0) ≡ true
    counted {n} e = grind (arith, nat_tests)

    refuted : (m : ℕ) → m < period_of t → is_bare_wait t a f turn m ≡ true → is_bare_wait t a f turn m ≡ false
    refuted m lt bare =
        let parts = parts_true (waits_at t f turn m) (stand_of t (weights_of a) f (station_at t turn) m == 0) bare in
        absurd (clean.each m lt parts.0 (zero_number (stand_of t (weights_of a) f (station_at t turn) m) parts.1))

pub clean_to : (t : Tables) (a : List ℕ) (f : ℕ) (turn : Connection) → is_clean t a f turn ≡ true → IsClean t a f turn
unfolding is_clean
clean_to t a f turn clean = record { each = each }
  where
    none : count_below (is_bare_wait t a f turn) (period_of t) ≡ 0
    none = zero_number (count_below (is_bare_wait t a f turn) (period_of t)) clean

    refuted : (n : ℕ) → 1 ≤ n → n ≡ 0 → ⊥
    refuted n some none = omega arith

    each : (m : ℕ) → m < period_of t → waits_at t f turn m ≡ true → stand_of t (weights_of a) f (station_at t turn) m ≢ 0
    each m lt waits bare =
        let some = count_below-some (is_bare_wait t a f turn) (period_of t) m lt (both_true (waits_at t f turn m) (stand_of t (weights_of a) f (station_at t turn) m == 0) waits (eq-eqb _ _ bare)) in
        refuted (count_below (is_bare_wait t a f turn) (period_of t)) some none

-- ---- the turns of a tour
pub length_round : (legs : List ℕ) → length (turns_round legs) ≡ length legs
length_round legs = length-list_below (turn_after legs) (length legs)

pub turn_round : (legs : List ℕ) (k : ℕ) → k < length legs → turn_at (turns_round legs) k ≡ turn_after legs k
turn_round legs k lt = get_or-list_below (turn_after legs) (length legs) k no_turn lt

-- a sum over the turns
over_round : (legs : List ℕ) (g : Connection → ℕ) → sum_below (λ k. g (turn_at (turns_round legs) k)) (length (turns_round legs)) ≡ sum_below (λ k. g (turn_after legs k)) (length legs)
over_round legs g =
    ap (sum_below (λ k. g (turn_at (turns_round legs) k))) (length_round legs)
    ∙ sum_below-agree (λ k. g (turn_at (turns_round legs) k)) (λ k. g (turn_after legs k)) (length legs) (record { each = λ k lt. ap g (turn_round legs k lt) })

pub arrivals_round : (legs : List ℕ) (l : ℕ) → arrivals_of (turns_round legs) l ≡ times_in legs l
arrivals_round legs l = over_round legs (λ turn. if turn.arriving == l then 1 else 0)

pub departures_round : (legs : List ℕ) (l : ℕ) → departures_of (turns_round legs) l ≡ times_in legs l
departures_round legs l =
    over_round legs (λ turn. if turn.departing == l then 1 else 0)
    ∙ sum_below-agree (λ k. one (suc k % length legs)) (λ k. one ((k + 1) % length legs)) (length legs) (record { each = λ k lt. ap (λ i. one (i % length legs)) (suc-eq-add-one k) })
    ∙ turned one (length legs) 1
  where
    one : ℕ → ℕ
    one k = if slice_index legs k == l then 1 else 0

next_within : (n k : ℕ) → 0 < n → suc k % n < n
next_within n k some = mod_below (suc k) n some

-- a weight above 0 is of a leg of the fleet
own_weight : (a : List ℕ) (f l : ℕ) → 1 ≤ weights_of a (leg_on l f) → choice_at a l ≡ f
own_weight a f l some = by_test (choice_at a l == f) (λ own. eqb-true _ _ own) (λ other. absurd (none (weights_of a (leg_on l f)) some (ap (λ b. if b then 1 else 0) other)))
  where
    none : (n : ℕ) → 1 ≤ n → n ≡ 0 → ⊥
    none n some e = omega arith

module _ (t : Tables) (a : List ℕ) (f : ℕ) where
  -- a leg of an order is the fleet's
  pub own_leg : (order : List ℕ) → IsOrder t a f order → (k : ℕ) → k < length order → choice_at a (slice_index order k) ≡ f
  own_leg order is k lt =
      let l = slice_index order k in
      let some = count_below-some (λ j. slice_index order j == l) (length order) k lt (eq-eqb _ _ refl) in
      own_weight a f l (omega (arith, some, is.once l (is.known k lt)))

  -- the legs of an order are as many as the fleet's
  counted : (order : List ℕ) → IsOrder t a f order → length order ≡ sum_below (λ l. weights_of a (leg_on l f) * 1) (legs_in t)
  counted order is =
      sym (sum_below-ones (length order)) ∙ by_places (slice_index order) (λ l. 1) (legs_in t) (length order) is.known
      ∙ sum_below-agree (λ l. times_in order l * 1) (λ l. weights_of a (leg_on l f) * 1) (legs_in t) (record { each = λ l lt. ap (λ n. n * 1) (is.once l lt) })

  pub same_length : (xs ys : List ℕ) → IsOrder t a f xs → IsOrder t a f ys → length xs ≡ length ys
  same_length xs ys first second = counted xs first ∙ sym (counted ys second)

  -- ---- the parts of a tour
  module _ (legs : List ℕ) (tour : IsTour t a f legs) where
    turn_of : (k : ℕ) → k < length legs → IsTurn t a f (turn_after legs k)
    turn_of k lt = subst (IsTurn t a f) (turn_round legs k lt) (tour.fitting.map.each k (omega (arith, length_round legs)))

    pub tour_known : AreKnown t legs
    tour_known = record { each = λ k lt. (turn_of k lt).arriving }

    pub tour_order : IsOrder t a f legs
    tour_order = record { known = tour_known.each; once = λ l lt. sym (arrivals_round legs l) ∙ tour.fitting.map.arrives l lt }

    pub tour_met : AreMet t a f legs (length legs)
    tour_met = record {
      each = λ k lt. both_true (meets t (turn_after legs k)) (is_clean t a f (turn_after legs k)) (eq-eqb _ _ (turn_of k lt).meets)
          (clean_from t a f (turn_after legs k) (subst (IsClean t a f) (turn_round legs k lt) (clean.each k (omega (arith, length_round legs)))));
    }
      where
        clean : AreClean t a f (turns_round legs)
        clean = (fits_where_clean t a f (turns_round legs) tour.fitting.map).0 tour.fitting

  -- ---- and a tour of its parts
  pub tour_from : IsPlain t → (legs : List ℕ) → 0 < length legs → AreMet t a f legs (length legs) → IsOrder t a f legs → IsTour t a f legs
  tour_from plain legs some met order = record { some = some; fitting = (fits_where_clean t a f (turns_round legs) map).1 clean }
    where
      parts : (k : ℕ) → k < length legs → (meets t (turn_after legs k) ≡ true) × (is_clean t a f (turn_after legs k) ≡ true)
      parts k lt = parts_true (meets t (turn_after legs k)) (is_clean t a f (turn_after legs k)) (met.each k lt)

      turn : (k : ℕ) → k < length legs → IsTurn t a f (turn_after legs k)
      turn k lt = record {
        arriving = order.known k lt;
        departing = order.known (suc k % length legs) (next_within (length legs) k some);
        comes_on = own_leg legs order k lt;
        leaves_on = own_leg legs order (suc k % length legs) (next_within (length legs) k some);
        meets = eqb-true _ _ (parts k lt).0;
      }

      map : IsSuccessorMap t a f (turns_round legs)
      map = record {
        plain = plain;
        each = λ k lt. let low : k < length legs = omega (arith, length_round legs) in subst (IsTurn t a f) (sym (turn_round legs k low)) (turn k low);
        arrives = λ l lt. arrivals_round legs l ∙ order.once l lt;
        departs = λ l lt. departures_round legs l ∙ order.once l lt;
      }

      clean : AreClean t a f (turns_round legs)
      clean = record {
        each = λ k lt. let low : k < length legs = omega (arith, length_round legs) in subst (IsClean t a f) (sym (turn_round legs k low)) (clean_to t a f (turn_after legs k) (parts k low).1);
      }

  pub kept_from : IsPlain t → (pairs : List Connection) (days : ℕ) (legs : List ℕ) → 0 < length legs → AreMet t a f legs (length legs)
      → IsKeptFor t (nights_of_tour t f legs) days → Holds (turns_round legs) pairs → IsOrder t a f legs → IsKeptTour t a f pairs days legs
  kept_from plain pairs days legs some met kept holds order = record { tour = tour_from plain legs some met order; holds = holds; kept = kept }
