-- Segments between minutes at whose end none stands tell clean turns.
use Rattle.std.proofs.Common.{◌≡◌, ◌≢◌, ℕ, zero, suc, ◌<◌, Bool, true, false, ◌==◌, ◌&&◌, ◌||◌, if◌then◌else◌, IsTrue, nat_lt, [], ◌∷◌, refl, sym, ◌∙◌, ap, subst, inl, inr, arith}
use Rattle.std.specs.List.{filter}
use Rattle.std.proofs.lemmas.List.Elements.{filter-append}
use Rattle.std.proofs.lemmas.List.Folds.{list_any-append}
use Rattle.std.proofs.lemmas.Bool.{cases_eq, eqb-false}
use Rattle.std.proofs.lemmas.Bool.Decides.{nat_tests}
use Rattle.std.proofs.Math.Numerals.{suc-eq-add-one}
use Rattle.sums.specs.Places.{list_below}
use Rattle.sums.proofs.Places.{list_below-more}
use Rattle.fleet_model.specs.Counts.{weights_of}
use Rattle.fleet_model.specs.Use.{stand_of}
use Rattle.fleet_model.specs.Schedule.{period_of}
use Rattle.lines_of_flying.specs.ground_turns.Laws.{SegmentsTellClean}
use Rattle.lines_of_flying.specs.ground_turns.Segments.{is_minute_among, span_of}
use Rattle.lines_of_flying.specs.ground_turns.Turns.{departs_at, minutes_round, ready_at, station_at, waits_at}

is_some : (n : ℕ) → n ≢ 0 → (n == 0) ≡ false
is_some n h = grind (arith, nat_tests)

pub segments_tell_clean : SegmentsTellClean
segments_tell_clean t a f turn minutes numbers bare whole ends = (
  λ none. record {
    each = λ m moment waits.
        eqb-false (stand_of t (weights_of a) f (station_at t turn) m) 0 (sym (bare.each m moment) ∙ sym (ends.each m (within m moment)) ∙ none.each m (within m moment) (turned m waits));
  },
  λ clean. record {
    each = λ m lt waits.
        ends.each m lt ∙ bare.each m (below m lt) ∙ is_some (stand_of t (weights_of a) f (station_at t turn) m) (clean.each m (below m lt) (back m waits));
  },
)
  where
    within : (m : ℕ) → m < period_of t → m < span_of numbers
    within m moment = subst (λ n. m < n) (sym whole) moment

    below : (m : ℕ) → m < span_of numbers → m < period_of t
    below m lt = subst (λ n. m < n) whole lt

    turned : (m : ℕ) → IsTrue (waits_at t f turn m)
        → IsTrue (nat_lt (minutes_round (span_of numbers) (ready_at t f turn) m) (minutes_round (span_of numbers) (ready_at t f turn) (departs_at t f turn)))
    turned m waits = subst (λ n. IsTrue (nat_lt (minutes_round n (ready_at t f turn) m) (minutes_round n (ready_at t f turn) (departs_at t f turn)))) (sym whole) waits

    back : (m : ℕ) → IsTrue (nat_lt (minutes_round (span_of numbers) (ready_at t f turn) m) (minutes_round (span_of numbers) (ready_at t f turn) (departs_at t f turn)))
        → IsTrue (waits_at t f turn m)
    back m waits = subst (λ n. IsTrue (nat_lt (minutes_round n (ready_at t f turn) m) (minutes_round n (ready_at t f turn) (departs_at t f turn)))) whole waits

-- what one number more brings
last_among : (p : ℕ → Bool) (n m : ℕ) → is_minute_among (filter p (n ∷ [])) m ≡ (p n && (n == m))
last_among p n m = by_last (p n)
  where
    by_last : (b : Bool) → is_minute_among (if b then n ∷ [] else []) m ≡ (b && (n == m))
    by_last true = grind (arith, nat_tests)
    by_last false = refl

both_kinds : (b c : Bool) (n m : ℕ) → (n ≡ m → b ≡ c) → ((nat_lt m n && c) || (b && (n == m))) ≡ (nat_lt m (suc n) && c)
both_kinds b c n m h = elim (cases_eq n m) [
  | inl same ↦ here b c n m (h same) same
  | inr other ↦ apart b c n m other
]
  where
    here : (b c : Bool) (n m : ℕ) → b ≡ c → n ≡ m → ((nat_lt m n && c) || (b && (n == m))) ≡ (nat_lt m (suc n) && c)
    here b c n m e g = grind (arith, nat_tests)

    apart : (b c : Bool) (n m : ℕ) → n ≢ m → ((nat_lt m n && c) || (b && (n == m))) ≡ (nat_lt m (suc n) && c)
    apart b c n m g = grind (arith, nat_tests)

among_below : (p : ℕ → Bool) (n m : ℕ) → is_minute_among (filter p (list_below (λ k. k) n)) m ≡ (nat_lt m n && p m)
among_below p zero m = grind (arith, nat_tests)
among_below p (suc n) m =
    ap (λ k. is_minute_among (filter p (list_below (λ j. j) k)) m) (suc-eq-add-one n)
    ∙ ap (λ xs. is_minute_among (filter p xs) m) (list_below-more (λ k. k) n)
    ∙ ap (λ xs. is_minute_among xs m) (filter-append p (list_below (λ k. k) n) (n ∷ []))
    ∙ list_any-append (λ k. k == m) (filter p (list_below (λ k. k) n)) (filter p (n ∷ []))
    ∙ ap (λ b. b || is_minute_among (filter p (n ∷ [])) m) (among_below p n m)
    ∙ ap (λ b. (nat_lt m n && p m) || b) (last_among p n m)
    ∙ both_kinds (p n) (p m) n m (ap p)

-- a number below n is among those that pass exactly where it passes
pub among_filtered : (p : ℕ → Bool) (n m : ℕ) → m < n → is_minute_among (filter p (list_below (λ k. k) n)) m ≡ p m
among_filtered p n m lt = among_below p n m ∙ within (p m)
  where
    within : (b : Bool) → (nat_lt m n && b) ≡ b
    within b = grind (arith, nat_tests)
