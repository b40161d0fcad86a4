-- A matching of the legs that is worth most has none but clean turns.
use Rattle.std.proofs.Common.{◌≡◌, ◌≢◌, ℕ, zero, suc, ◌+◌, ◌*◌, ◌<◌, ◌≤◌, ◌==◌, if◌then◌else◌, List, length, sym, ◌∙◌, ap, subst, inl, inr, arith}
use Rattle.std.proofs.lemmas.Bool.{cases_eq}
use Rattle.std.proofs.lemmas.Bool.Decides.{nat_tests}
use Rattle.sums.specs.Below.{sum_below}
use Rattle.sums.proofs.Sums.{sum_below-add, sum_below-bound, sum_below-le, sum_below-one}
use Rattle.plan_rotations.specs.best_matching.Worths.{AreDuals, AreTight, IsOneToOne, worth_at}
use Rattle.plan_rotations.proofs.best_matching.DualLaws.{none_more}
use Rattle.fleet_model.specs.declared.limits.TheConstants.{MAX_LEGS}
use Rattle.fleet_model.specs.declared.tables.Tables.{Tables}
use Rattle.fleet_model.specs.Counts.{choice_at}
use Rattle.fleet_model.specs.Schedule.{legs_in}
use Rattle.plan_rotations.specs.declared.through_flights.worths.TheConstants.{CLEAN_WORTH, MAX_VALUE}
use Rattle.plan_rotations.specs.through_flights.Worths.{AreTurnWorths, IsTurnWorth, through_pair}
use Rattle.plan_rotations.proofs.through_flights.Followers.{AreFollowers, GoesOn}

constant : (c n : ℕ) → sum_below (λ k. c) n ≡ n * c
constant c zero = omega arith
constant c (suc n) = omega (arith, constant c n)

-- terms that are 0 or pass a mark, by less in sum than the mark, and come to as many marks in sum
pub all_reach : (x : ℕ → ℕ) (n mark most : ℕ) → ((k : ℕ) → k < n → x k ≤ mark + most) → n * most < mark + most → n * mark ≤ sum_below x n
    → (k : ℕ) → k < n → x k ≢ 0
all_reach x n mark most small few reached k lt none =
    let parts = sum_below-add x (λ j. if k == j then mark + most else 0) n in
    let one = sum_below-one k (mark + most) n lt in
    let bound = sum_below-bound (λ j. x j + (if k == j then mark + most else 0)) (mark + most) n
    (record { each = λ j j_lt. at_place k j (x j) (mark + most) (λ same. ap x (sym same) ∙ none) (small j j_lt) }) in
    clash (sum_below x n) n mark most _ _ parts one bound reached few
  where
    at_place : (k j x most : ℕ) → (k ≡ j → x ≡ 0) → x ≤ most → x + (if k == j then most else 0) ≤ most
    at_place k j x most none small = elim (cases_eq k j) [ inl same ↦ let zero = none same in here k j x most same zero | inr other ↦ there k j x most other small ]
      where
        here : (k j x most : ℕ) → k ≡ j → x ≡ 0 → x + (if k == j then most else 0) ≤ most
        here k j x most e z = grind (arith, nat_tests)

        there : (k j x most : ℕ) → k ≢ j → x ≤ most → x + (if k == j then most else 0) ≤ most
        there k j x most e le = grind (arith, nat_tests)

    clash : (sum n mark most all one : ℕ) → all ≡ sum + one → one ≡ mark + most → all ≤ n * (mark + most) → n * mark ≤ sum → n * most < mark + most → ⊥
    clash sum n mark most all one e f le reached few = omega arith

few_values : (n : ℕ) → n ≤ MAX_LEGS → n * MAX_VALUE < CLEAN_WORTH + MAX_VALUE
few_values n le = omega arith

-- some map has none but clean turns, so a best one is worth as much
pub all_clean : (t : Tables) (a : List ℕ) (f : ℕ) (worths : List (List ℕ)) (rows columns next follower : ℕ → ℕ) → AreTurnWorths t a f worths
    → IsOneToOne next (length worths) → AreDuals worths rows columns → AreTight worths rows columns next (length worths) → AreFollowers t a f follower
    → (leg : ℕ) → leg < legs_in t → worth_at worths leg (next leg) ≢ 0
all_clean t a f worths rows columns next follower w one duals tight known leg lt =
    all_reach (λ l. worth_at worths l (next l)) (legs_in t) CLEAN_WORTH MAX_VALUE
    (λ l l_lt. (w.each l (next l) l_lt (next_within l l_lt)).most)
    (few_values (legs_in t) t.in_range.legs_fit.few) reached leg lt
  where
    next_within : (l : ℕ) → l < legs_in t → next l < legs_in t
    next_within l lt = subst (λ n. next l < n) w.size (one.within l (subst (λ n. l < n) (sym w.size) lt))

    clean_worth : (l : ℕ) → l < legs_in t → CLEAN_WORTH ≤ worth_at worths l (follower l)
    clean_worth l lt = elim (cases_eq (choice_at a l) f) [
      | inl own ↦ (w.each l (follower l) lt (known.one_to_one.within l lt)).clean ((known.each l lt).own own)
      | inr ne ↦ equal _ _ ((w.each l (follower l) lt (known.one_to_one.within l lt)).idle (record { other = ne; itself = (known.each l lt).other ne }))
    ]
      where
        equal : (x y : ℕ) → x ≡ y → y ≤ x
        equal x y e = omega arith

    reached : legs_in t * CLEAN_WORTH ≤ sum_below (λ l. worth_at worths l (next l)) (legs_in t)
    reached =
        let most = none_more worths rows columns next follower one (subst (IsOneToOne follower) (sym w.size) known.one_to_one) duals tight in
        let here = subst (λ n. sum_below (λ l. worth_at worths l (follower l)) n ≤ sum_below (λ l. worth_at worths l (next l)) n) w.size most in
        let least = sum_below-le (λ l. CLEAN_WORTH) (λ l. worth_at worths l (follower l)) (legs_in t) (record { each = λ l l_lt. clean_worth l l_lt }) in
        chain _ _ _ _ (constant CLEAN_WORTH (legs_in t)) least here
      where
        chain : (a b c d : ℕ) → a ≡ b → a ≤ c → c ≤ d → b ≤ d
        chain a b c d e p q = omega arith

-- so each leg of the fleet goes on in a clean turn
pub goes_on : (t : Tables) (a : List ℕ) (f : ℕ) (pair_worth leg next : ℕ) → IsTurnWorth t a f (through_pair leg next) pair_worth → pair_worth ≢ 0 → GoesOn t a f leg next
goes_on t a f pair_worth leg next w some = elim w.known [
  | inl none ↦ absurd (some none)
  | inr rest ↦ elim rest [
    | inl idle ↦ record { own = λ own. absurd (idle.other own); other = λ _. idle.itself }
    | inr clean ↦ record { own = λ _. clean; other = λ ne. absurd (ne clean.turn.comes_on) }
  ]
]
