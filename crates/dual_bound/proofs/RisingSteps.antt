-- What steps that rise say at a moment.
use Rattle.std.proofs.Common.{◌≡◌, ℕ, zero, suc, ◌+◌, ◌-◌, ◌<◌, ◌≤◌, Bool, true, false, ◌==◌, ◌&&◌, ◌||◌, nat_le, nat_lt, if◌then◌else◌, List, [], ◌∷◌, length, slice_index_or, IsTrue, ℤ, pos, refl, sym, ◌∙◌, ap, inl, inr, arith}
use Rattle.std.proofs.lemmas.List.{get_or_default}
use mathlib.Core.Bool.{false≢true}
use Rattle.std.specs.List.{IsAllAdjacentAnswer}
use Rattle.std.specs.List.Sorted.{IsPartitionedBy}
use Rattle.std.proofs.lemmas.Bool.{cases_lt, ltb-true}
use Rattle.std.proofs.lemmas.Bool.Decides.{nat_tests}
use Rattle.sums.proofs.NumberTests.{greater_differs, less_differs}
use Rattle.dual_bound.specs.Prices.{price_after, rent_of, step_has_come}
use Rattle.dual_bound.specs.Rising.{AreOfOthers, IsPartingSteps, IsUnpricedFleet, StepsRise, is_by, no_step, said_before, step_before}
use Rattle.dual_bound.specs.declared.prices.PriceStep.{PriceStep}
use Rattle.dual_bound.specs.declared.prices.Prices.{Prices}

-- an order by a number, and then by what else is told
by_number : ℕ → ℕ → Bool → Bool
by_number x y rest = nat_lt x y || ((x == y) && rest)

chained : (x y z : ℕ) (p q r : Bool) → (p ≡ true → q ≡ true → r ≡ true) → by_number x y p ≡ true → by_number y z q ≡ true → by_number x z r ≡ true
unfolding by_number
chained x y z p q true rest first second = grind (arith, nat_tests)
chained x y z true true false rest first second = absurd (false≢true (rest refl refl))
chained x y z true false false rest first second = grind (arith, nat_tests)
chained x y z false q false rest first second = grind (arith, nat_tests)

minutes_chained : (x y z : ℕ) → nat_lt x y ≡ true → nat_lt y z ≡ true → nat_lt x z ≡ true
minutes_chained x y z first second = grind (arith, nat_tests)

by_minute : (x y z : ℕ) → nat_lt x y ≡ true → nat_le y z ≡ true → nat_le x z ≡ true
by_minute x y z first second = grind (arith, nat_tests)

-- the order of steps is transitive
before_trans : (a b c : PriceStep) → step_before a b ≡ true → step_before b c ≡ true → step_before a c ≡ true
unfolding by_number
before_trans a b c first second =
    chained a.fleet b.fleet c.fleet _ _ _ (chained a.station b.station c.station _ _ _ (minutes_chained a.minute b.minute c.minute)) first second

-- each step comes before the next one
pub record RiseByStep (steps : List PriceStep) : Type 0 where
  pub each : (k next : ℕ) → next ≡ k + 1 → next < length steps → step_before (slice_index_or steps k no_step) (slice_index_or steps next no_step) ≡ true

-- so it comes before all those after it
pub rise_from_steps : (steps : List PriceStep) → RiseByStep steps → StepsRise steps
rise_from_steps steps next i zero earlier within = absurd (omega arith)
rise_from_steps steps next i (suc j) earlier within = elim (cases_lt i j) [
  | inl before ↦ before_trans (slice_index_or steps i no_step) (slice_index_or steps j no_step) (slice_index_or steps (suc j) no_step)
      (rise_from_steps steps next i j before (omega arith)) (next.each j (suc j) (omega arith) within)
  | inr after ↦ next.each i (suc j) (omega arith) within
]

-- what a test of neighbors says
pub steps_from_answer : (steps : List PriceStep) (rising : Bool) → IsAllAdjacentAnswer (λ a b answer. answer ≡ step_before a b) steps rising → IsTrue rising → RiseByStep steps
steps_from_answer steps true answer holds = record { each = λ k next follows within. rw follows (sym (answer k no_step (omega arith))) }
steps_from_answer steps false answer holds = absurd (false≢true holds)

-- a step that comes before one at a moment or before it is so too
by_earlier : (a b : PriceStep) (f s m : ℕ) → step_before a b ≡ true → is_by f s m b ≡ true → is_by f s m a ≡ true
unfolding by_number
by_earlier a b f s m before by =
    chained a.fleet b.fleet f _ _ _ (chained a.station b.station s _ _ _ (by_minute a.minute b.minute m)) before by

-- a step that is not yet by a moment has not come
late : (step : PriceStep) (f s m : ℕ) → is_by f s m step ≡ false → step_has_come step f s m ≡ false
late step f s m e = grind (arith, nat_tests)

-- a step of the place that is by the moment has come
come : (step : PriceStep) (f s m : ℕ) → is_by f s m step ≡ true → ((step.fleet == f) && (step.station == s)) ≡ true → step_has_come step f s m ≡ true
come step f s m e here = grind (arith, nat_tests)

-- a step of another place has not come, and neither has one before it, where it is by the moment
elsewhere : (step : PriceStep) (f s m : ℕ) → ((step.fleet == f) && (step.station == s)) ≡ false → step_has_come step f s m ≡ false
elsewhere step f s m other = grind (arith, nat_tests)

passed : (a b : PriceStep) (f s m : ℕ) → step_before a b ≡ true → is_by f s m b ≡ true → ((b.fleet == f) && (b.station == s)) ≡ false → step_has_come a f s m ≡ false
passed a b f s m before by other = grind (arith, nat_tests)

-- steps of which none has come leave the price
pub record NoneCome (steps : List PriceStep) (f s m : ℕ) : Type 0 where
  pub each : (k : ℕ) → k < length steps → step_has_come (slice_index_or steps k no_step) f s m ≡ false

pub none_says : (steps : List PriceStep) (v : ℤ) (f s m : ℕ) → NoneCome steps f s m → price_after v steps f s m ≡ v
unfolding price_after
none_says [] v f s m none = refl
none_says (step ∷ steps) v f s m none =
    let here : step_has_come step f s m ≡ false = none.each 0 (omega arith) in
    rw here (none_says steps v f s m (record { each = λ k below. none.each (suc k) (omega arith) }))

-- the last step that has come says the price
pub record IsLast (steps : List PriceStep) (f s m place : ℕ) : Type 0 where
  pub within : place < length steps
  pub come : step_has_come (slice_index_or steps place no_step) f s m ≡ true
  pub later : (k : ℕ) → place < k → k < length steps → step_has_come (slice_index_or steps k no_step) f s m ≡ false

pub last_says : (steps : List PriceStep) (v : ℤ) (f s m place : ℕ) → IsLast steps f s m place → price_after v steps f s m ≡ (slice_index_or steps place no_step).value
unfolding price_after
last_says [] v f s m place last = absurd (omega (arith, last.within))
last_says (step ∷ steps) v f s m zero last =
    let here : step_has_come step f s m ≡ true = last.come in
    rw here (none_says steps step.value f s m (record { each = λ k below. last.later (suc k) (omega arith) (omega arith) }))
last_says (step ∷ steps) v f s m (suc place) last =
    last_says steps (if step_has_come step f s m then step.value else v) f s m place
    (record { within = omega (arith, last.within); come = last.come; later = λ k above below. last.later (suc k) (omega arith) (omega arith) })

-- steps that rise are parted by a moment
pub parted : (steps : List PriceStep) (f s m : ℕ) → StepsRise steps → (i j : ℕ) → i ≤ j → j < length steps
    → is_by f s m (slice_index_or steps j no_step) ≡ true → is_by f s m (slice_index_or steps i no_step) ≡ true
parted steps f s m rise i j le within by = elim (cases_lt i j) [
  | inl before ↦ by_earlier (slice_index_or steps i no_step) (slice_index_or steps j no_step) f s m (rise i j before within) by
  | inr after ↦ let same : i ≡ j = omega arith in rw same by
]

-- so `partition_point` finds where
pub partitioned : (steps : List PriceStep) (f s m : ℕ) → StepsRise steps → IsPartitionedBy (is_by f s m) steps
partitioned steps f s m rise i j d le within by =
    ap (is_by f s m) (get_or_default steps i d no_step (omega arith))
    ∙ parted steps f s m rise i j le within (ap (is_by f s m) (sym (get_or_default steps j d no_step within)) ∙ by)

-- what stands before the parting place says the price
pub price_at_parting : (steps : List PriceStep) (f s m place : ℕ) → StepsRise steps → IsPartingSteps steps f s m place → price_after (pos 0) steps f s m ≡ said_before steps place f s
price_at_parting steps f s m zero rise part =
    none_says steps (pos 0) f s m (record { each = λ k below. late (slice_index_or steps k no_step) f s m (part.after k (omega arith) below) })
price_at_parting steps f s m (suc place) rise part =
    let some : (suc place == 0) ≡ false = grind (arith, nat_tests) in
    let before : suc place - 1 ≡ place = omega arith in
    rw (some, before) (by_test (slice_index_or steps place no_step) (((slice_index_or steps place no_step).fleet == f) && ((slice_index_or steps place no_step).station == s)) refl refl)
  where
    by_test : (step : PriceStep) (b : Bool) → slice_index_or steps place no_step ≡ step → ((step.fleet == f) && (step.station == s)) ≡ b
        → price_after (pos 0) steps f s m ≡ (if b then step.value else pos 0)
    by_test step true is here =
        last_says steps (pos 0) f s m place (record {
          within = omega (arith, part.within);
          come = rw is (come step f s m (rw is at (part.before place (omega arith))) here);
          later = λ k above below. late (slice_index_or steps k no_step) f s m (part.after k (omega arith) below);
        })
        ∙ ap (λ x. x.value) is
    by_test step false is here = none_says steps (pos 0) f s m (record {
      each = λ k below. elim (cases_lt k place) [
        | inl early ↦ passed (slice_index_or steps k no_step) step f s m (rw is at (rise k place early (omega (arith, part.within)))) (rw is at (part.before place (omega arith))) here
        | inr other ↦ elim (cases_lt place k) [
          | inl above ↦ late (slice_index_or steps k no_step) f s m (part.after k (omega arith) below)
          | inr under ↦ let same : k ≡ place = omega arith in rw (same, is) (elsewhere step f s m here)
        ]
      ];
    })

-- a step stands by its own minute, and one before it does so too, and by the minute before
by_itself : (a : PriceStep) → is_by a.fleet a.station a.minute a ≡ true
by_itself a = grind (arith, nat_tests)

by_next : (a b : PriceStep) → step_before a b ≡ true → is_by b.fleet b.station b.minute a ≡ true
by_next a b before = grind (arith, nat_tests)

by_minute_before : (a b : PriceStep) (m : ℕ) → m + 1 ≡ b.minute → step_before a b ≡ true → is_by b.fleet b.station m a ≡ true
by_minute_before a b m next before = grind (arith, nat_tests)

-- a step does not stand by the minute before its own, nor does one behind it by its minute
not_minute_before : (a : PriceStep) (m : ℕ) → m < a.minute → is_by a.fleet a.station m a ≡ false
not_minute_before a m earlier = grind (arith, nat_tests)

not_by_earlier : (a b : PriceStep) (m : ℕ) → m ≤ a.minute → step_before a b ≡ true → is_by a.fleet a.station m b ≡ false
not_by_earlier a b m least before = grind (arith, nat_tests)

-- so the price where a step stands is what it says
pub own_price : (steps : List PriceStep) (place : ℕ) → StepsRise steps → place < length steps
    → price_after (pos 0) steps (slice_index_or steps place no_step).fleet (slice_index_or steps place no_step).station (slice_index_or steps place no_step).minute ≡ (slice_index_or steps place no_step).value
own_price steps place rise within = at_step (slice_index_or steps place no_step) refl
  where
    at_step : (step : PriceStep) → slice_index_or steps place no_step ≡ step → price_after (pos 0) steps step.fleet step.station step.minute ≡ step.value
    at_step step is =
        last_says steps (pos 0) step.fleet step.station step.minute place (record {
          within = within;
          come = rw is (come step step.fleet step.station step.minute (by_itself step) (grind (arith, nat_tests)));
          later = λ k above below. late (slice_index_or steps k no_step) step.fleet step.station step.minute
              (not_by_earlier step (slice_index_or steps k no_step) step.minute (omega arith) (rw is at (rise place k above below)));
        })
        ∙ ap (λ x. x.value) is

-- and a minute before it is what the step before it says of its place
pub earlier_price : (steps : List PriceStep) (place : ℕ) → StepsRise steps → place < length steps → 0 < (slice_index_or steps place no_step).minute
    → price_after (pos 0) steps (slice_index_or steps place no_step).fleet (slice_index_or steps place no_step).station ((slice_index_or steps place no_step).minute - 1)
    ≡ said_before steps place (slice_index_or steps place no_step).fleet (slice_index_or steps place no_step).station
earlier_price steps place rise within some = at_step (slice_index_or steps place no_step) refl some
  where
    at_step : (step : PriceStep) → slice_index_or steps place no_step ≡ step → 0 < step.minute
        → price_after (pos 0) steps step.fleet step.station (step.minute - 1) ≡ said_before steps place step.fleet step.station
    at_step step is some = price_at_parting steps step.fleet step.station (step.minute - 1) place rise (record {
      within = omega (arith, within);
      before = λ k below. by_minute_before (slice_index_or steps k no_step) step (step.minute - 1) (omega arith) (rw is at (rise k place below within));
      after = λ k above below. elim (cases_lt place k) [
        | inl behind ↦ not_by_earlier step (slice_index_or steps k no_step) (step.minute - 1) (omega arith) (rw is at (rise place k behind below))
        | inr here ↦ let same : k ≡ place = omega arith in rw (same, is) (not_minute_before step (step.minute - 1) (omega arith))
      ];
    })

-- steps of other fleets alone say nothing of a fleet
not_of : (step : PriceStep) (f s m : ℕ) → (step.fleet == f) ≡ false → step_has_come step f s m ≡ false
not_of step f s m other = grind (arith, nat_tests)

pub others_say_nothing : (steps : List PriceStep) (f s m : ℕ) → AreOfOthers steps f → price_after (pos 0) steps f s m ≡ pos 0
others_say_nothing steps f s m others = none_says steps (pos 0) f s m (record { each = λ k below. not_of (slice_index_or steps k no_step) f s m (others.each k below) })

fleet_rises : (a b : PriceStep) → step_before a b ≡ true → a.fleet ≤ b.fleet
fleet_rises a b before = grind (arith, nat_tests)

pub others_of_none : (steps : List PriceStep) (f : ℕ) → length steps ≡ 0 → AreOfOthers steps f
others_of_none steps f none = record { each = λ k below. absurd (omega arith) }

-- a fleet before that of the first step, and one behind that of the last
pub others_before : (steps : List PriceStep) (f : ℕ) → StepsRise steps → f < (slice_index_or steps 0 no_step).fleet → AreOfOthers steps f
others_before steps f rise below = record { each = each }
  where
    each : (k : ℕ) → k < length steps → ((slice_index_or steps k no_step).fleet == f) ≡ false
    each zero within = greater_differs _ f below
    each (suc k) within = greater_differs _ f (omega (arith, below, fleet_rises (slice_index_or steps 0 no_step) (slice_index_or steps (suc k) no_step) (rise 0 (suc k) (omega arith) within)))

pub others_after : (steps : List PriceStep) (f : ℕ) → StepsRise steps → 0 < length steps → IsTrue (nat_lt (slice_index_or steps (length steps - 1) no_step).fleet f) → AreOfOthers steps f
others_after steps f rise some above = behind (length steps - 1) (omega arith) (ltb-true _ _ above)
  where
    behind : (last : ℕ) → last + 1 ≡ length steps → (slice_index_or steps last no_step).fleet < f → AreOfOthers steps f
    behind last ends above = record {
      each = λ k within. elim (cases_lt k last) [
        | inl earlier ↦ less_differs _ f (omega (arith, above, fleet_rises (slice_index_or steps k no_step) (slice_index_or steps last no_step) (rise k last earlier (omega arith))))
        | inr here ↦ let same : k ≡ last = omega arith in rw same (less_differs _ f above)
      ];
    }

-- a fleet without rent and without steps
pub idle : (prices : Prices) (f : ℕ) → rent_of prices f ≡ pos 0 → AreOfOthers prices.steps f → IsUnpricedFleet prices f
idle prices f rent others = record { rent = rent; each = λ s m. others_say_nothing prices.steps f s m others }
