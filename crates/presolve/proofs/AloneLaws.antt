-- The aircraft that legs without a choice keep busy, with a pair and without it.
use Rattle.std.proofs.Common.{◌≡◌, ◌≢◌, ℕ, ◌+◌, ◌*◌, ◌<◌, ◌≤◌, Bool, true, false, ◌==◌, ◌&&◌, if◌then◌else◌, refl, ap, sym, ◌∙◌, inl, inr, arith}
use Rattle.std.proofs.lemmas.Bool.Decides.{nat_tests}
use Rattle.sums.specs.Below.{sum_below}
use Rattle.sums.proofs.Counts.{count_below-none, count_below-one, find_below}
use Rattle.sums.proofs.NumberTests.{if_below}
use Rattle.sums.proofs.OneChanged.{sum_below-more}
use Rattle.sums.proofs.Sums.{sum_below-agree, sum_below-at, sum_below-bound, sum_below-zero}
use Rattle.sums.proofs.Tests.{by_test}
use Rattle.fleet_model.specs.Kept.{Domains, kept_on}
use Rattle.fleet_model.specs.Schedule.{IsPair, choices_in, fleet_by, leg_on, legs_in}
use Rattle.fleet_model.specs.Times.{departure}
use Rattle.fleet_model.specs.declared.limits.TheConstants.{MAX_LEGS}
use Rattle.fleet_model.specs.declared.parts.Pair.{Pair}
use Rattle.fleet_model.specs.declared.tables.Tables.{Tables}
use Rattle.fleet_model.proofs.PeriodMinutes.{few_laps}
use Rattle.dual_bound.specs.Bound.{part}
use Rattle.presolve.specs.Choices.{all_busy_alone}
use Rattle.presolve.specs.Rules.{busy_alone, busy_at, busy_on, come_by, flies_alone, surely_busy}
use Rattle.presolve.proofs.KeptParts.{on_others, other_leg_same, own_leg_fewer}

-- ---- of one leg
-- where it keeps one pair, that is of its fleet
pub alone_is : (t : Tables) (keeps : Domains) (l c f m : ℕ) → kept_on t keeps l ≡ 1 → c < choices_in t l → keeps (leg_on l c) ≡ true
    → busy_alone t keeps f m l ≡ (if fleet_by t (leg_on l c) == f then busy_at t (leg_on l c) m else 0)
unfolding busy_alone
alone_is t keeps l c f m one known kept =
    sum_below-agree (λ k. if flies_alone t keeps f l k then busy_at t (leg_on l k) m else 0) (λ k. if c == k then (if fleet_by t (leg_on l k) == f then busy_at t (leg_on l k) m else 0) else 0) (choices_in t l)
    (record { each = λ k below. each k below (keeps (leg_on l k)) refl })
    ∙ sum_below-at c (choices_in t l) (λ k. if fleet_by t (leg_on l k) == f then busy_at t (leg_on l k) m else 0) known
  where
    here : (a b d : Bool) (n : ℕ) → a ≡ true → d ≡ true → ◌≡◌ {A = ℕ} (if a && (true && b) then n else 0) (if d then (if b then n else 0) else 0)
    here true b true n e h = refl
    here false b d n e h = cc
    here true b false n e h = cc

    elsewhere : (a b d : Bool) (n : ℕ) → d ≡ false → ◌≡◌ {A = ℕ} (if a && (false && b) then n else 0) (if d then (if b then n else 0) else 0)
    elsewhere true b false n h = refl
    elsewhere false b false n h = refl
    elsewhere a b true n h = cc

    each : (k : ℕ) → k < choices_in t l → (x : Bool) → keeps (leg_on l k) ≡ x
        → ◌≡◌ {A = ℕ} (if (kept_on t keeps l == 1) && (x && (fleet_by t (leg_on l k) == f)) then busy_at t (leg_on l k) m else 0) (if c == k then (if fleet_by t (leg_on l k) == f then busy_at t (leg_on l k) m else 0) else 0)
    each k below true e =
        let same : c ≡ k = count_below-one (λ j. keeps (leg_on l j)) (choices_in t l) c k one known below kept e in
        here (kept_on t keeps l == 1) (fleet_by t (leg_on l k) == f) (c == k) (busy_at t (leg_on l k) m) (grind (arith, nat_tests)) (grind (arith, nat_tests))
    each k below false e =
        elsewhere (kept_on t keeps l == 1) (fleet_by t (leg_on l k) == f) (c == k) (busy_at t (leg_on l k) m) (other (c == k) refl)
      where
        other : (b : Bool) → (c == k) ≡ b → (c == k) ≡ false
        other true h = let same : c ≡ k = grind (arith, nat_tests) in absurd (differ (keeps (leg_on l k)) (rw same at kept) e)
          where
            differ : (b : Bool) → b ≡ true → b ≡ false → ⊥
            differ b p q = cc
        other false h = h

-- a leg that keeps none or two is not alone
pub not_alone : (t : Tables) (keeps : Domains) (f m l : ℕ) → kept_on t keeps l ≢ 1 → busy_alone t keeps f m l ≡ 0
unfolding busy_alone
not_alone t keeps f m l other =
    sum_below-agree (λ c. if flies_alone t keeps f l c then busy_at t (leg_on l c) m else 0) (λ c. 0) (choices_in t l)
    (record { each = λ c below. none (kept_on t keeps l == 1) _ (busy_at t (leg_on l c) m) (grind (arith, nat_tests)) })
    ∙ sum_below-zero (choices_in t l)
  where
    none : (a b : Bool) (n : ℕ) → a ≡ false → ◌≡◌ {A = ℕ} (if a && b then n else 0) 0
    none false b n e = refl
    none true b n e = cc

-- a leg that keeps one pair keeps some choice
pub some_choice : (t : Tables) (keeps : Domains) (l : ℕ) → kept_on t keeps l ≡ 1 → ((c : ℕ) → c < choices_in t l → keeps (leg_on l c) ≡ false) → ⊥
some_choice t keeps l one none = let zero_kept = count_below-none (λ c. keeps (leg_on l c)) (choices_in t l) none in omega (arith, one, zero_kept)

-- .. which one
pub record IsKeptOn (t : Tables) (keeps : Domains) (l c : ℕ) : Type 0 where
  pub known : c < choices_in t l
  pub kept : keeps (leg_on l c) ≡ true

pub one_choice : (t : Tables) (keeps : Domains) (l : ℕ) → kept_on t keeps l ≡ 1 → (c : ℕ) × IsKeptOn t keeps l c
one_choice t keeps l one = elim (find_below (λ c. keeps (leg_on l c)) (choices_in t l)) [
  | inl found ↦ (found.0, record { known = found.1; kept = found.2 })
  | inr none ↦ absurd (some_choice t keeps l one none)
]

-- ---- sizes
one_come : (minute m : ℕ) → come_by minute m ≤ 1
one_come minute m = grind (arith, nat_tests)

pub few_busy : (t : Tables) (p : Pair) (m : ℕ) → IsPair t p → busy_at t p m ≤ 3
few_busy t p m pair = omega (arith, few_laps t p pair, one_come (departure t p) m)

few_on : (t : Tables) (keeps : Domains) (f m l : ℕ) → l < legs_in t → busy_alone t keeps f m l ≤ 3
few_on t keeps f m l within = by_test (kept_on t keeps l == 1)
    (λ e. let one : kept_on t keeps l ≡ 1 = grind (arith, nat_tests) in
    let it = one_choice t keeps l one in
    omega (arith, alone_is t keeps l it.0 f m one it.1.known it.1.kept, if_below (fleet_by t (leg_on l it.0) == f) (busy_at t (leg_on l it.0) m) 3 (few_busy t (leg_on l it.0) m (record { leg = within; choice = it.1.known }))))
    (λ e. let other : kept_on t keeps l ≢ 1 = grind (arith, nat_tests) in omega (arith, not_alone t keeps f m l other))

pub few_below : (t : Tables) (keeps : Domains) (f m n : ℕ) → n ≤ legs_in t → sum_below (busy_alone t keeps f m) n ≤ 3 * MAX_LEGS
few_below t keeps f m n within =
    let bound = sum_below-bound (busy_alone t keeps f m) 3 n (record { each = λ l below. few_on t keeps f m l (omega arith) }) in
    let legs = t.in_range.legs_fit.few in
    omega (arith, bound, legs)

pub few_alone : (t : Tables) (keeps : Domains) (f m : ℕ) → all_busy_alone t keeps f m ≤ 3 * MAX_LEGS
unfolding all_busy_alone
few_alone t keeps f m = few_below t keeps f m (legs_in t) (omega arith)

-- ---- without a pair
-- of other legs all is as it was
other_alone : (t : Tables) (keeps : Domains) (p : Pair) (f m l : ℕ) → l ≢ p.leg → busy_alone t (part keeps p.leg p.choice false) f m l ≡ busy_alone t keeps f m l
unfolding busy_alone
other_alone t keeps p f m l other =
    sum_below-agree (λ c. if flies_alone t (part keeps p.leg p.choice false) f l c then busy_at t (leg_on l c) m else 0) (λ c. if flies_alone t keeps f l c then busy_at t (leg_on l c) m else 0) (choices_in t l)
    (record {
      each = λ c below.
          both (fleet_by t (leg_on l c) == f) (busy_at t (leg_on l c) m) _ _ _ _ (on_others keeps p.leg p.choice false (leg_on l c) other) (other_leg_same t keeps p false l other);
    })
  where
    both : (d : Bool) (n : ℕ) (a b : Bool) (j k : ℕ) → a ≡ b → j ≡ k → ◌≡◌ {A = ℕ} (if (j == 1) && (a && d) then n else 0) (if (k == 1) && (b && d) then n else 0)
    both d n a b j k e h = rw (e, h) refl

-- as long as its leg keeps a pair, what it keeps busy alone is what is more
pub more_alone : (t : Tables) (keeps : Domains) (p : Pair) (f m : ℕ) → IsPair t p → keeps p ≡ true → kept_on t (part keeps p.leg p.choice false) p.leg ≢ 0
    → all_busy_alone t (part keeps p.leg p.choice false) f m ≡ all_busy_alone t keeps f m + busy_alone t (part keeps p.leg p.choice false) f m p.leg
unfolding all_busy_alone
more_alone t keeps p f m pair kept left =
    let two = own_leg_fewer t keeps p pair kept in
    let none = not_alone t keeps f m p.leg (omega arith) in
    sum_below-more (busy_alone t (part keeps p.leg p.choice false) f m) (busy_alone t keeps f m) (legs_in t) p.leg (busy_alone t (part keeps p.leg p.choice false) f m p.leg) pair.leg
    (omega (arith, none)) (record { each = λ l below other. other_alone t keeps p f m l other })

-- ---- where a pair is flown
-- what its own leg keeps busy is what it keeps busy alone, and the pair where it isn't alone
own_busy : (t : Tables) (keeps : Domains) (p : Pair) (m : ℕ) → IsPair t p → keeps p ≡ true
    → busy_at t p m ≡ busy_alone t keeps (fleet_by t p) m p.leg + (if kept_on t keeps p.leg == 1 then 0 else busy_at t p m)
own_busy t keeps p m pair kept = by_test (kept_on t keeps p.leg == 1)
    (λ e. let one : kept_on t keeps p.leg ≡ 1 = grind (arith, nat_tests) in
    alone (fleet_by t p == fleet_by t p) (kept_on t keeps p.leg == 1) _ (busy_at t p m) (grind (arith, nat_tests)) e (alone_is t keeps p.leg p.choice (fleet_by t p) m one pair.choice kept))
    (λ e. let other : kept_on t keeps p.leg ≢ 1 = grind (arith, nat_tests) in
    two (kept_on t keeps p.leg == 1) _ (busy_at t p m) e (not_alone t keeps (fleet_by t p) m p.leg other))
  where
    alone : (a b : Bool) (k n : ℕ) → a ≡ true → b ≡ true → k ≡ (if a then n else 0) → n ≡ k + (if b then 0 else n)
    alone true true k n e h is = omega (arith, is)
    alone false b k n e h is = cc
    alone true false k n e h is = cc

    two : (b : Bool) (k n : ℕ) → b ≡ false → k ≡ 0 → n ≡ k + (if b then 0 else n)
    two false k n e none = omega (arith, none)
    two true k n e none = cc

-- what is surely busy is what legs without a choice keep busy, and the pair where it isn't among them
pub surely_is : (t : Tables) (keeps : Domains) (p : Pair) (m : ℕ) → IsPair t p → keeps p ≡ true
    → surely_busy t keeps p m ≡ all_busy_alone t keeps (fleet_by t p) m + (if kept_on t keeps p.leg == 1 then 0 else busy_at t p m)
unfolding surely_busy all_busy_alone
surely_is t keeps p m pair kept =
    sum_below-more (busy_on t keeps p m) (busy_alone t keeps (fleet_by t p) m) (legs_in t) p.leg (if kept_on t keeps p.leg == 1 then 0 else busy_at t p m) pair.leg
    (passes (p.leg == p.leg) _ _ (grind (arith, nat_tests)) ∙ own_busy t keeps p m pair kept)
    (record { each = λ l below other. fails (l == p.leg) _ _ (grind (arith, nat_tests)) })
  where
    passes : (a : Bool) (m n : ℕ) → a ≡ true → (if a then m else n) ≡ m
    passes true m n e = refl
    passes false m n e = cc

    fails : (a : Bool) (m n : ℕ) → a ≡ false → (if a then m else n) ≡ n
    fails false m n e = refl
    fails true m n e = cc

-- the same, as it is looked up
pub surely_alone : (t : Tables) (keeps : Domains) (p : Pair) (fleet minute alone : ℕ) → IsPair t p → keeps p ≡ true → fleet ≡ fleet_by t p → minute ≡ departure t p → alone ≡ all_busy_alone t keeps fleet minute
    → true ≡ (kept_on t keeps p.leg == 1) → alone ≡ surely_busy t keeps p (departure t p)
surely_alone t keeps p fleet minute alone pair kept by at is one =
    is ∙ ap (λ f. all_busy_alone t keeps f minute) by ∙ ap (all_busy_alone t keeps (fleet_by t p)) at
    ∙ added (kept_on t keeps p.leg == 1) _ _ (sym one) ∙ sym (surely_is t keeps p (departure t p) pair kept)
  where
    added : (b : Bool) (n k : ℕ) → b ≡ true → n ≡ n + (if b then 0 else k)
    added true n k e = omega arith
    added false n k e = cc

pub surely_more : (t : Tables) (keeps : Domains) (p : Pair) (fleet minute alone busy : ℕ) → IsPair t p → keeps p ≡ true → fleet ≡ fleet_by t p → minute ≡ departure t p
    → alone ≡ all_busy_alone t keeps fleet minute → busy ≡ busy_at t p minute → false ≡ (kept_on t keeps p.leg == 1) → alone + busy ≡ surely_busy t keeps p (departure t p)
surely_more t keeps p fleet minute alone busy pair kept by at is own one =
    added (kept_on t keeps p.leg == 1) alone busy _ _ (sym one) (is ∙ ap (λ f. all_busy_alone t keeps f minute) by ∙ ap (all_busy_alone t keeps (fleet_by t p)) at) (own ∙ ap (busy_at t p) at)
    ∙ sym (surely_is t keeps p (departure t p) pair kept)
  where
    added : (b : Bool) (alone busy n k : ℕ) → b ≡ false → alone ≡ n → busy ≡ k → alone + busy ≡ n + (if b then 0 else k)
    added false alone busy n k e f g = omega (arith, f, g)
    added true alone busy n k e f g = cc
