-- Landings and departures: at first, and without a pair.
use Rattle.std.proofs.Common.{◌≡◌, ◌≢◌, ℕ, ◌+◌, ◌*◌, ◌≤◌, Bool, true, false, ◌==◌, ◌&&◌, if◌then◌else◌, refl, ap, sym, arith}
use Rattle.std.proofs.lemmas.Bool.Decides.{nat_tests}
use Rattle.sums.specs.Below.{sum_below}
use Rattle.sums.proofs.Naturals.{same_number}
use Rattle.sums.proofs.NumberTests.{if_below}
use Rattle.sums.proofs.OneChanged.{count_below-fewer, sum_below-more}
use Rattle.sums.proofs.Sums.{count_below-le, sum_below-agree, sum_below-bound}
use Rattle.sums.proofs.Tests.{by_test, both_true, never_passes}
use Rattle.fleet_model.specs.Kept.{Domains}
use Rattle.fleet_model.specs.Schedule.{IsPair, choices_in, fleet_by, leg_on, legs_in}
use Rattle.fleet_model.specs.declared.limits.TheConstants.{MAX_CHOICES}
use Rattle.fleet_model.specs.declared.parts.Pair.{Pair}
use Rattle.fleet_model.specs.declared.tables.Tables.{Tables}
use Rattle.fleet_model.proofs.FewChoices.{few_choices}
use Rattle.dual_bound.specs.Bound.{part}
use Rattle.presolve.specs.Ends.{end_station, kept_at}
use Rattle.presolve.specs.Rules.{departures, flies, kept_flown_on, landings}
use Rattle.presolve.specs.declared.counting.End.{End}
use Rattle.presolve.specs.declared.counting.End.TheVariants as end
use Rattle.presolve.proofs.KeptParts.{is_removed, on_other_choices, on_others}

-- kept pairs of a fleet, counted where their legs have a place
abbrev pub counted : Tables → Domains → (ℕ → ℕ) → ℕ → ℕ → ℕ → ℕ
counted t keeps place f s l = if place l == s then kept_flown_on t keeps f l else 0

few_flown : (t : Tables) (keeps : Domains) (f l : ℕ) → kept_flown_on t keeps f l ≤ MAX_CHOICES
unfolding kept_flown_on
few_flown t keeps f l = omega (arith, count_below-le (flies t keeps f l) (choices_in t l), few_choices t l)

-- so many legs count no more than all their choices
pub few_counted : (t : Tables) (keeps : Domains) (place : ℕ → ℕ) (f s n : ℕ) → sum_below (counted t keeps place f s) n ≤ n * MAX_CHOICES
few_counted t keeps place f s n = sum_below-bound (counted t keeps place f s) MAX_CHOICES n (record { each = λ l below. if_below (place l == s) (kept_flown_on t keeps f l) MAX_CHOICES (few_flown t keeps f l) })

module _ (t : Tables) (keeps : Domains) (p : Pair) where
  abbrev after : Domains
  after = part keeps p.leg p.choice false

  -- of another leg as many are kept
  other_leg : (f l : ℕ) → l ≢ p.leg → kept_flown_on t keeps f l ≡ kept_flown_on t after f l
  unfolding kept_flown_on
  other_leg f l other = sum_below-agree (λ c. if flies t keeps f l c then 1 else 0) (λ c. if flies t after f l c then 1 else 0) (choices_in t l)
      (record { each = λ c below. ap (λ b. if b && (fleet_by t (leg_on l c) == f) then 1 else 0) (sym (on_others keeps p.leg p.choice false (leg_on l c) other)) })

  -- of its own leg its fleet has one fewer
  own_fewer : IsPair t p → keeps p ≡ true → kept_flown_on t keeps (fleet_by t p) p.leg ≡ kept_flown_on t after (fleet_by t p) p.leg + 1
  unfolding kept_flown_on
  own_fewer pair kept =
      count_below-fewer (flies t keeps (fleet_by t p) p.leg) (flies t after (fleet_by t p) p.leg) (choices_in t p.leg) p.choice pair.choice
      (both_true (keeps p) (fleet_by t p == fleet_by t p) kept (same_number (fleet_by t p)))
      (ap (λ b. b && (fleet_by t p == fleet_by t p)) (is_removed keeps p.leg p.choice))
      (λ c below other. ap (λ b. b && (fleet_by t (leg_on p.leg c) == fleet_by t p)) (sym (on_other_choices keeps p.leg p.choice c other)))

  -- and any other fleet as many
  neither : (f : ℕ) (b c : Bool) → f ≢ fleet_by t p → (b && (fleet_by t p == f)) ≡ (c && (fleet_by t p == f))
  neither f b c other = fails b c (fleet_by t p == f) (never_passes (fleet_by t p == f) (λ e. other (grind (arith, nat_tests))))
    where
      fails : (b c d : Bool) → d ≡ false → (b && d) ≡ (c && d)
      fails true true d e = refl
      fails false false d e = refl
      fails true false d e = e
      fails false true d e = sym e

  own_same : (f : ℕ) → f ≢ fleet_by t p → kept_flown_on t keeps f p.leg ≡ kept_flown_on t after f p.leg
  unfolding kept_flown_on
  own_same f other = sum_below-agree (λ c. if flies t keeps f p.leg c then 1 else 0) (λ c. if flies t after f p.leg c then 1 else 0) (choices_in t p.leg)
      (record { each = λ c below. ap (λ b. if b then 1 else 0) (each c (c == p.choice) refl) })
    where
      each : (c : ℕ) (b : Bool) → (c == p.choice) ≡ b → flies t keeps f p.leg c ≡ flies t after f p.leg c
      each c true e = let same : c ≡ p.choice = grind (arith, nat_tests) in rw same (neither f (keeps p) (after p) other)
      each c false e = let another : c ≢ p.choice = grind (arith, nat_tests) in ap (λ b. b && (fleet_by t (leg_on p.leg c) == f)) (sym (on_other_choices keeps p.leg p.choice c another))

  -- where its own leg is counted, there is one fewer
  fewer : (place : ℕ → ℕ) → IsPair t p → keeps p ≡ true
      → sum_below (counted t keeps place (fleet_by t p) (place p.leg)) (legs_in t) ≡ sum_below (counted t after place (fleet_by t p) (place p.leg)) (legs_in t) + 1
  fewer place pair kept =
      sum_below-more (counted t keeps place (fleet_by t p) (place p.leg)) (counted t after place (fleet_by t p) (place p.leg)) (legs_in t) p.leg 1 pair.leg
      (here (place p.leg == place p.leg) _ _ (same_number (place p.leg)) (own_fewer pair kept))
      (record { each = λ l below other. ap (λ n. if place l == place p.leg then n else 0) (other_leg (fleet_by t p) l other) })
    where
      here : (b : Bool) (m n : ℕ) → b ≡ true → m ≡ n + 1 → ◌≡◌ {A = ℕ} (if b then m else 0) ((if b then n else 0) + 1)
      here true m n e h = h
      here false m n e h = cc

  -- and nothing else changes
  same : (place : ℕ → ℕ) (f s : ℕ) → (f ≡ fleet_by t p → s ≡ place p.leg → ⊥) → sum_below (counted t keeps place f s) (legs_in t) ≡ sum_below (counted t after place f s) (legs_in t)
  same place f s other = sum_below-agree (counted t keeps place f s) (counted t after place f s) (legs_in t) (record { each = λ l below. each l (l == p.leg) refl })
    where
      elsewhere : (b : Bool) (m n : ℕ) → b ≡ false → ◌≡◌ {A = ℕ} (if b then m else 0) (if b then n else 0)
      elsewhere false m n e = refl
      elsewhere true m n e = cc

      own : counted t keeps place f s p.leg ≡ counted t after place f s p.leg
      own = by_test (f == fleet_by t p)
          (λ e. let fleet : f ≡ fleet_by t p = grind (arith, nat_tests) in
          elsewhere (place p.leg == s) _ _ (never_passes (place p.leg == s) (λ h. other fleet (grind (arith, nat_tests)))))
          (λ e. let another : f ≢ fleet_by t p = grind (arith, nat_tests) in ap (λ n. if place p.leg == s then n else 0) (own_same f another))

      each : (l : ℕ) (b : Bool) → (l == p.leg) ≡ b → counted t keeps place f s l ≡ counted t after place f s l
      each l true e = let leg : l ≡ p.leg = grind (arith, nat_tests) in rw leg own
      each l false e = let another : l ≢ p.leg = grind (arith, nat_tests) in ap (λ n. if place l == s then n else 0) (other_leg f l another)

-- by either end of the legs
pub end_fewer : (t : Tables) (keeps : Domains) (p : Pair) (at : End) → IsPair t p → keeps p ≡ true
    → kept_at t keeps at (fleet_by t p) (end_station t at p.leg) ≡ kept_at t (part keeps p.leg p.choice false) at (fleet_by t p) (end_station t at p.leg) + 1
unfolding departures landings
end_fewer t keeps p end.From pair kept = fewer t keeps p (end_station t end.From) pair kept
end_fewer t keeps p end.To pair kept = fewer t keeps p (end_station t end.To) pair kept

pub end_same : (t : Tables) (keeps : Domains) (p : Pair) (at : End) (f s : ℕ) → (f ≡ fleet_by t p → s ≡ end_station t at p.leg → ⊥) → kept_at t keeps at f s ≡ kept_at t (part keeps p.leg p.choice false) at f s
unfolding departures landings
end_same t keeps p end.From f s other = same t keeps p (end_station t end.From) f s other
end_same t keeps p end.To f s other = same t keeps p (end_station t end.To) f s other
