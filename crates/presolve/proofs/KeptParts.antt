-- What is kept in the parts with a pair and without it.
use Rattle.std.proofs.Common.{◌≡◌, ◌≢◌, ℕ, ◌+◌, ◌<◌, Bool, true, false, not, ◌==◌, ◌&&◌, if◌then◌else◌, refl, ap, sym, ◌∙◌, arith}
use Rattle.std.proofs.lemmas.Bool.Decides.{nat_tests}
use Rattle.sums.proofs.Counts.{count_below-some}
use Rattle.sums.proofs.Sums.{sum_below-agree}
use Rattle.sums.proofs.Tests.{first_true}
use Rattle.fleet_model.specs.Kept.{Domains, kept_on, pairs_kept}
use Rattle.fleet_model.specs.Schedule.{IsPair, choices_in, leg_on, legs_in}
use Rattle.fleet_model.specs.declared.parts.Pair.{Pair}
use Rattle.fleet_model.specs.declared.tables.Tables.{Tables}
use Rattle.dual_bound.specs.Bound.{part}
use Rattle.presolve.specs.Removals.{NoneBare}
use Rattle.sums.proofs.OneChanged.{count_below-fewer, sum_below-more}

-- of another leg all is kept as it was
pub on_others : (keeps : Domains) (leg fleet : ℕ) (kept : Bool) (q : Pair) → q.leg ≢ leg → part keeps leg fleet kept q ≡ keeps q
on_others keeps leg fleet kept q other = by_test (keeps q) (q.leg == leg) _ (grind (arith, nat_tests))
  where
    by_test : (k same x : Bool) → same ≡ false → (k && (if same then x else true)) ≡ k
    by_test true false x e = refl
    by_test false false x e = refl
    by_test k true x e = cc

-- of the leg itself the other choices are kept as they were, where the pair is removed
pub on_other_choices : (keeps : Domains) (leg fleet f : ℕ) → f ≢ fleet → part keeps leg fleet false (leg_on leg f) ≡ keeps (leg_on leg f)
on_other_choices keeps leg fleet f other = by_test (keeps (leg_on leg f)) (leg == leg) (f == fleet) (grind (arith, nat_tests))
  where
    by_test : (k same it : Bool) → it ≡ false → (k && (if same then not it else true)) ≡ k
    by_test true true false e = refl
    by_test true false false e = refl
    by_test false same false e = refl
    by_test k same true e = cc

-- and it isn't kept
pub is_removed : (keeps : Domains) (leg fleet : ℕ) → part keeps leg fleet false (leg_on leg fleet) ≡ false
is_removed keeps leg fleet = by_test (keeps (leg_on leg fleet)) (leg == leg) (fleet == fleet) (grind (arith, nat_tests)) (grind (arith, nat_tests))
  where
    by_test : (k same it : Bool) → same ≡ true → it ≡ true → (k && (if same then not it else true)) ≡ false
    by_test true true true e f = refl
    by_test false same it e f = refl
    by_test true false it e f = cc
    by_test true true false e f = cc

-- where a pair is flown, it is kept, and of its leg no other
pub is_flown : (keeps : Domains) (leg fleet : ℕ) → keeps (leg_on leg fleet) ≡ true → part keeps leg fleet true (leg_on leg fleet) ≡ true
is_flown keeps leg fleet kept = by_test (keeps (leg_on leg fleet)) (leg == leg) (fleet == fleet) kept (grind (arith, nat_tests))
  where
    by_test : (k same it : Bool) → k ≡ true → it ≡ true → (k && (if same then it else true)) ≡ true
    by_test true true true e f = refl
    by_test true false true e f = refl
    by_test false same it e f = cc
    by_test true same false e f = cc

pub is_own_choice : (keeps : Domains) (leg fleet f : ℕ) → part keeps leg fleet true (leg_on leg f) ≡ true → f ≡ fleet
is_own_choice keeps leg fleet f kept = by_test (keeps (leg_on leg f)) (leg == leg) (f == fleet) (grind (arith, nat_tests)) kept (λ e. grind (arith, nat_tests))
  where
    by_test : (k same it : Bool) → same ≡ true → (k && (if same then it else true)) ≡ true → (it ≡ true → f ≡ fleet) → f ≡ fleet
    by_test k true true e h g = g refl
    by_test true true false e h g = cc
    by_test false true false e h g = cc
    by_test k false it e h g = cc

-- nothing is kept that wasn't
pub was_kept : (keeps : Domains) (leg fleet : ℕ) (kept : Bool) (q : Pair) → part keeps leg fleet kept q ≡ true → keeps q ≡ true
was_kept keeps leg fleet kept q h = first_true (keeps q) _ h

module _ (t : Tables) (keeps : Domains) (leg fleet : ℕ) where
  other_leg : (kept : Bool) (l : ℕ) → l ≢ leg → kept_on t (part keeps leg fleet kept) l ≡ kept_on t keeps l
  other_leg kept l other =
      sum_below-agree (λ f. if part keeps leg fleet kept (leg_on l f) then 1 else 0) (λ f. if keeps (leg_on l f) then 1 else 0) (choices_in t l)
      (record { each = λ f below. ap (λ b. if b then 1 else 0) (on_others keeps leg fleet kept (leg_on l f) other) })

  -- without a kept pair its leg keeps one fewer
  own_leg : fleet < choices_in t leg → keeps (leg_on leg fleet) ≡ true → kept_on t keeps leg ≡ kept_on t (part keeps leg fleet false) leg + 1
  own_leg known kept =
      count_below-fewer (λ f. keeps (leg_on leg f)) (λ f. part keeps leg fleet false (leg_on leg f)) (choices_in t leg) fleet known kept
      (is_removed keeps leg fleet) (λ f below other. sym (on_other_choices keeps leg fleet f other))

  -- and so do all
  fewer : leg < legs_in t → fleet < choices_in t leg → keeps (leg_on leg fleet) ≡ true → pairs_kept t keeps ≡ pairs_kept t (part keeps leg fleet false) + 1
  fewer within known kept =
      sum_below-more (kept_on t keeps) (kept_on t (part keeps leg fleet false)) (legs_in t) leg 1 within (own_leg known kept)
      (record { each = λ l below other. sym (other_leg false l other) })

  -- where a kept pair is flown, each leg keeps a pair, as it did before
  still_none_bare : fleet < choices_in t leg → keeps (leg_on leg fleet) ≡ true → NoneBare t keeps → NoneBare t (part keeps leg fleet true)
  still_none_bare known kept none l bare = by_test (l == leg)
      (λ e. let same : l ≡ leg = grind (arith, nat_tests) in
      let some = count_below-some (λ f. part keeps leg fleet true (leg_on leg f)) (choices_in t leg) fleet known (is_flown keeps leg fleet kept) in
      let none_there : kept_on t (part keeps leg fleet true) leg ≡ 0 = rw same at bare.none in
      omega arith)
      (λ e. let other : l ≢ leg = grind (arith, nat_tests) in
      none l (record { within = bare.within; none = sym (other_leg true l other) ∙ bare.none }))
    where
      by_test : (b : Bool) → (b ≡ true → ⊥) → (b ≡ false → ⊥) → ⊥
      by_test true p q = p refl
      by_test false p q = q refl

pub own_leg_fewer : (t : Tables) (keeps : Domains) (p : Pair) → IsPair t p → keeps p ≡ true → kept_on t keeps p.leg ≡ kept_on t (part keeps p.leg p.choice false) p.leg + 1
own_leg_fewer t keeps p pair kept = own_leg t keeps p.leg p.choice pair.choice kept

pub other_leg_same : (t : Tables) (keeps : Domains) (p : Pair) (kept : Bool) (l : ℕ) → l ≢ p.leg → kept_on t (part keeps p.leg p.choice kept) l ≡ kept_on t keeps l
other_leg_same t keeps p kept l other = other_leg t keeps p.leg p.choice kept l other

pub one_fewer : (t : Tables) (keeps : Domains) (p : Pair) → IsPair t p → keeps p ≡ true → pairs_kept t keeps ≡ pairs_kept t (part keeps p.leg p.choice false) + 1
one_fewer t keeps p pair kept = fewer t keeps p.leg p.choice pair.leg pair.choice kept

pub flown_none_bare : (t : Tables) (keeps : Domains) (p : Pair) → IsPair t p → keeps p ≡ true → NoneBare t keeps → NoneBare t (part keeps p.leg p.choice true)
flown_none_bare t keeps p pair kept none = still_none_bare t keeps p.leg p.choice pair.choice kept none
