-- A removal takes one of the steps that are left, and keeps each choice by which a leg may be left out. So there are few.
use Rattle.std.proofs.Common.{◌≡◌, ℕ, ◌+◌, ◌<◌, ◌≤◌, Bool, true, false, ◌==◌, ◌&&◌, not, if◌then◌else◌, List, [], ◌∷◌, length, refl, sym, ◌∙◌, ap, ◌-◌, arith}
use Rattle.std.proofs.lemmas.Bool.{lt-ltb}
use Rattle.std.proofs.lemmas.Bool.Decides.{nat_tests}
use Rattle.sums.proofs.OneChanged.{sum_below-more}
use Rattle.sums.proofs.Sums.{sum_below-le}
use Rattle.sums.proofs.Tests.{by_test, no_both}
use Rattle.fleet_model.specs.Kept.{Domains, all_pairs, kept_on}
use Rattle.fleet_model.specs.LeftOut.{KeepLeftOut, leaves_out, left_out_on, steps_left, steps_on}
use Rattle.fleet_model.specs.Schedule.{IsPair, choices_in, fleet_by, fleets_in, leg_on, legs_in}
use Rattle.fleet_model.specs.declared.parts.Pair.{Pair}
use Rattle.fleet_model.specs.declared.tables.Tables.{Tables}
use Rattle.fleet_model.proofs.LeftOut.{all_keep_left_out, steps_are_few}
use Rattle.dual_bound.specs.Bound.{part}
use Rattle.presolve.specs.Laws.{RemovalsAreFew}
use Rattle.presolve.specs.Removals.{AreRemovals, first_place, kept_after, removed_pair, without}
use Rattle.presolve.specs.declared.trims.Trim.{Trim}
use Rattle.presolve.proofs.KeptParts.{on_other_choices, on_others, other_leg_same, own_leg_fewer}
use Rattle.presolve.proofs.RemovalLaws.{is_removable}

-- the part without a pair that is kept and flown
module _ (t : Tables) (keeps : Domains) (p : Pair) (pair : IsPair t p) (flown : fleet_by t p < fleets_in t) (kept : keeps p ≡ true) (out : KeepLeftOut t keeps) where
  abbrev after : Domains
  after = part keeps p.leg p.choice false

  -- the pair itself leaves no leg out
  flies : leaves_out t p.leg p.choice ≡ false
  flies = ap (λ b. not b && all_pairs t p) (lt-ltb (fleet_by t p) (fleets_in t) flown)

  still_out : (l c : ℕ) → leaves_out t l c ≡ true → after (leg_on l c) ≡ true
  still_out l c e = by_test (l == p.leg)
      (λ same. by_test (c == p.choice)
      (λ its. let leg : l ≡ p.leg = grind (arith, nat_tests) in let choice : c ≡ p.choice = grind (arith, nat_tests) in
      let here : leaves_out t p.leg p.choice ≡ true = ap (λ k. leaves_out t k p.choice) (sym leg) ∙ ap (leaves_out t l) (sym choice) ∙ e in
      absurd (no_both flies here))
      (λ other. let leg : l ≡ p.leg = grind (arith, nat_tests) in
      ap (λ k. after (leg_on k c)) leg ∙ on_other_choices keeps p.leg p.choice c (grind (arith, nat_tests)) ∙ ap (λ k. keeps (leg_on k c)) (sym leg) ∙ out.each l c e))
      (λ other. on_others keeps p.leg p.choice false (leg_on l c) (grind (arith, nat_tests)) ∙ out.each l c e)

  pub keep_left_out : KeepLeftOut t after
  keep_left_out = record { each = still_out }

  -- so its leg keeps as many choices without it
  enough : left_out_on t p.leg ≤ kept_on t after p.leg
  unfolding left_out_on
  enough = sum_below-le (λ c. if leaves_out t p.leg c then 1 else 0) (λ c. if after (leg_on p.leg c) then 1 else 0) (choices_in t p.leg)
      (record { each = λ c below. no_more (leaves_out t p.leg c) (after (leg_on p.leg c)) (still_out p.leg c) })
    where
      no_more : (b c : Bool) → (b ≡ true → c ≡ true) → (if b then 1 else 0) ≤ (if c then 1 else 0)
      no_more false c h = omega arith
      no_more true true h = omega arith
      no_more true false h = absurd (cc (h refl))

  pub one_step : steps_left t keeps ≡ steps_left t after + 1
  one_step =
      sum_below-more (steps_on t keeps) (steps_on t after) (legs_in t) p.leg 1 pair.leg (omega (arith, own_leg_fewer t keeps p pair kept, enough))
      (record { each = λ l below other. ap (λ n. n - left_out_on t l) (sym (other_leg_same t keeps p false l other)) })

-- each removal takes a step of those that are left
steps_taken : (t : Tables) (keeps : Domains) (place : Pair) (trims : List Trim) → KeepLeftOut t keeps → AreRemovals t keeps place trims → length trims + steps_left t (kept_after keeps trims) ≡ steps_left t keeps
steps_taken t keeps place [] out removals = omega arith
steps_taken t keeps place (trim ∷ trims) out removals =
    let next = removals.0 in
    let its = is_removable t keeps (removed_pair trim) next.why next.first_rule in
    omega (
      arith,
      one_step t keeps (removed_pair trim) next.pair its.flown its.kept out,
      steps_taken t (without keeps trim) (removed_pair trim) trims (keep_left_out t keeps (removed_pair trim) next.pair its.flown its.kept out) removals.1,
    )

pub removals_are_few : RemovalsAreFew
removals_are_few t trims removals = omega (arith, steps_taken t (all_pairs t) first_place trims (all_keep_left_out t) removals, steps_are_few t)
