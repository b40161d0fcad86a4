-- Which pairs may be taken, by what costs and legs say of them; and a fleet's pairs of a leg, at each of its times.
use Rattle.std.proofs.Common.{◌≡◌, ℕ, ◌+◌, ◌*◌, ◌<◌, ◌≤◌, Bool, true, false, ◌==◌, ◌&&◌, ◌||◌, nat_lt, if◌then◌else◌, List, [], ◌∷◌, Option, None, is_some, ℤ, refl, sym, ◌∙◌, ap, subst, inl, inr, arith}
use Rattle.std.specs.List.{AllByRecursion}
use Rattle.std.proofs.lemmas.Bool.{cases_lt, lt-ltb}
use Rattle.std.proofs.lemmas.Bool.Decides.{nat_tests}
use Rattle.std.proofs.lemmas.List.{get_or_past}
use Rattle.std.proofs.lemmas.List.Elements.{recursion_from_All}
use Rattle.std.proofs.lemmas.Nat.{mul-le}
use Rattle.sums.proofs.Tests.{by_either, by_test, or_false, parts_true, same_tests}
use Rattle.fleet_model.specs.declared.parts.Leg.{Leg}
use Rattle.fleet_model.specs.declared.parts.Pair.{Pair}
use Rattle.fleet_model.specs.declared.parts.PairCost.{PairCost}
use Rattle.fleet_model.specs.declared.tables.Tables.{Tables}
use Rattle.fleet_model.specs.Costs.{cost_in, is_of}
use Rattle.fleet_model.specs.Kept.{all_pairs}
use Rattle.fleet_model.specs.Legal.{cost_of, raised}
use Rattle.fleet_model.specs.Limits.{IsPairCost}
use Rattle.fleet_model.specs.Schedule.{fleet_by, fleets_in, left_out, leg_of, leg_on, legs_in, no_leg, shift_by, shifts_in, slot_by}
use Rattle.fleet_model.proofs.Departures.{block_fleet, block_slot, in_block, slot_within}
use Rattle.fleet_model.proofs.LeftOut.{is_raised}

or_assoc : (a b c : Bool) → ((a || b) || c) ≡ (a || (b || c))
or_assoc true b c = refl
or_assoc false b c = refl

-- ---- a fleet's pairs of a leg
-- the pair is flown by the entry's fleet on the entry's leg, at one of the first times
abbrev pub at_first : Tables → PairCost → ℕ → Pair → Bool
at_first t entry slot p = is_of p.leg (fleet_by t p) entry && nat_lt (slot_by t p) slot

is_there : (t : Tables) (l f slot : ℕ) (p : Pair) → slot < shifts_in t l → p.leg ≡ l → p.choice ≡ f * shifts_in t l + slot → (fleet_by t p ≡ f) × (slot_by t p ≡ slot)
is_there t l f slot p within leg choice =
    let is : p ≡ leg_on l (f * shifts_in t l + slot) = ap (λ k. leg_on k p.choice) leg ∙ ap (leg_on l) choice in
    (ap (fleet_by t) is ∙ block_fleet t l f slot within, ap (slot_by t) is ∙ block_slot t l f slot within)

module _ (t : Tables) (entry : PairCost) (slot next : ℕ) (follows : next ≡ slot + 1) (within : slot < shifts_in t entry.leg) (p : Pair) where
  abbrev here : Bool
  here = (p.leg == entry.leg) && (p.choice == entry.fleet * shifts_in t entry.leg + slot)

  into : (at_first t entry slot p || here) ≡ true → at_first t entry next p ≡ true
  into is = by_either (at_first t entry slot p) here is (λ before. grind (arith, nat_tests, before, follows)) (λ now.
      let parts = parts_true (p.leg == entry.leg) (p.choice == entry.fleet * shifts_in t entry.leg + slot) now in
      let there = is_there t entry.leg entry.fleet slot p within (grind (arith, nat_tests, parts.0)) (grind (arith, nat_tests, parts.1)) in
      grind (arith, nat_tests, there.0, there.1, follows, parts.0))

  from : at_first t entry next p ≡ true → (at_first t entry slot p || here) ≡ true
  from is =
      let parts = parts_true (is_of p.leg (fleet_by t p) entry) (nat_lt (slot_by t p) next) is in
      let both = parts_true (entry.leg == p.leg) (entry.fleet == fleet_by t p) parts.0 in
      let leg : p.leg ≡ entry.leg = grind (arith, nat_tests, both.0) in
      let fleet : fleet_by t p ≡ entry.fleet = grind (arith, nat_tests, both.1) in
      elim (cases_lt (slot_by t p) slot) [
        | inl before ↦ grind (arith, nat_tests, parts.0, before)
        | inr past ↦
            let last : slot_by t p ≡ slot = grind (arith, nat_tests, parts.1, past, follows) in
            let choice : p.choice ≡ entry.fleet * shifts_in t entry.leg + slot =
            sym (in_block t p) ∙ ap (λ f. f * shifts_in t p.leg + slot_by t p) fleet ∙ ap (λ l. entry.fleet * shifts_in t l + slot_by t p) leg ∙ ap (λ k. entry.fleet * shifts_in t entry.leg + k) last in
            grind (arith, nat_tests, leg, choice)
      ]

  pub one_more : (at_first t entry slot p || here) ≡ at_first t entry next p
  one_more = same_tests (at_first t entry slot p || here) (at_first t entry next p) into from

-- one time more
pub times_more : (t : Tables) (entry : PairCost) (slot times : ℕ) (p : Pair) (new mid old : Bool) → times ≡ shifts_in t entry.leg → slot < times
    → new ≡ (mid || ((p.leg == entry.leg) && (p.choice == entry.fleet * times + slot))) → mid ≡ (old || at_first t entry slot p) → new ≡ (old || at_first t entry (slot + 1) p)
times_more t entry slot times p new mid old number within now before =
    now ∙ ap (λ b. b || ((p.leg == entry.leg) && (p.choice == entry.fleet * times + slot))) before
    ∙ ap (λ n. (old || at_first t entry slot p) || ((p.leg == entry.leg) && (p.choice == entry.fleet * n + slot))) number
    ∙ or_assoc old (at_first t entry slot p) _
    ∙ ap (λ b. old || b) (one_more t entry slot (slot + 1) refl (subst (λ n. slot < n) number within) p)

-- each time of the leg is among the first as many as there are
pub at_all : (t : Tables) (entry : PairCost) (p : Pair) → at_first t entry (shifts_in t entry.leg) p ≡ is_of p.leg (fleet_by t p) entry
at_all t entry p = by_test (is_of p.leg (fleet_by t p) entry) (λ is.
    let leg : p.leg ≡ entry.leg = grind (arith, nat_tests, (parts_true (entry.leg == p.leg) (entry.fleet == fleet_by t p) is).0) in
    let within : slot_by t p < shifts_in t entry.leg = subst (λ l. slot_by t p < shifts_in t l) leg (slot_within t p) in
    grind (arith, nat_tests, is, within)) (λ no. grind (arith, nat_tests, no))

pub times_kept : (t : Tables) (entry : PairCost) (times : ℕ) (p : Pair) (new old : Bool) → times ≡ shifts_in t entry.leg
    → new ≡ (old || at_first t entry times p) → new ≡ (old || is_of p.leg (fleet_by t p) entry)
times_kept t entry times p new old number is = is ∙ ap (λ n. old || at_first t entry n p) number ∙ ap (λ b. old || b) (at_all t entry p)

-- ---- pairs by which legs are left out
-- the pair leaves out one of the first legs
abbrev pub out_first : Tables → ℕ → Pair → Bool
out_first t n p = nat_lt p.leg n && ((p.choice == left_out t p.leg) && is_some (leg_of t p.leg).skip)

-- ---- which pairs may be taken
-- no fleet but those of the tables has a cost
no_cost_past : (costs : List PairCost) (legs fleets l f : ℕ) → fleets ≤ f → AllByRecursion (IsPairCost legs fleets) costs → cost_in costs l f ≡ None
no_cost_past [] legs fleets l f past fit = refl
no_cost_past (entry ∷ costs) legs fleets l f past fit =
    let other : is_of l f entry ≡ false = grind (arith, nat_tests, past, fit.0.fleet) in
    rw other (no_cost_past costs legs fleets l f past fit.1)

-- .. and no leg but theirs
no_cost_of_none : (costs : List PairCost) (legs fleets l f : ℕ) → legs ≤ l → AllByRecursion (IsPairCost legs fleets) costs → cost_in costs l f ≡ None
no_cost_of_none [] legs fleets l f past fit = refl
no_cost_of_none (entry ∷ costs) legs fleets l f past fit =
    let other : is_of l f entry ≡ false = grind (arith, nat_tests, past, fit.0.leg) in
    rw other (no_cost_of_none costs legs fleets l f past fit.1)

pub no_cost_of : (t : Tables) (p : Pair) → legs_in t ≤ p.leg → cost_of t p ≡ None
unfolding cost_of
no_cost_of t p past =
    let none = no_cost_of_none t.costs (legs_in t) (fleets_in t) p.leg (fleet_by t p) past (recursion_from_All (IsPairCost (legs_in t) (fleets_in t)) t.costs t.in_range.costs_fit.each) in
    let skip : (leg_of t p.leg).skip ≡ None = ap (λ (leg : Leg). leg.skip) (get_or_past t.legs p.leg no_leg past) in
    ap (λ o. if nat_lt (fleet_by t p) (fleets_in t) then raised o (shift_by t p).extra else if p.choice == left_out t p.leg then (leg_of t p.leg).skip else None) none
    ∙ ap (λ o. if nat_lt (fleet_by t p) (fleets_in t) then None else if p.choice == left_out t p.leg then o else None) skip
    ∙ either (nat_lt (fleet_by t p) (fleets_in t)) (p.choice == left_out t p.leg)
  where
    either : (a b : Bool) → ◌≡◌ {A = Option ℤ} (if a then None else if b then None else None) None
    either true b = refl
    either false true = refl
    either false false = refl

chosen : (b : Bool) (o : Option ℤ) → is_some (if b then o else None) ≡ (b && is_some o)
chosen true o = refl
chosen false o = refl

pub taken : (t : Tables) (p : Pair) → (is_some (cost_in t.costs p.leg (fleet_by t p)) || ((p.choice == left_out t p.leg) && is_some (leg_of t p.leg).skip)) ≡ all_pairs t p
unfolding cost_of
taken t p = elim (cases_lt (fleet_by t p) (fleets_in t)) [
  | inl known ↦
      let flown : nat_lt (fleet_by t p) (fleets_in t) ≡ true = lt-ltb (fleet_by t p) (fleets_in t) known in
      let less = mul-le (fleet_by t p + 1) (shifts_in t p.leg) (fleets_in t) (shifts_in t p.leg) (omega (arith, known)) (omega arith) in
      let apart : (p.choice ≡ left_out t p.leg) → ⊥ = λ same. omega (arith, same, in_block t p, slot_within t p, less) in
      let other : (p.choice == left_out t p.leg) ≡ false = grind (arith, nat_tests, apart) in
      rw (other, flown) (or_false (is_some (cost_in t.costs p.leg (fleet_by t p))) ∙ sym (is_raised (cost_in t.costs p.leg (fleet_by t p)) (shift_by t p).extra))
  | inr past ↦
      let none = no_cost_past t.costs (legs_in t) (fleets_in t) p.leg (fleet_by t p) past (recursion_from_All (IsPairCost (legs_in t) (fleets_in t)) t.costs t.in_range.costs_fit.each) in
      let not_flown : nat_lt (fleet_by t p) (fleets_in t) ≡ false = grind (arith, nat_tests, past) in
      rw (none, not_flown) (sym (chosen (p.choice == left_out t p.leg) (leg_of t p.leg).skip))
]

pub all_out : (t : Tables) (p : Pair) → (is_some (cost_in t.costs p.leg (fleet_by t p)) || out_first t (legs_in t) p) ≡ all_pairs t p
all_out t p = elim (cases_lt p.leg (legs_in t)) [
  | inl below ↦ rw (lt-ltb p.leg (legs_in t) below) (taken t p)
  | inr past ↦
      let none : (leg_of t p.leg).skip ≡ None = ap (λ (leg : Leg). leg.skip) (get_or_past t.legs p.leg no_leg past) in
      let beyond : nat_lt p.leg (legs_in t) ≡ false = grind (arith, nat_tests, past) in
      ap (λ b. is_some (cost_in t.costs p.leg (fleet_by t p)) || (b && ((p.choice == left_out t p.leg) && is_some (leg_of t p.leg).skip))) beyond
      ∙ ap (λ o. is_some (cost_in t.costs p.leg (fleet_by t p)) || o) (sym (and_false (p.choice == left_out t p.leg)) ∙ ap (λ (o : Option ℤ). (p.choice == left_out t p.leg) && is_some o) (sym none))
      ∙ taken t p
]
  where
    and_false : (b : Bool) → (b && false) ≡ false
    and_false true = refl
    and_false false = refl

pub at_end : (t : Tables) (n : ℕ) (p : Pair) (kept : Bool) → n ≡ legs_in t → kept ≡ (is_some (cost_in t.costs p.leg (fleet_by t p)) || out_first t n p) → kept ≡ all_pairs t p
at_end t n p kept all is = is ∙ ap (λ k. is_some (cost_in t.costs p.leg (fleet_by t p)) || out_first t k p) all ∙ all_out t p
