-- Which entry of a list of costs `cost_in` finds.
use Rattle.std.proofs.Common.{◌≡◌, ℕ, zero, suc, ◌+◌, ◌<◌, ◌≤◌, List, [], ◌∷◌, length, Bool, true, false, Some, None, slice_index_or, refl, inl, inr, arith, sym, Result, Ok, Err, MatchResult, IsTrue, IfSome, if◌then◌else◌}
use mathlib.Core.Bool.{false≢true}
use Rattle.std.specs.List.{IsAllAdjacentAnswer, AllByRecursion}
use Rattle.std.specs.List.Sorted.{IsSearchInRange, IsBinarySearchResult, IsNonDecreasingBy}
use Rattle.std.specs.declared.cmp.Ordering.{Ordering}
use Rattle.std.specs.declared.cmp.Ordering.TheVariants.{Less, Equal, Greater}
use Rattle.std.specs.Ordering.{nat_cmp, ordering_then, ordering_index}
use Rattle.std.proofs.lemmas.List.Sorted.{IsNonDecreasingBy-from_default}
use Rattle.fleet_model.specs.Limits.{IsPairCost, IsCostUpTo}
use Rattle.std.proofs.lemmas.Bool.{cases_lt}
use Rattle.std.proofs.lemmas.Bool.Decides.{nat_tests}
use Rattle.fleet_model.specs.declared.costs.Key.{Key}
use Rattle.fleet_model.specs.declared.parts.PairCost.{PairCost}
use Rattle.fleet_model.specs.Costs.{cost_in, is_of, no_cost, comes_before, Rise}

-- no entry before this place is of the leg and the fleet
pub record NoneBefore (entries : List PairCost) (leg fleet place : ℕ) : Type 0 where
  pub each : (k : ℕ) → k < place → is_of leg fleet (slice_index_or entries k no_cost) ≡ false

none_in_tail : (entry : PairCost) (entries : List PairCost) (leg fleet place : ℕ) → NoneBefore (entry ∷ entries) leg fleet (suc place) → NoneBefore entries leg fleet place
none_in_tail entry entries leg fleet place none = record { each = λ k below. none.each (suc k) (omega arith) }

-- the first entry of a leg and a fleet gives the cost
pub cost_found : (entries : List PairCost) (leg fleet place : ℕ) → place < length entries → is_of leg fleet (slice_index_or entries place no_cost) ≡ true → NoneBefore entries leg fleet place
    → cost_in entries leg fleet ≡ Some (slice_index_or entries place no_cost).cost
cost_found [] leg fleet place within found none = absurd (omega arith)
cost_found (entry ∷ entries) leg fleet zero within found none = rw found refl
cost_found (entry ∷ entries) leg fleet (suc place) within found none =
    rw (none.each 0 (omega arith)) (cost_found entries leg fleet place (omega arith) found (none_in_tail entry entries leg fleet place none))

-- a leg has no cost with a fleet where there is no entry of them
pub cost_missing : (entries : List PairCost) (leg fleet : ℕ) → NoneBefore entries leg fleet (length entries) → cost_in entries leg fleet ≡ None
cost_missing [] leg fleet none = refl
cost_missing (entry ∷ entries) leg fleet none =
    rw (none.each 0 (omega arith)) (cost_missing entries leg fleet (none_in_tail entry entries leg fleet _ none))

-- the order of entries is transitive
before_trans : (a b c : PairCost) → comes_before a b ≡ true → comes_before b c ≡ true → comes_before a c ≡ true
before_trans a b c first second = grind (arith, nat_tests)

-- each entry comes before the next one
pub record RiseByStep (entries : List PairCost) : Type 0 where
  pub each : (k next : ℕ) → next ≡ k + 1 → next < length entries → comes_before (slice_index_or entries k no_cost) (slice_index_or entries next no_cost) ≡ true

-- so it comes before all those after it
pub rise_from_steps : (entries : List PairCost) → RiseByStep entries → Rise entries
rise_from_steps entries steps i zero earlier within = absurd (omega arith)
rise_from_steps entries steps i (suc j) earlier within = elim (cases_lt i j) [
  | inl before ↦ before_trans (slice_index_or entries i no_cost) (slice_index_or entries j no_cost) (slice_index_or entries (suc j) no_cost)
      (rise_from_steps entries steps i j before (omega arith)) (steps.each j (suc j) (omega arith) within)
  | inr after ↦ steps.each i (suc j) (omega arith) within
]

-- an entry of a leg and a fleet, among entries that rise, is the first of them
only_before : (entries : List PairCost) (leg fleet place : ℕ) → Rise entries → place < length entries → is_of leg fleet (slice_index_or entries place no_cost) ≡ true → NoneBefore entries leg fleet place
only_before entries leg fleet place rise within found = record {
  each = λ k below.
      let earlier : comes_before (slice_index_or entries k no_cost) (slice_index_or entries place no_cost) ≡ true = rise k place below within in
      grind (arith, nat_tests);
}

pub cost_at : (entries : List PairCost) (leg fleet place : ℕ) → Rise entries → place < length entries → is_of leg fleet (slice_index_or entries place no_cost) ≡ true
    → cost_in entries leg fleet ≡ Some (slice_index_or entries place no_cost).cost
cost_at entries leg fleet place rise within found = cost_found entries leg fleet place within found (only_before entries leg fleet place rise within found)

-- what a test of neighbors says
pub steps_from_answer : (entries : List PairCost) (rising : Bool) → IsAllAdjacentAnswer (λ a b answer. answer ≡ comes_before a b) entries rising → IsTrue rising → RiseByStep entries
steps_from_answer entries true answer holds = record {
  each = λ k next follows within.
      rw follows (sym (answer k no_cost (omega arith)));
}
steps_from_answer entries false answer holds = absurd (false≢true holds)

-- the leg and the fleet of an entry
abbrev pub key_of : PairCost → Key
key_of entry = record { leg = entry.leg; fleet = entry.fleet }

-- how an entry compares with a leg and a fleet
abbrev pub order_of : ℕ → ℕ → PairCost → Ordering
order_of leg fleet entry = ordering_then (nat_cmp entry.leg leg) (nat_cmp entry.fleet fleet)

order_equal : (a : PairCost) (leg fleet : ℕ) → order_of leg fleet a ≡ Equal → is_of leg fleet a ≡ true
order_equal a leg fleet e = grind (arith, nat_tests)

order_less : (a : PairCost) (leg fleet : ℕ) → order_of leg fleet a ≡ Less → is_of leg fleet a ≡ false
order_less a leg fleet e = grind (arith, nat_tests)

order_greater : (a : PairCost) (leg fleet : ℕ) → order_of leg fleet a ≡ Greater → is_of leg fleet a ≡ false
order_greater a leg fleet e = grind (arith, nat_tests)

order_step : (a b : PairCost) (leg fleet : ℕ) → comes_before a b ≡ true → ordering_index (order_of leg fleet a) ≤ ordering_index (order_of leg fleet b)
order_step a b leg fleet before = grind (arith, nat_tests)

-- entries that rise compare with a leg and a fleet in order
pub orders_rise : (entries : List PairCost) (leg fleet : ℕ) → Rise entries → IsNonDecreasingBy (λ entry. ordering_index (order_of leg fleet entry)) entries
orders_rise entries leg fleet rise = IsNonDecreasingBy-from_default (λ entry. ordering_index (order_of leg fleet entry)) entries no_cost (λ i j le within. elim (cases_lt i j) [
  | inl before ↦ order_step (slice_index_or entries i no_cost) (slice_index_or entries j no_cost) leg fleet (rise i j before within)
  | inr after ↦ let same : i ≡ j = omega arith in rw same (omega arith)
])

-- what a bisection finds
pub bisected : (entries : List PairCost) (leg fleet : ℕ) → Rise entries → (r : Result ℕ ℕ) → IsSearchInRange r (length entries) → IsBinarySearchResult (order_of leg fleet) entries r
    → MatchResult r (λ place. cost_in entries leg fleet ≡ Some (slice_index_or entries place no_cost).cost) (λ _. cost_in entries leg fleet ≡ None)
bisected entries leg fleet rise (Ok place) within equal = cost_at entries leg fleet place rise within (order_equal (slice_index_or entries place no_cost) leg fleet (equal no_cost))
bisected entries leg fleet rise (Err gap) within parted =
    let parts = parted (orders_rise entries leg fleet rise) in
    cost_missing entries leg fleet (record {
      each = λ k below. elim (cases_lt k gap) [
        | inl low ↦ order_less (slice_index_or entries k no_cost) leg fleet (parts.0 k no_cost (omega arith) low)
        | inr high ↦ order_greater (slice_index_or entries k no_cost) leg fleet (parts.1 k no_cost high below)
      ];
    })

-- a cost that is found stands in the list, so what all entries keep it keeps
pub found_fits : (entries : List PairCost) (leg fleet : ℕ) (legs fleets : ℕ) → AllByRecursion (IsPairCost legs fleets) entries → IfSome (cost_in entries leg fleet) (IsCostUpTo 2)
found_fits [] leg fleet legs fleets fit = tt
found_fits (entry ∷ entries) leg fleet legs fleets fit = elim (is_of leg fleet entry) as (λ b. IfSome (if b then Some entry.cost else cost_in entries leg fleet) (IsCostUpTo 2)) [
  | true ↦ fit.0.cost
  | false ↦ found_fits entries leg fleet legs fleets fit.1
]
