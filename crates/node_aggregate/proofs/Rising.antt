-- Starts that rise from 0: the place of a minute among them.
use Rattle.std.proofs.Common.{◌≡◌, ℕ, zero, suc, ◌-◌, ◌<◌, ◌≤◌, List, length, get_or, arith, inl, inr}
use Rattle.std.proofs.lemmas.Bool.{cases_lt}
use Rattle.std.specs.List.Sorted.{IsNonDecreasingBy}
use Rattle.std.proofs.lemmas.Grind.{get_or_default_zero}
use Rattle.node_aggregate.specs.Nodes.{IsNodeOf, RiseFromZero}

pub place_low : (starts : List ℕ) → RiseFromZero starts → (k : ℕ) → k < length starts → k ≤ get_or starts k 0
place_low starts rising zero within = omega arith
place_low starts rising (suc k) within = omega (arith, place_low starts rising k (omega arith), rising.rise k (suc k) (omega arith) within)

pub non_decreasing : (starts : List ℕ) → RiseFromZero starts → IsNonDecreasingBy (λ s. s) starts
non_decreasing starts rising i j d order within =
    let first = get_or_default_zero starts i d (omega arith) in
    let second = get_or_default_zero starts j d within in
    elim (cases_lt i j) [
      | inl less ↦ omega (arith, first, second, rising.rise i j less within)
      | inr same ↦ let equal : i ≡ j = omega arith in rw equal (omega arith)
    ]

-- where the first starts up to a place are at most the minute, and the others later, that of the last one is its node's
pub record Cuts (starts : List ℕ) (minute point : ℕ) : Type 0 where
  pub no_more : point ≤ length starts
  pub before : (k : ℕ) → k < point → get_or starts k 0 ≤ minute
  pub after : (k : ℕ) → point ≤ k → k < length starts → minute < get_or starts k 0

pub some_before : (starts : List ℕ) (minute point : ℕ) → RiseFromZero starts → Cuts starts minute point → 1 ≤ point
some_before starts minute zero rising cut = absurd (omega (arith, cut.after 0 (omega arith) rising.some, rising.first))
some_before starts minute (suc n) rising cut = omega arith

pub no_later : (starts : List ℕ) (minute point : ℕ) → RiseFromZero starts → Cuts starts minute point → point - 1 ≤ minute
no_later starts minute zero rising cut = omega arith
no_later starts minute (suc n) rising cut = omega (arith, cut.before n (omega arith), place_low starts rising n (omega (arith, cut.no_more)))

pub node_at_cut : (starts : List ℕ) (minute point : ℕ) → RiseFromZero starts → Cuts starts minute point → IsNodeOf starts minute (point - 1)
node_at_cut starts minute zero rising cut = absurd (omega (arith, some_before starts minute zero rising cut))
node_at_cut starts minute (suc n) rising cut =
    let same : suc n - 1 ≡ n = omega arith in
    rw same (record {
      within = omega (arith, cut.no_more);
      started = cut.before n (omega arith);
      last = λ k above within. cut.after k (omega arith) within;
    })
