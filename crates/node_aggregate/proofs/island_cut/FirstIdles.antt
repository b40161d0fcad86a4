-- Idle minutes that rise: where they part, and which entry is the first of a station from a minute on.
use Rattle.std.proofs.Common.{◌≡◌, ℕ, ◌<◌, ◌≤◌, ◌==◌, ◌&&◌, ◌||◌, nat_lt, true, false, List, length, slice_index_or, Contains, MatchOption, sym, ◌∙◌, ap, subst, inl, inr, arith}
use Rattle.std.specs.Bool.{then_some}
use Rattle.std.specs.List.Sorted.{IsPartitionedBy}
use Rattle.std.proofs.lemmas.Bool.{cases_lt, eqb-false}
use Rattle.std.proofs.lemmas.Bool.Decides.{nat_tests}
use Rattle.std.proofs.lemmas.List.{get_or_default}
use Rattle.sums.proofs.Tests.{by_test, no_both}
use Rattle.node_aggregate.specs.declared.island_cut.idle_minutes.Idle.{Idle}
use Rattle.node_aggregate.specs.island_cut.Islands.{idle_at}
use Rattle.node_aggregate.specs.island_cut.Lookup.{IdlesRise, IsFirstIdle, IsPartingIdles, idle_before}

-- the order is transitive
before_trans : (a b c : ℕ) (x y z : ℕ) → (nat_lt a b || ((a == b) && nat_lt x y)) ≡ true → (nat_lt b c || ((b == c) && nat_lt y z)) ≡ true → (nat_lt a c || ((a == c) && nat_lt x z)) ≡ true
before_trans a b c x y z first second = grind (arith, nat_tests)

-- so the entries before a minute of a station stand in front
pub partitioned : (idles : List Idle) (s m : ℕ) → IdlesRise idles → IsPartitionedBy (λ e. idle_before e s m) idles
partitioned idles s m rise i j d order within by = elim (cases_lt i j) [
  | inl before ↦
      let first : slice_index_or idles i d ≡ slice_index_or idles i (idle_at 0 0) = get_or_default idles i d (idle_at 0 0) (omega arith) in
      let second : slice_index_or idles j d ≡ slice_index_or idles j (idle_at 0 0) = get_or_default idles j d (idle_at 0 0) within in
      let x = slice_index_or idles i (idle_at 0 0) in
      let y = slice_index_or idles j (idle_at 0 0) in
      let there : idle_before y s m ≡ true = ap (λ e. idle_before e s m) (sym second) ∙ by in
      ap (λ e. idle_before e s m) first ∙ before_trans x.station y.station s x.minute y.minute m (rise.each i j before within) there
  | inr after ↦ let same : i ≡ j = omega arith in subst (λ k. idle_before (slice_index_or idles k d) s m ≡ true) (sym same) by
]

-- an entry of the station that isn't before the minute is no earlier
no_earlier_there : (r s n m : ℕ) → r ≡ s → (nat_lt r s || ((r == s) && nat_lt n m)) ≡ false → m ≤ n
no_earlier_there r s n m same fails = grind (arith, nat_tests)

-- an entry from a minute on isn't before it
not_before : (s n m : ℕ) → m ≤ n → (nat_lt s s || ((s == s) && nat_lt n m)) ≡ false
not_before s n m order = grind (arith, nat_tests)

-- an entry that an earlier one of the station comes before is later
later_there : (r s n m : ℕ) → r ≡ s → (nat_lt r s || ((r == s) && nat_lt n m)) ≡ true → n ≤ m
later_there r s n m same before = grind (arith, nat_tests)

-- an entry that isn't before a minute of a station, and isn't of the station, isn't before another minute of it
other_station : (r s n from m : ℕ) → (r ≡ s → ⊥) → (nat_lt r s || ((r == s) && nat_lt n from)) ≡ false → (nat_lt r s || ((r == s) && nat_lt n m)) ≡ true → ⊥
other_station r s n from m other fails before = grind (arith, nat_tests)

module _ (idles : List Idle) (s from place : ℕ) (rise : IdlesRise idles) (parts : IsPartingIdles idles s from place) where
  abbrev entry_of : ℕ → Idle
  entry_of k = slice_index_or idles k (idle_at 0 0)

  -- what stands in the list stands at a place from there on
  stands : (m : ℕ) → from ≤ m → (found : Contains idles (idle_at s m)) → place ≤ found.0
  stands m order found = elim (cases_lt found.0 place) [
    | inl before ↦
        let here : entry_of found.0 ≡ idle_at s m = get_or_default idles found.0 (idle_at 0 0) (idle_at s m) found.1 ∙ found.2 in
        absurd (no_both (not_before s m from order) (ap (λ e. idle_before e s from) (sym here) ∙ parts.before found.0 before))
    | inr after ↦ after
  ]

  none_at_end : length idles ≤ place → (m : ℕ) → from ≤ m → ¬ (Contains idles (idle_at s m))
  none_at_end end m order found = omega (arith, end, stands m order found, found.1)

  -- an entry at the place, of another station
  none_of_other : place < length idles → ((entry_of place).station ≡ s → ⊥) → (m : ℕ) → from ≤ m → ¬ (Contains idles (idle_at s m))
  none_of_other within other m order found = elim (cases_lt place found.0) [
    | inl before ↦
        let here : entry_of found.0 ≡ idle_at s m = get_or_default idles found.0 (idle_at 0 0) (idle_at s m) found.1 ∙ found.2 in
        let first = ap (λ e. idle_before (entry_of place) e.station e.minute) (sym here) ∙ rise.each place found.0 before found.1 in
        other_station (entry_of place).station s (entry_of place).minute from m other (parts.after place (omega arith) within) first
    | inr after ↦
        let same : found.0 ≡ place = omega (arith, after, stands m order found) in
        other (ap (λ k. (entry_of k).station) (sym same) ∙ ap (λ e. e.station) (get_or_default idles found.0 (idle_at 0 0) (idle_at s m) found.1 ∙ found.2))
  ]

  no_later : (m : ℕ) → from ≤ m → (found : Contains idles (idle_at s m)) → place < length idles → (entry_of place).station ≡ s → (entry_of place).minute ≤ m
  no_later m order found within same = elim (cases_lt place found.0) [
    | inl before ↦ later_there (entry_of place).station s (entry_of place).minute m same
        (ap (λ e. idle_before (entry_of place) e.station e.minute) (sym (get_or_default idles found.0 (idle_at 0 0) (idle_at s m) found.1 ∙ found.2)) ∙ rise.each place found.0 before found.1)
    | inr after ↦
        let at : found.0 ≡ place = omega (arith, after, stands m order found) in
        let is : (entry_of place).minute ≡ m = ap (λ k. (entry_of k).minute) (sym at) ∙ ap (λ e. e.minute) (get_or_default idles found.0 (idle_at 0 0) (idle_at s m) found.1 ∙ found.2) in
        omega (arith, is)
  ]

  first_there : place < length idles → (entry_of place).station ≡ s → IsFirstIdle idles s from (entry_of place).minute
  first_there within same = record {
    no_earlier = no_earlier_there (entry_of place).station s (entry_of place).minute from same (parts.after place (omega arith) within);
    among = (place, within, get_or_default idles place (idle_at s (entry_of place).minute) (idle_at 0 0) within ∙ itself (entry_of place) same);
    first = λ m order found. no_later m order found within same;
  }
    where
      itself : (e : Idle) → e.station ≡ s → e ≡ idle_at s e.minute
      itself e is = ap (λ r. idle_at r e.minute) is

-- what an entry of the place says
pub found_at : (idles : List Idle) (s from place : ℕ) (entry : Idle) → IdlesRise idles → IsPartingIdles idles s from place → place < length idles → entry ≡ slice_index_or idles place (idle_at 0 0)
    → MatchOption (then_some (entry.station == s) entry.minute) ((m : ℕ) → from ≤ m → ¬ (Contains idles (idle_at s m))) (IsFirstIdle idles s from)
found_at idles s from place entry rise parts within is = by_test (entry.station == s)
    (λ e.
    let same : entry.station ≡ s = grind (arith, nat_tests) in
    rw e (subst (λ n. IsFirstIdle idles s from n) (sym (ap (λ x. x.minute) is)) (first_there idles s from place rise parts within (sym (ap (λ x. x.station) is) ∙ same))))
    (λ e.
    let other : (slice_index_or idles place (idle_at 0 0)).station ≡ s → ⊥ = λ same. eqb-false entry.station s e (ap (λ x. x.station) is ∙ same) in
    rw e (none_of_other idles s from place rise parts within other))

pub found_none : (idles : List Idle) (s from place : ℕ) → IdlesRise idles → IsPartingIdles idles s from place → length idles ≤ place → (m : ℕ) → from ≤ m → ¬ (Contains idles (idle_at s m))
found_none idles s from place rise parts end = none_at_end idles s from place rise parts end
