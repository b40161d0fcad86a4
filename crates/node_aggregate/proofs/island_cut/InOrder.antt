-- The list of idle minutes rises, and has each idle minute.
use Rattle.std.proofs.Common.{◌≡◌, ℕ, zero, suc, ◌+◌, ◌<◌, ◌==◌, ◌&&◌, ◌||◌, nat_lt, Bool, true, false, if◌then◌else◌, List, [], ◌∷◌, ◌++◌, length, slice_index_or, Contains, append-nil, append_assoc, refl, sym, ◌∙◌, ap, subst, inl, inr, arith}
use Rattle.std.proofs.lemmas.Bool.{cases_lt}
use Rattle.std.proofs.lemmas.Bool.Decides.{nat_tests}
use Rattle.std.proofs.lemmas.List.{get_or_append_left, get_or_default, get_or_push, length_push}
use Rattle.std.proofs.lemmas.List.Elements.{Contains-append_left, Contains-append_right}
use Rattle.sums.proofs.Tests.{by_test, no_both}
use Rattle.fleet_model.specs.declared.tables.Tables.{Tables}
use Rattle.fleet_model.specs.Schedule.{period_of, stations_in}
use Rattle.node_aggregate.specs.declared.island_cut.idle_minutes.Idle.{Idle}
use Rattle.node_aggregate.specs.island_cut.Islands.{idle_at, idles_below, idles_of, is_idle}
use Rattle.node_aggregate.specs.island_cut.Lookup.{IdlesRise, idle_before}
use Rattle.node_aggregate.proofs.island_cut.Listed.{entries_below, entries_of_station, entry_more, first_station, no_entries, station_more}

-- the first of two minutes of stations comes before the other
abbrev is_before : ℕ → ℕ → ℕ → ℕ → Bool
is_before r j s m = nat_lt r s || ((r == s) && nat_lt j m)

abbrev entry_of : List Idle → ℕ → Idle
entry_of idles k = slice_index_or idles k (idle_at 0 0)

-- a list has the idle minutes before a minute of a station, in order
pub record AreBefore (t : Tables) (s n : ℕ) (idles : List Idle) : Type 0 where
  pub rise : IdlesRise idles
  pub before : (k : ℕ) → k < length idles → idle_before (entry_of idles k) s n ≡ true
  pub idle : (k : ℕ) → k < length idles → is_idle t (entry_of idles k).station (entry_of idles k).minute ≡ true
  pub has : (r j : ℕ) → j < period_of t → is_before r j s n ≡ true → is_idle t r j ≡ true → Contains idles (idle_at r j)

-- ---- orders
none_earlier : (r j : ℕ) → is_before r j 0 0 ≡ true → ⊥
none_earlier r j e = grind (arith, nat_tests)

minute_more : (r j s n : ℕ) → is_before r j s n ≡ true → is_before r j s (n + 1) ≡ true
minute_more r j s n e = grind (arith, nat_tests)

just_before : (s n : ℕ) → is_before s n s (n + 1) ≡ true
just_before s n = grind (arith, nat_tests)

last_before : (r j s n : ℕ) → is_before r j s (n + 1) ≡ true → is_before r j s n ≡ false → (r ≡ s) × (j ≡ n)
last_before r j s n e off = (grind (arith, nat_tests), grind (arith, nat_tests))

next_station : (r j s n : ℕ) → is_before r j s n ≡ true → is_before r j (s + 1) 0 ≡ true
next_station r j s n e = grind (arith, nat_tests)

station_before : (r j s n : ℕ) → j < n → is_before r j (s + 1) 0 ≡ true → is_before r j s n ≡ true
station_before r j s n within e = grind (arith, nat_tests)

of_station_before : (r j s : ℕ) → r < s → is_before r j s 0 ≡ true
of_station_before r j s below = grind (arith, nat_tests)

-- ---- one minute more
skipped : (t : Tables) (s n : ℕ) (idles : List Idle) → AreBefore t s n idles → is_idle t s n ≡ false → AreBefore t s (n + 1) idles
skipped t s n idles are off = record {
  rise = are.rise;
  before = λ k within. minute_more (entry_of idles k).station (entry_of idles k).minute s n (are.before k within);
  idle = are.idle;
  has = λ r j within e on. by_test (is_before r j s n)
      (λ earlier. are.has r j within earlier on)
      (λ later. let same = last_before r j s n e later in absurd (no_both off (subst (λ i. is_idle t s i ≡ true) same.1 (subst (λ i. is_idle t i j ≡ true) same.0 on))));
}

module _ (t : Tables) (s n : ℕ) (idles : List Idle) (are : AreBefore t s n idles) (on : is_idle t s n ≡ true) where
  abbrev grown : List Idle
  grown = idles ++ idle_at s n ∷ []

  old_entry : (k : ℕ) → k < length idles → entry_of grown k ≡ entry_of idles k
  old_entry k within = get_or_append_left idles (idle_at s n ∷ []) (idle_at 0 0) k within

  new_entry : (k : ℕ) → length idles ≡ k → entry_of grown k ≡ idle_at s n
  new_entry k last = get_or_push idles (idle_at s n) (idle_at 0 0) k last

  -- what holds of the old entries and of the new one holds of all
  of_all : (P : Idle → Type 0) → ((k : ℕ) → k < length idles → P (entry_of idles k)) → P (idle_at s n) → (k : ℕ) → k < length grown → P (entry_of grown k)
  of_all P old new k within = elim (cases_lt k (length idles)) [
    | inl before ↦ subst P (sym (old_entry k before)) (old k before)
    | inr after ↦ let last : length idles ≡ k = omega (arith, after, within, length_push idles (idle_at s n)) in subst P (sym (new_entry k last)) new
  ]

  rise_more : IdlesRise grown
  rise_more = record {
    each = λ i j earlier within. elim (cases_lt j (length idles)) [
      | inl old ↦
          let first = old_entry i (omega (arith, earlier, old)) in
          let second = old_entry j old in
          subst (λ e. idle_before (entry_of grown i) e.station e.minute ≡ true) (sym second) (subst (λ e. idle_before e (entry_of idles j).station (entry_of idles j).minute ≡ true) (sym first) (are.rise.each i j earlier old))
      | inr new ↦
          let last : length idles ≡ j = omega (arith, new, within, length_push idles (idle_at s n)) in
          let first = old_entry i (omega (arith, earlier, last)) in
          subst (λ e. idle_before (entry_of grown i) e.station e.minute ≡ true) (sym (new_entry j last)) (subst (λ e. idle_before e s n ≡ true) (sym first) (are.before i (omega (arith, earlier, last))))
    ];
  }

  pushed : AreBefore t s (n + 1) grown
  pushed = record {
    rise = rise_more;
    before = of_all (λ e. idle_before e s (n + 1) ≡ true) (λ k within. minute_more (entry_of idles k).station (entry_of idles k).minute s n (are.before k within)) (just_before s n);
    idle = of_all (λ e. is_idle t e.station e.minute ≡ true) are.idle on;
    has = λ r j within e idle. by_test (is_before r j s n)
        (λ earlier. Contains-append_left idles (idle_at s n ∷ []) (idle_at r j) (are.has r j within earlier idle))
        (λ later.
        let same = last_before r j s n e later in
        let is : idle_at s n ≡ idle_at r j = ap (λ i. idle_at i n) (sym same.0) ∙ ap (idle_at r) (sym same.1) in
        subst (Contains grown) is (Contains-append_right idles (idle_at s n ∷ []) (idle_at s n) (0, omega arith, refl)));
  }

minute_added : (t : Tables) (s n : ℕ) (idles : List Idle) → AreBefore t s n idles → (b : Bool) → is_idle t s n ≡ b → AreBefore t s (n + 1) (idles ++ (if b then idle_at s n ∷ [] else []))
minute_added t s n idles are true e = pushed t s n idles are e
minute_added t s n idles are false e = subst (AreBefore t s (n + 1)) (sym (append-nil idles)) (skipped t s n idles are e)

-- ---- minute by minute, station by station
minutes_before : (t : Tables) (s n : ℕ) → AreBefore t s 0 (idles_below t s) → AreBefore t s n (idles_below t s ++ entries_below t s n)
minutes_before t s zero front = subst (AreBefore t s 0) (sym (ap (λ xs. idles_below t s ++ xs) (no_entries t s) ∙ append-nil (idles_below t s))) front
minutes_before t s (suc n) front =
    let next : n + 1 ≡ suc n = omega arith in
    let more = minute_added t s n (idles_below t s ++ entries_below t s n) (minutes_before t s n front) (is_idle t s n) refl in
    let list = append_assoc (idles_below t s) (entries_below t s n) (if is_idle t s n then idle_at s n ∷ [] else []) ∙ ap (λ xs. idles_below t s ++ xs) (sym (entry_more t s n)) in
    subst (λ k. AreBefore t s k (idles_below t s ++ entries_below t s k)) next (subst (AreBefore t s (n + 1)) list more)

station_done : (t : Tables) (s : ℕ) (idles : List Idle) → AreBefore t s (period_of t) idles → AreBefore t (s + 1) 0 idles
station_done t s idles are = record {
  rise = are.rise;
  before = λ k within. next_station (entry_of idles k).station (entry_of idles k).minute s (period_of t) (are.before k within);
  idle = are.idle;
  has = λ r j within e on. are.has r j within (station_before r j s (period_of t) within e) on;
}

stations_before : (t : Tables) (n : ℕ) → AreBefore t n 0 (idles_below t n)
stations_before t zero = subst (AreBefore t 0 0) (sym (first_station t)) (record {
  rise = record { each = λ i j earlier within. absurd (omega arith) };
  before = λ k within. absurd (omega arith);
  idle = λ k within. absurd (omega arith);
  has = λ r j within e on. absurd (none_earlier r j e);
})
stations_before t (suc s) =
    let next : s + 1 ≡ suc s = omega arith in
    let whole = minutes_before t s (period_of t) (stations_before t s) in
    let list = ap (λ xs. idles_below t s ++ xs) (entries_of_station t s (period_of t) refl) ∙ sym (station_more t s) in
    subst (λ k. AreBefore t k 0 (idles_below t k)) next (station_done t s (idles_below t (s + 1)) (subst (AreBefore t s (period_of t)) list whole))

-- ---- what the list has
pub idles_rise : (t : Tables) → IdlesRise (idles_of t)
idles_rise t = (stations_before t (stations_in t)).rise

pub idle_listed : (t : Tables) (s m : ℕ) → s < stations_in t → m < period_of t → is_idle t s m ≡ true → Contains (idles_of t) (idle_at s m)
idle_listed t s m station minute on = (stations_before t (stations_in t)).has s m minute (of_station_before s m (stations_in t) station) on

pub listed_idle : (t : Tables) (s m : ℕ) → Contains (idles_of t) (idle_at s m) → is_idle t s m ≡ true
listed_idle t s m found =
    let here : entry_of (idles_of t) found.0 ≡ idle_at s m = get_or_default (idles_of t) found.0 (idle_at 0 0) (idle_at s m) found.1 ∙ found.2 in
    subst (λ e. is_idle t e.station e.minute ≡ true) here ((stations_before t (stations_in t)).idle found.0 found.1)
