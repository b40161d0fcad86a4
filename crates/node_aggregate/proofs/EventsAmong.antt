-- Which events a fleet has at a station.
use Rattle.std.proofs.Common.{◌≡◌, ℕ, zero, suc, ◌+◌, ◌<◌, Bool, true, false, if◌then◌else◌, ◌==◌, ◌&&◌, List, [], ◌∷◌, ◌++◌, All, Contains, refl, inl, inr, arith}
use Rattle.std.proofs.lemmas.Bool.{cases_lt}
use Rattle.std.proofs.lemmas.List.Elements.{All-append, All-contains, All-nil, All-cons, Contains-append_left, Contains-append_right}
use Rattle.std.proofs.lemmas.List.Sorted.{All-permutation, Contains-permutation}
use Rattle.sums.proofs.Naturals.{equal_number}
use Rattle.sums.proofs.Tests.{both_true}
use Rattle.fleet_model.specs.declared.tables.Tables.{Tables}
use Rattle.fleet_model.specs.Kept.{Domains}
use Rattle.fleet_model.specs.Schedule.{departures_in, leg_at, leg_of, pair_on, period_of}
use Rattle.fleet_model.specs.Times.{busy_minutes, departure, ready_minute}
use Rattle.fleet_model.proofs.PeriodMinutes.{departs_always, in_period}
use Rattle.node_aggregate.specs.declared.timeline_net.timeline.Event.{Event}
use Rattle.node_aggregate.specs.timeline_net.Events.{AreEvents, departure_event, departure_events, events_below, readies_of, ready_event}
use Rattle.node_aggregate.specs.Nodes.{HappensAt}

-- an event that stands where a test passes
one_where : (b : Bool) (e : Event) → b ≡ true → Contains (if b then e ∷ [] else []) e
one_where true e _ = (0, omega arith, refl)
one_where false e passes = cc

all_where : (b : Bool) (e : Event) (P : Event → Type 0) → P e → All P (if b then e ∷ [] else [])
all_where true e P holds = All-cons P e [] holds (All-nil P)
all_where false e P holds = All-nil P

module _ (t : Tables) (keeps : Domains) (f s : ℕ) where
  departs_below : (d n : ℕ) → d < n → keeps (pair_on t d f) ≡ true → (leg_of t (leg_at t d)).from ≡ s → Contains (events_below t keeps f s n) (departure_event t f d)
  departs_below d zero below kept from = absurd (omega arith)
  departs_below d (suc n) below kept from = elim (cases_lt d n) [
    | inl before ↦ Contains-append_left _ _ _ (Contains-append_left _ _ _ (departs_below d n before kept from))
    | inr last ↦
        let same : d ≡ n = omega arith in
        rw (← same) (Contains-append_left _ _ _ (Contains-append_right (events_below t keeps f s d) (departure_events t keeps f s d) _
        (one_where (keeps (pair_on t d f) && ((leg_of t (leg_at t d)).from == s)) _ (both_true _ _ kept (equal_number _ _ from)))))
  ]

  ready_below : (d n : ℕ) → d < n → keeps (pair_on t d f) ≡ true → (leg_of t (leg_at t d)).to ≡ s → Contains (events_below t keeps f s n) (ready_event t f d)
  ready_below d zero below kept to = absurd (omega arith)
  ready_below d (suc n) below kept to = elim (cases_lt d n) [
    | inl before ↦ Contains-append_left _ _ _ (Contains-append_left _ _ _ (ready_below d n before kept to))
    | inr last ↦
        let same : d ≡ n = omega arith in
        rw (← same) (Contains-append_right (events_below t keeps f s d ++ departure_events t keeps f s d) (readies_of t keeps f s d) _
        (one_where (keeps (pair_on t d f) && ((leg_of t (leg_at t d)).to == s)) _ (both_true _ _ kept (equal_number _ _ to))))
  ]

  within_period : (n : ℕ) → All (λ e. e.minute < period_of t) (events_below t keeps f s n)
  within_period zero = All-nil (λ e. e.minute < period_of t)
  within_period (suc n) =
      let P = λ (e : Event). e.minute < period_of t in
      let departs = all_where (keeps (pair_on t n f) && ((leg_of t (leg_at t n)).from == s)) (departure_event t f n) P (departs_always t (pair_on t n f)) in
      let back = all_where (keeps (pair_on t n f) && ((leg_of t (leg_at t n)).to == s)) (ready_event t f n) P (in_period t (departure t (pair_on t n f) + busy_minutes t (pair_on t n f))) in
      All-append P _ _ (All-append P _ _ (within_period n) departs) back

-- the departure and the ready minute of a kept pair are among the events
pub departs_at : (t : Tables) (keeps : Domains) (f s : ℕ) (events : List Event) → AreEvents t keeps f s events → (d : ℕ) → d < departures_in t → keeps (pair_on t d f) ≡ true → (leg_of t (leg_at t d)).from ≡ s
    → HappensAt events false (departure t (pair_on t d f))
departs_at t keeps f s events happen d below kept from = record { by = d; among = Contains-permutation _ _ _ happen.each_once (departs_below t keeps f s d (departures_in t) below kept from) }

pub ready_at : (t : Tables) (keeps : Domains) (f s : ℕ) (events : List Event) → AreEvents t keeps f s events → (d : ℕ) → d < departures_in t → keeps (pair_on t d f) ≡ true → (leg_of t (leg_at t d)).to ≡ s
    → HappensAt events true (ready_minute t (pair_on t d f))
ready_at t keeps f s events happen d below kept to = record { by = d; among = Contains-permutation _ _ _ happen.each_once (ready_below t keeps f s d (departures_in t) below kept to) }

-- what happens, happens within the period
pub happens_within : (t : Tables) (keeps : Domains) (f s : ℕ) (events : List Event) → AreEvents t keeps f s events → (ready : Bool) (minute : ℕ) → HappensAt events ready minute → minute < period_of t
happens_within t keeps f s events happen ready minute h =
    let all = All-permutation (λ e. e.minute < period_of t) _ _ happen.each_once (within_period t keeps f s (departures_in t)) in
    All-contains (λ e. e.minute < period_of t) events _ all h.among
