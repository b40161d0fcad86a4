-- Minutes are quiet where no event of the fleet at the station has one of them.
use Rattle.std.proofs.Common.{◌≡◌, ℕ, zero, suc, ◌<◌, ◌==◌, ◌&&◌, Bool, true, false, if◌then◌else◌, List, [], ◌∷◌, length, All, slice_index_or, refl, ◌∙◌, ap, arith}
use Rattle.std.proofs.lemmas.List.{get_or_default}
use Rattle.std.proofs.lemmas.List.Elements.{All-append, All-cons, All-contains, All-nil}
use Rattle.std.proofs.lemmas.List.Sorted.{All-permutation}
use Rattle.std.proofs.lemmas.Bool.{eqb-true}
use Rattle.sums.proofs.Tests.{by_either, never_passes, no_both, parts_true}
use Rattle.fleet_model.specs.declared.tables.Tables.{Tables}
use Rattle.fleet_model.specs.Kept.{Domains}
use Rattle.fleet_model.specs.Schedule.{departures_in, leg_at, leg_of, pair_on}
use Rattle.fleet_model.specs.Times.{departure, ready_minute}
use Rattle.node_aggregate.specs.declared.timeline_net.timeline.Event.{Event}
use Rattle.node_aggregate.specs.timeline_net.Events.{AreEvents, departure_event, events_below, ready_event}
use Rattle.node_aggregate.specs.Nodes.{HappensAt}
use Rattle.node_aggregate.proofs.EventsAmong.{departs_at, ready_at}
use Rattle.node_aggregate.proofs.island_cut.Counted.{count_none}
use Rattle.node_aggregate.specs.EventMinutes.{minute_at, no_event}
use Rattle.node_aggregate.specs.Waits.{happens_among, is_quiet, lies_between}
use Rattle.node_aggregate.proofs.QuietMinutes.{departs_elsewhere, ready_elsewhere}

-- what happens in a minute stands at a place
happens_there : (events : List Event) (ready : Bool) (m : ℕ) → HappensAt events ready m → (k : ℕ) × (k < length events) × (minute_at events k ≡ m)
happens_there events ready m h =
    let e : Event = record { minute = m; ready = ready; departure = h.by } in
    (h.among.0, h.among.1, ap (λ (x : Event). x.minute) (get_or_default events h.among.0 no_event e h.among.1 ∙ h.among.2))

all_where : (b : Bool) (e : Event) (P : Event → Type 0) → (b ≡ true → P e) → All P (if b then e ∷ [] else [])
all_where true e P holds = All-cons P e [] (holds refl) (All-nil P)
all_where false e P holds = All-nil P

module _ (t : Tables) (keeps : Domains) (f s : ℕ) (events : List Event) (are : AreEvents t keeps f s events) (low high : ℕ) where
  pub quiet_where : ((k : ℕ) → k < length events → lies_between low high (minute_at events k) ≡ false) → is_quiet t keeps f s low high ≡ true
  unfolding is_quiet
  quiet_where none = count_none (λ d. keeps (pair_on t d f) && happens_among t s low high (pair_on t d f)) (departures_in t) (λ d below.
      never_passes (keeps (pair_on t d f) && happens_among t s low high (pair_on t d f)) (λ e.
      let parts = parts_true (keeps (pair_on t d f)) _ e in
      by_either (((leg_of t (leg_at t d)).from == s) && lies_between low high (departure t (pair_on t d f))) (((leg_of t (leg_at t d)).to == s) && lies_between low high (ready_minute t (pair_on t d f))) parts.1
      (λ leaves.
      let here = parts_true ((leg_of t (leg_at t d)).from == s) _ leaves in
      let at = happens_there events false (departure t (pair_on t d f)) (departs_at t keeps f s events are d below parts.0 (eqb-true (leg_of t (leg_at t d)).from s here.0)) in
      no_both (none at.0 at.1) (ap (lies_between low high) at.2 ∙ here.1))
      (λ comes.
      let here = parts_true ((leg_of t (leg_at t d)).to == s) _ comes in
      let at = happens_there events true (ready_minute t (pair_on t d f)) (ready_at t keeps f s events are d below parts.0 (eqb-true (leg_of t (leg_at t d)).to s here.0)) in
      no_both (none at.0 at.1) (ap (lies_between low high) at.2 ∙ here.1))))

  abbrev Elsewhere : Event → Type 0
  Elsewhere e = lies_between low high e.minute ≡ false

  none_below : is_quiet t keeps f s low high ≡ true → (n : ℕ) → n < suc (departures_in t) → All Elsewhere (events_below t keeps f s n)
  none_below quiet zero few = All-nil Elsewhere
  none_below quiet (suc n) few =
      let departs = all_where (keeps (pair_on t n f) && ((leg_of t (leg_at t n)).from == s)) (departure_event t f n) Elsewhere
      (λ e. let parts = parts_true (keeps (pair_on t n f)) _ e in departs_elsewhere t keeps f s low high quiet n (omega (arith, few)) parts.0 (eqb-true (leg_of t (leg_at t n)).from s parts.1)) in
      let back = all_where (keeps (pair_on t n f) && ((leg_of t (leg_at t n)).to == s)) (ready_event t f n) Elsewhere
      (λ e. let parts = parts_true (keeps (pair_on t n f)) _ e in ready_elsewhere t keeps f s low high quiet n (omega (arith, few)) parts.0 (eqb-true (leg_of t (leg_at t n)).to s parts.1)) in
      All-append Elsewhere _ _ (All-append Elsewhere _ _ (none_below quiet n (omega (arith, few))) departs) back

  pub where_quiet : is_quiet t keeps f s low high ≡ true → (k : ℕ) → k < length events → lies_between low high (minute_at events k) ≡ false
  where_quiet quiet k within =
      let all = All-permutation Elsewhere _ _ are.each_once (none_below quiet (departures_in t) (omega arith)) in
      All-contains Elsewhere events (slice_index_or events k no_event) all (k, within, get_or_default events k (slice_index_or events k no_event) no_event within)
