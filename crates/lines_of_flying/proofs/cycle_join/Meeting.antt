-- Turns that meet touch one minute, and turns of different labels that touch one meet.
use Rattle.std.proofs.Common.{◌≡◌, ◌≢◌, ℕ, ◌<◌, ◌⊎◌, inl, inr, Bool, true, false, ◌||◌, List, length, sym, ◌∙◌, ap, arith}
use Rattle.std.proofs.lemmas.Bool.{and_from, and_parts, cases_order, eq-eqb, eqb-true, lt-ltb, ltb-true}
use Rattle.sums.proofs.Tests.{by_either, no_both}
use Rattle.fleet_model.specs.declared.parts.Connection.{Connection}
use Rattle.fleet_model.specs.declared.tables.Tables.{Tables}
use Rattle.fleet_model.specs.Schedule.{period_of}
use Rattle.lines_of_flying.specs.ground_turns.Laws.{Touch}
use Rattle.lines_of_flying.specs.ground_turns.Maps.{IsSuccessorMap, arrivals_of, turn_at}
use Rattle.lines_of_flying.specs.ground_turns.Parts.{NeverTouches, TouchesFreely}
use Rattle.lines_of_flying.specs.ground_turns.Turns.{ready_at, station_at, touches, wait_of}
use Rattle.lines_of_flying.proofs.ground_turns.Waits.{ready_within}
use Rattle.lines_of_flying.proofs.ground_turns.WalkRound.{touches_ready}
use Rattle.lines_of_flying.specs.cycle_join.Labels.{label_of}
use Rattle.lines_of_flying.specs.cycle_join.Meetings.{meets_cycle, share_minute}
use Rattle.lines_of_flying.proofs.cycle_join.Arcs.{one_touches}

-- what it says that two turns meet
pub record AreMeeting (t : Tables) (f : ℕ) (pairs : List Connection) (labels : List ℕ) (turn other : Connection) : Type 0 where
  pub lower : label_of labels other.arriving < label_of labels turn.arriving
  pub free : arrivals_of pairs turn.arriving ≡ 0
  pub other_free : arrivals_of pairs other.arriving ≡ 0
  pub together : station_at t turn ≡ station_at t other
  pub shared : share_minute t f turn other ≡ true

module _ (t : Tables) (f : ℕ) (pairs : List Connection) (labels : List ℕ) (turn other : Connection) where
  pub are_meeting : meets_cycle t f pairs labels turn other ≡ true → AreMeeting t f pairs labels turn other
  are_meeting e =
      let last = and_parts _ _ e in
      let there = and_parts _ _ last.0 in
      let third = and_parts _ _ there.0 in
      let front = and_parts _ _ third.0 in
      record {
        lower = ltb-true _ _ front.0;
        free = eqb-true _ _ front.1;
        other_free = eqb-true _ _ third.1;
        together = eqb-true _ _ there.1;
        shared = last.1;
      }

  pub meets_true : AreMeeting t f pairs labels turn other → meets_cycle t f pairs labels turn other ≡ true
  meets_true h = and_from _ _ (and_from _ _ (and_from _ _ (and_from _ _ (lt-ltb _ _ h.lower) (eq-eqb _ _ h.free)) (eq-eqb _ _ h.other_free)) (eq-eqb _ _ h.together)) h.shared

-- two turns share a minute where the first touches that of the other, and else just where the other does
module _ (t : Tables) (f : ℕ) (turn other : Connection) where
  pub share_first : touches t f turn (ready_at t f other) ≡ true → share_minute t f turn other ≡ true
  unfolding share_minute
  share_first e = ap (λ b. b || touches t f other (ready_at t f turn)) e

  pub share_second : touches t f turn (ready_at t f other) ≡ false → share_minute t f turn other ≡ touches t f other (ready_at t f turn)
  unfolding share_minute
  share_second e = ap (λ b. b || touches t f other (ready_at t f turn)) e

module _ (t : Tables) (a : List ℕ) (f : ℕ) (pairs turns : List Connection) (labels : List ℕ) (map : IsSuccessorMap t a f turns) where
  -- the minute at which one of them is ready is touched by both
  pub they_touch : (i j : ℕ) → i < length turns → j < length turns → AreMeeting t f pairs labels (turn_at turns i) (turn_at turns j) → (m : ℕ) × (Touch t f turns i j m)
  unfolding share_minute
  they_touch i j first second h =
      by_either _ _ h.shared
      (λ e. (
        ready_at t f (turn_at turns j),
        record {
          first = first;
          second = second;
          differ = others;
          together = h.together;
          minute = ready_within t a f turns map j;
          first_touches = e;
          second_touches = at_ready j;
        },
      ))
      (λ e. (
        ready_at t f (turn_at turns i),
        record {
          first = first;
          second = second;
          differ = others;
          together = h.together;
          minute = ready_within t a f turns map i;
          first_touches = at_ready i;
          second_touches = e;
        },
      ))
    where
      at_ready : (k : ℕ) → touches t f (turn_at turns k) (ready_at t f (turn_at turns k)) ≡ true
      at_ready k = touches_ready (period_of t) (ready_at t f (turn_at turns k)) (wait_of t f (turn_at turns k)) (ready_within t a f turns map k)

      others : i ≢ j
      others same = let e = ap (λ k. label_of labels (turn_at turns k).arriving) same in absurd (omega (arith, e, h.lower))

  -- turns that touch a minute share one
  shared : (s m j k : ℕ) → m < period_of t → TouchesFreely t f pairs turns s m j → TouchesFreely t f pairs turns s m k → share_minute t f (turn_at turns j) (turn_at turns k) ≡ true
  unfolding share_minute
  shared s m j k moment p q =
      one_touches (period_of t) (ready_at t f (turn_at turns j)) (ready_at t f (turn_at turns k)) m (wait_of t f (turn_at turns j)) (wait_of t f (turn_at turns k))
      (ready_within t a f turns map j) (ready_within t a f turns map k) moment p.touching q.touching

  meeting : (s m j k : ℕ) → m < period_of t → TouchesFreely t f pairs turns s m j → TouchesFreely t f pairs turns s m k
      → label_of labels (turn_at turns k).arriving < label_of labels (turn_at turns j).arriving → meets_cycle t f pairs labels (turn_at turns j) (turn_at turns k) ≡ true
  meeting s m j k moment p q lower =
      meets_true t f pairs labels (turn_at turns j) (turn_at turns k)
      (record { lower = lower; free = p.free; other_free = q.free; together = p.there ∙ sym q.there; shared = shared s m j k moment p q })

  -- where no turns meet, no label's legs touch others
  pub never_touches : (inside : ℕ → Bool) → ((j k : ℕ) → j < length turns → k < length turns → label_of labels (turn_at turns j).arriving ≡ label_of labels (turn_at turns k).arriving
      → inside (turn_at turns j).arriving ≡ inside (turn_at turns k).arriving)
      → ((j k : ℕ) → j < length turns → k < length turns → meets_cycle t f pairs labels (turn_at turns j) (turn_at turns k) ≡ false) → NeverTouches t f pairs turns inside
  never_touches inside by_label none = record {
    each = λ s m j k moment p q.
        by_order s m j k moment p q (cases_order (label_of labels (turn_at turns j).arriving) (label_of labels (turn_at turns k).arriving));
  }
    where
      by_order : (s m j k : ℕ) → m < period_of t → TouchesFreely t f pairs turns s m j → TouchesFreely t f pairs turns s m k
          → (label_of labels (turn_at turns j).arriving ≡ label_of labels (turn_at turns k).arriving)
          ⊎ ((label_of labels (turn_at turns j).arriving < label_of labels (turn_at turns k).arriving) ⊎ (label_of labels (turn_at turns k).arriving < label_of labels (turn_at turns j).arriving))
          → inside (turn_at turns j).arriving ≡ inside (turn_at turns k).arriving
      by_order s m j k moment p q (inl same) = by_label j k p.within q.within same
      by_order s m j k moment p q (inr (inl less)) = absurd (no_both (none k j q.within p.within) (meeting s m k j moment q p less))
      by_order s m j k moment p q (inr (inr more)) = absurd (no_both (none j k p.within q.within) (meeting s m j k moment p q more))
