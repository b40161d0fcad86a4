-- Starts of nodes, one after another.
use Rattle.std.proofs.Common.{◌≡◌, ◌≢◌, ℕ, zero, suc, ◌+◌, ◌-◌, ◌<◌, ◌≤◌, Bool, true, false, List, [], ◌∷◌, ◌++◌, length, get_or, Option, Some, None, MatchOption, refl, sym, ◌∙◌, ap, subst, inl, inr, arith}
use Rattle.std.proofs.lemmas.Bool.{cases_lt}
use Rattle.std.proofs.lemmas.Bool.Decides.{nat_tests}
use Rattle.std.proofs.lemmas.List.{get_or_append_left, get_or_push, length_push}
use Rattle.node_aggregate.specs.declared.timeline_net.timeline.Event.{Event}
use Rattle.node_aggregate.specs.Nodes.{AreNodes, HappensAt, IsDayStart, IsFirst, IsFirstMinute, IsNextStart, MayFollow, MayStart, RiseFromZero, sooner}

pub no_departure : (events : List Event) (start : ℕ) → ((m : ℕ) → start ≤ m → ¬ (HappensAt events false m)) → (m : ℕ) → ¬ (MayStart events start m)
no_departure events start none m may = none may.departure may.since may.departs

-- the first ready minute after the first departure is the first that may start a node
pub next_is : (events : List Event) (start departure : ℕ) (o : Option ℕ) → IsFirstMinute events false start departure
    → MatchOption o ((m : ℕ) → departure + 1 ≤ m → ¬ (HappensAt events true m)) (IsFirstMinute events true (departure + 1))
    → MatchOption o ((m : ℕ) → ¬ (MayStart events start m)) (IsFirst (MayStart events start))
next_is events start departure None left none = λ m may.
    none m (omega (arith, left.first may.departure may.since may.departs, may.later)) may.ready
next_is events start departure (Some minute) left back = record {
  is = record { departure = departure; since = left.no_earlier; departs = left.happens; later = omega (arith, back.no_earlier); ready = back.happens };
  first = λ m may. back.first m (omega (arith, left.first may.departure may.since may.departs, may.later)) may.ready;
}

-- the first start of a day and the first ready minute, where there is one: the sooner of them is the next start
pub next_with_day : (events : List Event) (days start day : ℕ) (o : Option ℕ) → MatchOption o ((m : ℕ) → ¬ (MayStart events start m)) (IsFirst (MayStart events start))
    → IsFirst (IsDayStart days start) day → IsNextStart events days start (sooner o day)
next_with_day events days start day None none first = record { is = inr first.is; first = λ m may. elim may [ inl ready ↦ absurd (none m ready) | inr other ↦ first.first m other ] }
next_with_day events days start day (Some minute) found first = elim (cases_lt day minute) [
  | inl earlier ↦
      let is : sooner (Some minute) day ≡ day = grind (arith, nat_tests) in
      rw is (record { is = inr first.is; first = λ m may. elim may [ inl ready ↦ omega (arith, earlier, found.first m ready) | inr other ↦ first.first m other ] })
  | inr later ↦
      let is : sooner (Some minute) day ≡ minute = grind (arith, nat_tests) in
      rw is (record { is = inl found.is; first = λ m may. elim may [ inl ready ↦ found.first m ready | inr other ↦ omega (arith, later, first.first m other) ] })
]

-- and without a day start it is that alone
pub next_without : (events : List Event) (days start : ℕ) (o : Option ℕ) → MatchOption o ((m : ℕ) → ¬ (MayStart events start m)) (IsFirst (MayStart events start))
    → ((m : ℕ) → ¬ (IsDayStart days start m)) → MatchOption o ((m : ℕ) → ¬ (MayFollow events days start m)) (IsNextStart events days start)
next_without events days start None none no_day = λ m may. elim may [ inl ready ↦ none m ready | inr day ↦ no_day m day ]
next_without events days start (Some minute) found no_day = record { is = inl found.is; first = λ m may. elim may [ inl ready ↦ found.first m ready | inr day ↦ absurd (no_day m day) ] }

-- a start is later than the node before
pub follows_later : (events : List Event) (days start minute : ℕ) → MayFollow events days start minute → start < minute
follows_later events days start minute (inl may) = omega (arith, may.since, may.later)
follows_later events days start minute (inr day) = day.later

-- starts of nodes so far, and the last of them
pub record AreLinked (events : List Event) (days : ℕ) (starts : List ℕ) (start : ℕ) : Type 0 where
  pub some : 0 < length starts
  pub first : get_or starts 0 0 ≡ 0
  pub next : (k : ℕ) → k + 1 < length starts → IsNextStart events days (get_or starts k 0) (get_or starts (k + 1) 0)
  pub is_last : start ≡ get_or starts (length starts - 1) 0

pub link_more : (events : List Event) (days : ℕ) (starts grown : List ℕ) (start next : ℕ) → grown ≡ starts ++ next ∷ [] → AreLinked events days starts start → IsNextStart events days start next → AreLinked events days grown next
link_more events days starts grown start next e links after = rw e (record {
  some = omega (arith, length_push starts next);
  first = get_or_append_left starts (next ∷ []) 0 0 links.some ∙ links.first;
  next = λ k within. elim (cases_lt (k + 1) (length starts)) [
    | inl before ↦ rw (get_or_append_left starts (next ∷ []) 0 k (omega arith), get_or_append_left starts (next ∷ []) 0 (k + 1) before) (links.next k before)
    | inr last ↦
        let at : length starts ≡ k + 1 = omega (arith, length_push starts next) in
        let before : get_or (starts ++ next ∷ []) k 0 ≡ start = get_or_append_left starts (next ∷ []) 0 k (omega arith) ∙ ap (λ i. get_or starts i 0) (omega arith) ∙ sym links.is_last in
        rw (before, get_or_push starts next 0 (k + 1) at) after
  ];
  is_last = sym (ap (λ i. get_or (starts ++ next ∷ []) i 0) (omega (arith, length_push starts next)) ∙ get_or_push starts next 0 (length starts) refl);
})

pub linked_are_nodes : (events : List Event) (days : ℕ) (starts : List ℕ) (start : ℕ) → events ≢ [] → AreLinked events days starts start → ((m : ℕ) → ¬ (MayFollow events days start m)) → AreNodes events days starts
linked_are_nodes events days starts start some links none = record {
  none = λ e. absurd (some e);
  some = λ _. links.some;
  first = links.first;
  next = links.next;
  last = λ _ m. subst (λ s. ¬ (MayFollow events days s m)) links.is_last (none m);
}

pub nothing : (events : List Event) → events ≡ [] → (ready : Bool) (m : ℕ) → ¬ (HappensAt events ready m)
nothing events e ready m h = let none : length events ≡ 0 = ap length e in omega (arith, h.among.1)

-- each start is later than the one before
pub rise_next : (events : List Event) (days : ℕ) (starts : List ℕ) → AreNodes events days starts → (k : ℕ) → k + 1 < length starts → get_or starts k 0 < get_or starts (k + 1) 0
rise_next events days starts nodes k within = follows_later events days (get_or starts k 0) (get_or starts (k + 1) 0) (nodes.next k within).is

rises : (events : List Event) (days : ℕ) (starts : List ℕ) → AreNodes events days starts → (i j : ℕ) → i < j → j < length starts → get_or starts i 0 < get_or starts j 0
rises events days starts nodes i zero order within = absurd (omega arith)
rises events days starts nodes i (suc j) order within =
    let next : j + 1 ≡ suc j = omega arith in
    let step : get_or starts j 0 < get_or starts (suc j) 0 = rw next at (rise_next events days starts nodes j (omega arith)) in
    elim (cases_lt i j) [
      | inl before ↦ omega (arith, step, rises events days starts nodes i j before (omega arith))
      | inr last ↦ let same : i ≡ j = omega arith in rw same step
    ]

pub nodes_rise : (events : List Event) (days : ℕ) (starts : List ℕ) → AreNodes events days starts → 0 < length starts → RiseFromZero starts
nodes_rise events days starts nodes some = record { some = some; first = nodes.first; rise = rises events days starts nodes }
