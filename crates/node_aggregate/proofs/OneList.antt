-- Events have one list of nodes, in whatever order they stand, and so has a fleet at a station.
use Rattle.std.proofs.Common.{◌≡◌, ◌≢◌, ℕ, zero, suc, ◌+◌, ◌-◌, ◌<◌, ◌⊎◌, Bool, List, [], ◌∷◌, length, get_or, Contains, refl, sym, ◌∙◌, ap, subst, inl, inr, arith}
use Rattle.std.proofs.lemmas.Bool.{cases_lt}
use Rattle.std.proofs.lemmas.Grind.{same_number_lists}
use Rattle.std.proofs.lemmas.List.Sorted.{Contains-permutation, IsPermutation-sym}
use Rattle.fleet_model.specs.declared.tables.Tables.{Tables}
use Rattle.fleet_model.specs.Kept.{Domains}
use Rattle.fleet_model.specs.Schedule.{departures_in}
use Rattle.node_aggregate.specs.declared.timeline_net.timeline.Event.{Event}
use Rattle.node_aggregate.specs.timeline_net.Events.{events_below}
use Rattle.node_aggregate.specs.Laws.{NodesAreOne}
use Rattle.node_aggregate.specs.Nodes.{AreNodes, AreNodesAt, HappensAt, IsNextStart, MayFollow, MayStart, days_at}

one_next : (events : List Event) (days start m n : ℕ) → IsNextStart events days start m → IsNextStart events days start n → m ≡ n
one_next events days start m n one other = omega (arith, one.first n other.is, other.first m one.is)

same_start : (events : List Event) (days : ℕ) (one other : List ℕ) → AreNodes events days one → AreNodes events days other → (k : ℕ) → k < length one → k < length other → get_or one k 0 ≡ get_or other k 0
same_start events days one other p q zero here there = p.first ∙ sym q.first
same_start events days one other p q (suc k) here there =
    let before = same_start events days one other p q k (omega arith) (omega arith) in
    let next : k + 1 ≡ suc k = omega arith in
    let first = p.next k (omega arith) in
    let second : IsNextStart events days (get_or one k 0) (get_or other (k + 1) 0) = subst (λ s. IsNextStart events days s (get_or other (k + 1) 0)) (sym before) (q.next k (omega arith)) in
    subst (λ j. get_or one j 0 ≡ get_or other j 0) next (one_next events days (get_or one k 0) (get_or one (k + 1) 0) (get_or other (k + 1) 0) first second)

some_or_none : (events : List Event) → (events ≡ []) ⊎ (events ≢ [])
some_or_none [] = inl refl
some_or_none (e ∷ events) = inr (λ same. cc)

no_shorter : (events : List Event) (days : ℕ) (one other : List ℕ) → AreNodes events days one → AreNodes events days other → length one < length other → ⊥
no_shorter events days one other p q shorter = elim (some_or_none events) [
  | inl none ↦ omega (arith, ap length (q.none none))
  | inr some ↦
      let here : 0 < length one = p.some some in
      let at : length one - 1 + 1 ≡ length one = omega arith in
      let same = same_start events days one other p q (length one - 1) (omega arith) (omega arith) in
      p.last here (get_or other (length one - 1 + 1) 0)
      (subst (λ s. MayFollow events days s (get_or other (length one - 1 + 1) 0)) (sym same) (q.next (length one - 1) (omega arith)).is)
]

pub nodes_are_one : NodesAreOne
nodes_are_one events days one other p q =
    let even : length one ≡ length other = elim (cases_lt (length one) (length other)) [
      | inl shorter ↦ absurd (no_shorter events days one other p q shorter)
      | inr no_shorter_one ↦ elim (cases_lt (length other) (length one)) [
        | inl longer ↦ absurd (no_shorter events days other one q p longer)
        | inr no_longer ↦ omega arith
      ]
    ] in
    same_number_lists one other even (λ k within. same_start events days one other p q k within (omega arith))

-- the same events happen in both lists
record HaveSame (one other : List Event) : Type 0 where
  into : (e : Event) → Contains one e → Contains other e
  back : (e : Event) → Contains other e → Contains one e

happens : (one other : List Event) → HaveSame one other → (ready : Bool) (m : ℕ) → HappensAt one ready m → HappensAt other ready m
happens one other same ready m h = record { by = h.by; among = same.into _ h.among }

turned : (one other : List Event) → HaveSame one other → HaveSame other one
turned one other same = record { into = same.back; back = same.into }

may : (one other : List Event) → HaveSame one other → (start m : ℕ) → MayStart one start m → MayStart other start m
may one other same start m h = record {
  departure = h.departure;
  since = h.since;
  departs = happens one other same _ _ h.departs;
  later = h.later;
  ready = happens one other same _ _ h.ready;
}

may_follow : (one other : List Event) → HaveSame one other → (days start m : ℕ) → MayFollow one days start m → MayFollow other days start m
may_follow one other same days start m (inl ready) = inl (may one other same start m ready)
may_follow one other same days start m (inr day) = inr day

next : (one other : List Event) → HaveSame one other → (days start m : ℕ) → IsNextStart one days start m → IsNextStart other days start m
next one other same days start m h = record {
  is = may_follow one other same days start m h.is;
  first = λ n after. h.first n (may_follow other one (turned one other same) days start n after);
}

none_there : (one other : List Event) → HaveSame one other → other ≡ [] → one ≡ []
none_there [] other same e = refl
none_there (x ∷ one) other same e =
    let there = same.into x (0, omega arith, refl) in
    let none : length other ≡ 0 = ap length e in
    absurd (omega (arith, there.1))

nodes_of_both : (one other : List Event) (days : ℕ) (starts : List ℕ) → HaveSame one other → AreNodes one days starts → AreNodes other days starts
nodes_of_both one other days starts same are = record {
  none = λ e. are.none (none_there one other same e);
  some = λ some. are.some (λ e. some (none_there other one (turned one other same) e));
  first = are.first;
  next = λ k within. next one other same days _ _ (are.next k within);
  last = λ some m after. are.last some m (may_follow other one (turned one other same) days _ m after);
}

pub one_list : (t : Tables) (keeps : Domains) (f s : ℕ) (a b : List ℕ) → AreNodesAt t keeps f s a → AreNodesAt t keeps f s b → a ≡ b
one_list t keeps f s a b one other =
    let all = events_below t keeps f s (departures_in t) in
    let same : HaveSame other.events one.events = record {
      into = λ e h. Contains-permutation _ _ _ one.happen.each_once (Contains-permutation _ _ _ (IsPermutation-sym all other.events other.happen.each_once) h);
      back = λ e h. Contains-permutation _ _ _ other.happen.each_once (Contains-permutation _ _ _ (IsPermutation-sym all one.events one.happen.each_once) h);
    } in
    nodes_are_one one.events (days_at t s) a b one.nodes (nodes_of_both other.events one.events (days_at t s) b same other.nodes)
