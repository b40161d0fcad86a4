-- The first minute in which an event of one kind happens.
use Rattle.std.proofs.Common.{◌≡◌, ℕ, zero, suc, ◌<◌, ◌≤◌, Bool, true, false, not, if◌then◌else◌, ◌&&◌, nat_le, List, length, get_or, Option, Some, None, MatchOption, refl, sym, ◌∙◌, ap, inl, inr, arith}
use mathlib.Core.Bool.{false≢true}
use Rattle.std.proofs.lemmas.Bool.{cases_lt}
use Rattle.std.proofs.lemmas.Bool.Decides.{nat_tests}
use Rattle.std.proofs.lemmas.List.{get_or_default}
use Rattle.sums.proofs.Tests.{parts_true}
use Rattle.node_aggregate.specs.declared.timeline_net.timeline.Event.{Event}
use Rattle.node_aggregate.specs.Nodes.{HappensAt, IsFirstMinute, sooner}

abbrev no_event : Event
no_event = record { minute = 0; ready = false; departure = 0 }

-- both are ready, or both depart
abbrev pub same_kind : Bool → Bool → Bool
same_kind true b = b
same_kind false b = not b

-- an event of the kind, no earlier than a minute
abbrev pub passes : Bool → ℕ → Event → Bool
passes ready from e = same_kind e.ready ready && nat_le from e.minute

-- the first minute of such events among the first n
abbrev pub first_of : List Event → Bool → ℕ → ℕ → Option ℕ
first_of events ready from zero = None
first_of events ready from (suc n) =
    if passes ready from (get_or events n no_event) then Some (sooner (first_of events ready from n) (get_or events n no_event).minute)
    else first_of events ready from n

-- a minute found: that of an event that passes, and no event that passes is earlier
record IsFound (events : List Event) (ready : Bool) (from n minute : ℕ) : Type 0 where
  place : ℕ
  within : place < n
  passing : passes ready from (get_or events place no_event) ≡ true
  is : (get_or events place no_event).minute ≡ minute
  first : (k : ℕ) → k < n → passes ready from (get_or events k no_event) ≡ true → minute ≤ (get_or events k no_event).minute

abbrev Says : List Event → Bool → ℕ → ℕ → Option ℕ → Type 0
Says events ready from n None = (k : ℕ) → k < n → passes ready from (get_or events k no_event) ≡ false
Says events ready from n (Some minute) = IsFound events ready from n minute

one_more : (events : List Event) (ready : Bool) (from n : ℕ) (o : Option ℕ) (b : Bool) → passes ready from (get_or events n no_event) ≡ b → Says events ready from n o
    → Says events ready from (suc n) (if b then Some (sooner o (get_or events n no_event).minute) else o)
one_more events ready from n None false e none = λ k below. elim (cases_lt k n) [
  | inl less ↦ none k less
  | inr last ↦ let same : k ≡ n = omega arith in rw same e
]
one_more events ready from n (Some m) false e found = record {
  place = found.place;
  within = omega (arith, found.within);
  passing = found.passing;
  is = found.is;
  first = λ k below passing. elim (cases_lt k n) [
    | inl less ↦ found.first k less passing
    | inr last ↦ let same : k ≡ n = omega arith in absurd (false≢true (sym e ∙ rw same at passing))
  ];
}
one_more events ready from n None true e none = record {
  place = n;
  within = omega arith;
  passing = e;
  is = refl;
  first = λ k below passing. elim (cases_lt k n) [
    | inl less ↦ absurd (false≢true (sym (none k less) ∙ passing))
    | inr last ↦ let same : k ≡ n = omega arith in rw same (omega arith)
  ];
}
one_more events ready from n (Some m) true e found = elim (cases_lt (get_or events n no_event).minute m) [
  | inl earlier ↦ let is : sooner (Some m) (get_or events n no_event).minute ≡ (get_or events n no_event).minute = grind (arith, nat_tests) in rw is (record {
    place = n;
    within = omega arith;
    passing = e;
    is = refl;
    first = λ k below passing. elim (cases_lt k n) [
      | inl less ↦ omega (arith, found.first k less passing)
      | inr last ↦ let same : k ≡ n = omega arith in rw same (omega arith)
    ];
  })
  | inr later ↦ let is : sooner (Some m) (get_or events n no_event).minute ≡ m = grind (arith, nat_tests) in rw is (record {
    place = found.place;
    within = omega (arith, found.within);
    passing = found.passing;
    is = found.is;
    first = λ k below passing. elim (cases_lt k n) [
      | inl less ↦ found.first k less passing
      | inr last ↦ let same : k ≡ n = omega arith in rw same later
    ];
  })
]

says_first : (events : List Event) (ready : Bool) (from n : ℕ) → Says events ready from n (first_of events ready from n)
says_first events ready from zero = λ k below. absurd (omega arith)
says_first events ready from (suc n) =
    one_more events ready from n (first_of events ready from n) (passes ready from (get_or events n no_event)) refl (says_first events ready from n)

same_kind_true : (a b : Bool) → same_kind a b ≡ true → a ≡ b
same_kind_true true b e = sym e
same_kind_true false false e = refl
same_kind_true false true e = cc

-- an event that happens no earlier passes
passes_there : (ready : Bool) (from minute by : ℕ) → from ≤ minute → passes ready from (record { minute = minute; ready = ready; departure = by }) ≡ true
passes_there true from minute by later = grind (arith, nat_tests)
passes_there false from minute by later = grind (arith, nat_tests)

-- the event at a place, where it happens
at_place : (events : List Event) (ready : Bool) (minute : ℕ) → (h : HappensAt events ready minute) → get_or events h.among.0 no_event ≡ record { minute = minute; ready = ready; departure = h.by }
at_place events ready minute h = get_or_default events h.among.0 no_event _ h.among.1 ∙ h.among.2

happens_at : (events : List Event) (ready : Bool) (minute k : ℕ) → k < length events → (get_or events k no_event).ready ≡ ready → (get_or events k no_event).minute ≡ minute → HappensAt events ready minute
happens_at events ready minute k within kind is = record {
  by = (get_or events k no_event).departure;
  among = (k, within, get_or_default events k _ no_event within ∙ ap (λ m. record { minute = m; ready = (get_or events k no_event).ready; departure = (get_or events k no_event).departure }) is ∙ ap (λ r. record { minute = minute; ready = r; departure = (get_or events k no_event).departure }) kind);
}

in_words : (events : List Event) (ready : Bool) (from n : ℕ) (o : Option ℕ) → length events ≤ n → n ≤ length events → Says events ready from n o
    → MatchOption o ((m : ℕ) → from ≤ m → ¬ (HappensAt events ready m)) (IsFirstMinute events ready from)
in_words events ready from n None all no_more none = λ m later h.
    let passing : passes ready from (get_or events h.among.0 no_event) ≡ true = rw (at_place events ready m h) (passes_there ready from m h.by later) in
    absurd (false≢true (sym (none h.among.0 (omega (arith, h.among.1))) ∙ passing))
in_words events ready from n (Some minute) all no_more found =
    let both = parts_true (same_kind (get_or events found.place no_event).ready ready) (nat_le from (get_or events found.place no_event).minute) found.passing in
    record {
      no_earlier = let late = both.1 in let is = found.is in grind (arith, nat_tests);
      happens = happens_at events ready minute found.place (omega (arith, found.within)) (same_kind_true _ _ both.0) found.is;
      first = λ m later h.
          let passing : passes ready from (get_or events h.among.0 no_event) ≡ true = rw (at_place events ready m h) (passes_there ready from m h.by later) in
          let no_less : minute ≤ (get_or events h.among.0 no_event).minute = found.first h.among.0 (omega (arith, h.among.1)) passing in
          omega (arith, no_less, ap (λ e. e.minute) (at_place events ready m h));
    }

-- the first minute among all events
pub first_is : (events : List Event) (ready : Bool) (from n : ℕ) (o : Option ℕ) → length events ≤ n → n ≤ length events → o ≡ first_of events ready from n
    → MatchOption o ((m : ℕ) → from ≤ m → ¬ (HappensAt events ready m)) (IsFirstMinute events ready from)
first_is events ready from n o all no_more e =
    rw e (in_words events ready from n (first_of events ready from n) all no_more (says_first events ready from n))
