-- An assignment has one verdict at most.
use Rattle.std.proofs.Common.{◌≡◌, ℕ, ◌<◌, List, Option, None, Some, IsSome, ℤ, refl, sym, ap, subst, ◌∙◌, inl, inr, arith}
use Rattle.std.proofs.lemmas.Bool.{cases_order}
use Rattle.fleet_model.specs.declared.tables.Tables.{Tables}
use Rattle.fleet_model.specs.Counts.{pair_at, weights_of}
use Rattle.fleet_model.specs.Legal.{HasRoom, IsAllowed, IsWithinFleets, cost_of}
use Rattle.fleet_model.specs.Use.{IsBalanced, parked}
use Rattle.plan_judge.specs.Verdicts.{Balances, FirstCrowded, FirstNotAllowed, FirstTooMany, FirstUnbalanced, IsVerdict}
use Rattle.plan_judge.specs.declared.verdicts.Verdict.{Verdict}
use Rattle.plan_judge.specs.declared.verdicts.Verdict.TheVariants as verdict

none_is_not_some : (o : Option ℤ) → o ≡ None → IsSome o → ⊥
none_is_not_some o none some = let never = subst (λ o. IsSome o) none some in cc

-- two first numbers that fail are one
same_first : (P : ℕ → Type 0) (m n : ℕ) → ¬ (P m) → ((k : ℕ) → k < m → P k) → ¬ (P n) → ((k : ℕ) → k < n → P k) → m ≡ n
same_first P m n fails_m before_m fails_n before_n = elim (cases_order m n) [
  | inl same ↦ same
  | inr other ↦ elim other [
    | inl before ↦ absurd (fails_m (before_n m before))
    | inr after ↦ absurd (fails_n (before_m n after))
  ]
]

module _ (t : Tables) (a : List ℕ) where
  same_leg : (l k : ℕ) → FirstNotAllowed t a l → FirstNotAllowed t a k → l ≡ k
  same_leg l k x y = same_first (λ leg. IsSome (cost_of t (pair_at a leg))) l k (none_is_not_some _ x.refused) x.first (none_is_not_some _ y.refused) y.first

  unbalanced : (f s came left : ℕ) → FirstUnbalanced t a f s came left → ¬ (Balances t a f s)
  unbalanced f s came left x balances = x.differ (x.came_there ∙ balances ∙ sym x.left_there)

  same_fleet : (f s came left g r in_ out : ℕ) → FirstUnbalanced t a f s came left → FirstUnbalanced t a g r in_ out → f ≡ g
  same_fleet f s came left g r in_ out x y = elim (cases_order f g) [
    | inl same ↦ same
    | inr other ↦ elim other [
      | inl before ↦ absurd (unbalanced f s came left x (y.first_fleet f s before x.station_within))
      | inr after ↦ absurd (unbalanced g r in_ out y (x.first_fleet g r after y.station_within))
    ]
  ]

  same_station : (f s came left r in_ out : ℕ) → FirstUnbalanced t a f s came left → FirstUnbalanced t a f r in_ out → s ≡ r
  same_station f s came left r in_ out x y =
      same_first (Balances t a f) s r (unbalanced f s came left x) x.first_station (unbalanced f r in_ out y) y.first_station

  same_counts : (f s came left in_ out : ℕ) → FirstUnbalanced t a f s came left → FirstUnbalanced t a f s in_ out → (came ≡ in_) × (left ≡ out)
  same_counts f s came left in_ out x y = (x.came_there ∙ sym y.came_there, x.left_there ∙ sym y.left_there)

  one_unbalanced : (f s came left g r in_ out : ℕ) → FirstUnbalanced t a f s came left → FirstUnbalanced t a g r in_ out
      → verdict.Unbalanced f s came left ≡ verdict.Unbalanced g r in_ out
  one_unbalanced f s came left g r in_ out x y =
      let fleets = same_fleet f s came left g r in_ out x y in
      let x1 = subst (λ k. FirstUnbalanced t a k s came left) fleets x in
      let stations = same_station g s came left r in_ out x1 y in
      let counts = same_counts g r came left in_ out (subst (λ k. FirstUnbalanced t a g k came left) stations x1) y in
      rw (fleets, stations, counts.0, counts.1) refl

  same_user : (f used has g taken own : ℕ) → FirstTooMany t a f used has → FirstTooMany t a g taken own → f ≡ g
  same_user f used has g taken own x y = elim (cases_order f g) [
    | inl same ↦ same
    | inr other ↦ elim other [
      | inl before ↦ absurd (let few = y.first f before in let uses = x.uses in let owns = x.owns in let many = x.too_many in omega arith)
      | inr after ↦ absurd (let few = x.first g after in let uses = y.uses in let owns = y.owns in let many = y.too_many in omega arith)
    ]
  ]

  one_too_many : (f used has g taken own : ℕ) → FirstTooMany t a f used has → FirstTooMany t a g taken own → verdict.TooMany f used has ≡ verdict.TooMany g taken own
  one_too_many f used has g taken own x y =
      let fleets = same_user f used has g taken own x y in
      let x1 = subst (λ k. FirstTooMany t a k used has) fleets x in
      rw (fleets, x1.uses ∙ sym y.uses, x1.owns ∙ sym y.owns) refl

  -- two first crowds are at one station, on one day
  over : (s d stands cap : ℕ) → FirstCrowded t a s d stands cap → cap < parked t (weights_of a) s d
  over s d stands cap x = subst (λ n. cap < n) x.there x.crowded

  same_crowd : (s d stands cap r e many few : ℕ) → FirstCrowded t a s d stands cap → FirstCrowded t a r e many few → s ≡ r
  same_crowd s d stands cap r e many few x y = elim (cases_order s r) [
    | inl same ↦ same
    | inr other ↦ elim other [
      | inl before ↦ absurd (let enough = y.first_station s d before x.some x.of_period cap x.limited in let more = over s d stands cap x in omega arith)
      | inr after ↦ absurd (let enough = x.first_station r e after y.some y.of_period few y.limited in let more = over r e many few y in omega arith)
    ]
  ]

  same_day : (s d stands cap e many few : ℕ) → FirstCrowded t a s d stands cap → FirstCrowded t a s e many few → d ≡ e
  same_day s d stands cap e many few x y = elim (cases_order d e) [
    | inl same ↦ same
    | inr other ↦ elim other [
      | inl before ↦ absurd (let enough = y.first_day d x.some before cap x.limited in let more = over s d stands cap x in omega arith)
      | inr after ↦ absurd (let enough = x.first_day e y.some after few y.limited in let more = over s e many few y in omega arith)
    ]
  ]

  same_some : (m n : ℕ) → ◌≡◌ {A = Option ℕ} (Some m) (Some n) → m ≡ n
  same_some m n e = cc e

  one_crowded : (s d stands cap r e many few : ℕ) → FirstCrowded t a s d stands cap → FirstCrowded t a r e many few → verdict.Crowded s d stands cap ≡ verdict.Crowded r e many few
  one_crowded s d stands cap r e many few x y =
      let stations = same_crowd s d stands cap r e many few x y in
      let x1 = subst (λ k. FirstCrowded t a k d stands cap) stations x in
      let days = same_day r d stands cap e many few x1 y in
      let x2 = subst (λ k. FirstCrowded t a r k stands cap) days x1 in
      let caps = same_some cap few (sym x2.limited ∙ y.limited) in
      rw (stations, days, x2.there ∙ sym y.there, caps) refl

  -- refusals of different kinds, and a refusal and legal, exclude each other
  allowed_or_not : (l : ℕ) → FirstNotAllowed t a l → ¬ (IsAllowed t a)
  allowed_or_not l x allowed = none_is_not_some _ x.refused (allowed.each l x.within)

  balanced_or_not : (f s came left : ℕ) → FirstUnbalanced t a f s came left → ¬ (IsBalanced t (weights_of a))
  balanced_or_not f s came left x balanced = unbalanced f s came left x (balanced.each f s x.fleet_within x.station_within)

  within_or_not : (f used has : ℕ) → FirstTooMany t a f used has → ¬ (IsWithinFleets t a)
  within_or_not f used has x within = let few = within.each f x.within in let uses = x.uses in let owns = x.owns in let many = x.too_many in omega arith

  room_or_not : (s d stands cap : ℕ) → FirstCrowded t a s d stands cap → ¬ (HasRoom t 1 (weights_of a))
  room_or_not s d stands cap x room = let enough = room.each s d cap x.within x.some x.of_period x.limited in let more = over s d stands cap x in omega arith

  pub one_verdict_of : (v w : Verdict) → IsVerdict t a v → IsVerdict t a w → v ≡ w
  one_verdict_of (verdict.NotAllowed l) (verdict.NotAllowed k) x y = ap (λ n. verdict.NotAllowed n) (same_leg l k x y)
  one_verdict_of (verdict.NotAllowed l) (verdict.Unbalanced f s came left) x y = absurd (allowed_or_not l x y.0)
  one_verdict_of (verdict.NotAllowed l) (verdict.TooMany f used has) x y = absurd (allowed_or_not l x y.0)
  one_verdict_of (verdict.NotAllowed l) (verdict.Crowded r d stands cap) x y = absurd (allowed_or_not l x y.0)
  one_verdict_of (verdict.NotAllowed l) (verdict.Legal cost) x y = absurd (allowed_or_not l x y.0.allowed)
  one_verdict_of (verdict.Unbalanced f s came left) (verdict.NotAllowed k) x y = absurd (allowed_or_not k y x.0)
  one_verdict_of (verdict.Unbalanced f s came left) (verdict.Unbalanced g r in_ out) x y = one_unbalanced f s came left g r in_ out x.1 y.1
  one_verdict_of (verdict.Unbalanced f s came left) (verdict.TooMany g used has) x y = absurd (balanced_or_not f s came left x.1 y.1)
  one_verdict_of (verdict.Unbalanced f s came left) (verdict.Crowded r d stands cap) x y = absurd (balanced_or_not f s came left x.1 y.1)
  one_verdict_of (verdict.Unbalanced f s came left) (verdict.Legal cost) x y = absurd (balanced_or_not f s came left x.1 y.0.balanced)
  one_verdict_of (verdict.TooMany f used has) (verdict.NotAllowed k) x y = absurd (allowed_or_not k y x.0)
  one_verdict_of (verdict.TooMany f used has) (verdict.Unbalanced g s came left) x y = absurd (balanced_or_not g s came left y.1 x.1)
  one_verdict_of (verdict.TooMany f used has) (verdict.TooMany g taken own) x y = one_too_many f used has g taken own x.2 y.2
  one_verdict_of (verdict.TooMany f used has) (verdict.Crowded r d stands cap) x y = absurd (within_or_not f used has x.2 y.2)
  one_verdict_of (verdict.TooMany f used has) (verdict.Legal cost) x y = absurd (within_or_not f used has x.2 y.0.within)
  one_verdict_of (verdict.Crowded r d stands cap) (verdict.NotAllowed k) x y = absurd (allowed_or_not k y x.0)
  one_verdict_of (verdict.Crowded r d stands cap) (verdict.Unbalanced g s came left) x y = absurd (balanced_or_not g s came left y.1 x.1)
  one_verdict_of (verdict.Crowded r d stands cap) (verdict.TooMany f used has) x y = absurd (within_or_not f used has y.2 x.2)
  one_verdict_of (verdict.Crowded r d stands cap) (verdict.Crowded s e many few) x y = one_crowded r d stands cap s e many few x.3 y.3
  one_verdict_of (verdict.Crowded r d stands cap) (verdict.Legal cost) x y = absurd (room_or_not r d stands cap x.3 y.0.room)
  one_verdict_of (verdict.Legal cost) (verdict.NotAllowed k) x y = absurd (allowed_or_not k y x.0.allowed)
  one_verdict_of (verdict.Legal cost) (verdict.Unbalanced f s came left) x y = absurd (balanced_or_not f s came left y.1 x.0.balanced)
  one_verdict_of (verdict.Legal cost) (verdict.TooMany f used has) x y = absurd (within_or_not f used has y.2 x.0.within)
  one_verdict_of (verdict.Legal cost) (verdict.Crowded r d stands cap) x y = absurd (room_or_not r d stands cap y.3 x.0.room)
  one_verdict_of (verdict.Legal cost) (verdict.Legal price) x y = ap (λ c. verdict.Legal c) (x.1 ∙ sym y.1)

pub one_verdict : (t : Tables) (a : List ℕ) (v w : Verdict) → IsVerdict t a v → IsVerdict t a w → v ≡ w
one_verdict t a v w x y = one_verdict_of t a v w x y
