-- Where no aircraft becomes ready at a station or departs from there in a minute, as many stand there as before.
use Rattle.std.proofs.Common.{◌≡◌, ◌≢◌, ℕ, zero, suc, ◌+◌, ◌-◌, ◌<◌, ◌≤◌, Bool, true, false, not, if◌then◌else◌, ◌==◌, ◌&&◌, nat_le, List, [], ◌∷◌, ◌++◌, filter, refl, sym, ◌∙◌, ap, subst, inl, inr, arith}
use Rattle.std.proofs.lemmas.Bool.{cases_lt}
use Rattle.std.proofs.lemmas.Bool.Decides.{nat_tests}
use Rattle.std.proofs.lemmas.List.FromFn.{filter_of_map_range_with_len_more}
use Rattle.sums.specs.Places.{list_below}
use Rattle.sums.proofs.Sums.{sum_below-agree}
use Rattle.fleet_model.specs.declared.parts.Pair.{Pair}
use Rattle.fleet_model.specs.declared.tables.Tables.{Tables}
use Rattle.fleet_model.specs.Schedule.{leg_of, period_of}
use Rattle.fleet_model.specs.Times.{departure, ready_minute}
use Rattle.stand_counts.specs.Flights.{Flights, arrived_by, coming_by, departed_by, leaving_by, need_by, stand_by}
use Rattle.node_aggregate.specs.island_cut.Zeros.{MoveOutside, MovesOutside, StaysSo, comes_in, leaves_in, none_left}

-- what weighs something counts by the end of a minute that isn't its own as by the end of the one before
same_share : (b : Bool) (weight r end m : ℕ) → (if b && not (weight == 0) then r else end) ≢ suc m
    → ◌≡◌ {A = ℕ} (if b && nat_le r (suc m) then weight else 0) (if b && nat_le r m then weight else 0)
same_share false weight r end m other = refl
same_share true zero r end m other = either (nat_le r (suc m)) (nat_le r m)
  where
    either : (b c : Bool) → ◌≡◌ {A = ℕ} (if b then 0 else 0) (if c then 0 else 0)
    either true true = refl
    either true false = refl
    either false true = refl
    either false false = refl
same_share true (suc weight) r end m other = ap (λ (c : Bool). if c then suc weight else 0) (same_test r m (subst (λ (b : Bool). (if true && not b then r else end) ≢ suc m) (is_some weight) other))
  where
    is_some : (n : ℕ) → (suc n == 0) ≡ false
    is_some n = grind (arith, nat_tests)

    same_test : (r m : ℕ) → r ≢ suc m → nat_le r (suc m) ≡ nat_le r m
    same_test r m other = grind (arith, nat_tests)

not_then : (minute m next event : ℕ) → minute ≤ m → suc m < next → (minute < event → next ≤ event) → event ≢ suc m
not_then minute m next event after before outside same = absurd (omega (arith, outside (omega (arith, after, same)), before, same))

pub stays_so : (t : Tables) (x : Flights) (s minute next : ℕ) → MoveOutside t x s minute next x.count → StaysSo (none_left t x s) minute next
unfolding stand_by arrived_by departed_by
stays_so t x s minute next outside = record {
  each = λ m after before.
      let came = sum_below-agree (coming_by t x s (suc m)) (coming_by t x s m) x.count (record {
        each = λ k below.
            same_share ((leg_of t (x.pair k).leg).to == s) (x.weight (x.pair k)) (ready_minute t (x.pair k)) (period_of t) m
            (not_then minute m next (comes_in t x.weight s (x.pair k)) after before (outside.each k below).comes);
      }) in
      let left = sum_below-agree (leaving_by t x s (suc m)) (leaving_by t x s m) x.count (record {
        each = λ k below.
            same_share ((leg_of t (x.pair k).leg).from == s) (x.weight (x.pair k)) (departure t (x.pair k)) (period_of t) m
            (not_then minute m next (leaves_in t x.weight s (x.pair k)) after before (outside.each k below).leaves);
      }) in
      stands_same (need_by t x s) (arrived_by t x s (suc m)) (arrived_by t x s m) (departed_by t x s (suc m)) (departed_by t x s m) came left;
}
  where
    stands_same : (need came came' left left' : ℕ) → came ≡ came' → left ≡ left' → (need + came - left == 0) ≡ (need + came' - left' == 0)
    stands_same need came came' left left' e g = cc

-- one pair more
pub moves_more : (t : Tables) (x : Flights) (s minute next sooner last n comes leaves : ℕ) (pair : Pair) → MoveOutside t x s minute next n → pair ≡ x.pair n
    → comes ≡ comes_in t x.weight s pair → leaves ≡ leaves_in t x.weight s pair → sooner ≤ next → (minute < comes → sooner ≤ comes) → last ≤ sooner → (minute < leaves → last ≤ leaves)
    → MoveOutside t x s minute last (n + 1)
moves_more t x s minute next sooner last n comes leaves pair before is comes_is leaves_is no_later past no_later_again past_again = record {
  each = λ k below. elim (cases_lt k n) [
    | inl less ↦ record {
      comes = λ h. let old = (before.each k less).comes h in omega arith;
      leaves = λ h. let old = (before.each k less).leaves h in omega arith;
    }
    | inr ge ↦ let same : n ≡ k = omega arith in subst (MovesOutside t x.weight s minute last) (is ∙ ap x.pair same) this
  ];
}
  where
    reached : (event at : ℕ) → event ≡ at → (minute < event → last ≤ event) → minute < at → last ≤ at
    reached event at e h later = omega (arith, e, h (omega (arith, e, later)))

    this : MovesOutside t x.weight s minute last pair
    this = record {
      comes = reached comes (comes_in t x.weight s pair) comes_is (λ h. let reach = past h in omega arith);
      leaves = reached leaves (leaves_in t x.weight s pair) leaves_is past_again;
    }

-- ---- a walk from minute to minute
-- of the first minutes those that pass
abbrev pub passing_below : (ℕ → Bool) → ℕ → List ℕ
passing_below empty n = filter empty (list_below (λ m. m) n)

-- the minutes so far; the next one to be counted; and whether none stood at the end of the last one
pub record IsWalked (empty : ℕ → Bool) (minutes : List ℕ) (minute next : ℕ) (bare : Bool) : Type 0 where
  pub found : minutes ≡ passing_below empty minute
  pub ahead : minute ≤ next
  pub first : minute ≡ 0 → next ≡ 0
  pub so : (m : ℕ) → suc m ≡ minute → bare ≡ empty m
  pub stays : (m : ℕ) → minute ≤ suc m → suc m < next → empty (suc m) ≡ empty m

pub begun : (empty : ℕ → Bool) (bare : Bool) → IsWalked empty [] 0 0 bare
begun empty bare = record {
  found = refl;
  ahead = omega arith;
  first = λ e. e;
  so = λ m e. absurd (omega arith);
  stays = λ m after before. absurd (omega arith);
}

pub one_more : (empty : ℕ → Bool) (old new : List ℕ) (minute next : ℕ) (bare : Bool) → old ≡ passing_below empty minute
    → new ≡ old ++ (if bare then minute ∷ [] else []) → bare ≡ empty minute → minute < next → StaysSo empty minute next → IsWalked empty new (minute + 1) next bare
one_more empty old new minute next bare found pushed so later stays = record {
  found = pushed ∙ ap (λ xs. xs ++ (if bare then minute ∷ [] else [])) found ∙ ap (λ (b : Bool). passing_below empty minute ++ (if b then minute ∷ [] else [])) so
      ∙ sym (filter_of_map_range_with_len_more empty (λ m. m) 0 minute minute (omega arith));
  ahead = omega arith;
  first = λ e. absurd (omega arith);
  so = λ m e. let same : m ≡ minute = omega arith in so ∙ ap empty (sym same);
  stays = λ m after before. stays.each m (omega arith) before;
}

-- where the minute isn't to be counted, it is as it was
pub not_counted : (empty : ℕ → Bool) (minutes : List ℕ) (minute next : ℕ) (bare : Bool) → IsWalked empty minutes minute next bare → minute ≢ next
    → (bare ≡ empty minute) × ((minute < next) × (StaysSo empty minute next))
not_counted empty minutes zero next b walked other = absurd (other (sym (walked.first refl)))
not_counted empty minutes (suc m) next b walked other =
    let later : suc m < next = omega (arith, walked.ahead, other) in
    (walked.so m refl ∙ sym (walked.stays m (omega arith) later), (later, record { each = λ k after before. walked.stays k (omega arith) before }))
