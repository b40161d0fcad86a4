-- Turns in the order of the legs that arrive: they rise, and each of the fleet's legs has its own.
use Rattle.std.proofs.Common.{◌≡◌, ℕ, zero, suc, ◌<◌, Bool, true, false, if◌then◌else◌, ◌==◌, List, [], ◌∷◌, ◌++◌, length, refl, sym, ◌∙◌, ap, subst, inl, inr, arith}
use Rattle.std.proofs.lemmas.List.{append-nil, get_or_append_left, get_or_push, length_push}
use Rattle.std.proofs.lemmas.Bool.{cases_lt, eq-eqb}
use Rattle.fleet_model.specs.declared.parts.Connection.{Connection}
use Rattle.fleet_model.specs.Counts.{choice_at}
use Rattle.lines_of_flying.specs.ground_turns.Maps.{HasTurn, no_turn, turn_at, turn_to_next, turns_by}
use Rattle.lines_of_flying.proofs.ground_turns.FleetTurns.{of_one_more}

-- the turns of a list rise by the legs that arrive, and none is of a leg from the bound on
pub record Rise (turns : List Connection) (bound : ℕ) : Type 0 where
  pub each : (j k : ℕ) → j < k → k < length turns → (turn_at turns j).arriving < (turn_at turns k).arriving
  pub below : (k : ℕ) → k < length turns → (turn_at turns k).arriving < bound

rise_push : (xs : List Connection) (y : Connection) (n : ℕ) → Rise xs n → y.arriving ≡ n → Rise (xs ++ y ∷ []) (suc n)
rise_push xs y n rise last = record {
  each = λ j k order within. elim (cases_lt k (length xs)) [
    | inl before ↦ subst2 j k (get_or_append_left xs (y ∷ []) no_turn j (less order before)) (get_or_append_left xs (y ∷ []) no_turn k before) (rise.each j k order before)
    | inr after ↦
        let same : length xs ≡ k = omega (arith, length_push xs y) in
        let early : j < length xs = omega arith in
        subst2 j k (get_or_append_left xs (y ∷ []) no_turn j early) (get_or_push xs y no_turn k same) (later j early)
  ];
  below = of_one_more (λ turn. turn.arriving < suc n) xs y (λ k within. let few = rise.below k within in omega arith) (omega arith);
}
  where
    less : {j k m : ℕ} → j < k → k < m → j < m
    less h g = omega arith

    later : (j : ℕ) → j < length xs → (turn_at xs j).arriving < y.arriving
    later j early = let few = rise.below j early in omega arith

    subst2 : (j k : ℕ) → {p q : Connection} → turn_at (xs ++ y ∷ []) j ≡ p → turn_at (xs ++ y ∷ []) k ≡ q → p.arriving < q.arriving
        → (turn_at (xs ++ y ∷ []) j).arriving < (turn_at (xs ++ y ∷ []) k).arriving
    subst2 j k e g h = let left = ap (λ turn. turn.arriving) e in let right = ap (λ turn. turn.arriving) g in omega arith

has_old : (xs : List Connection) (y turn : Connection) → HasTurn xs turn → HasTurn (xs ++ y ∷ []) turn
has_old xs y turn has = record {
  place = has.place;
  within = let within = has.within in omega (arith, length_push xs y);
  there = get_or_append_left xs (y ∷ []) no_turn has.place has.within ∙ has.there;
}

has_last : (xs : List Connection) (y : Connection) → HasTurn (xs ++ y ∷ []) y
has_last xs y = record { place = length xs; within = omega (arith, length_push xs y); there = get_or_push xs y no_turn (length xs) refl }

module _ (a : List ℕ) (f : ℕ) (next : ℕ → ℕ) where
  pub by_arriving_rise : (n : ℕ) → Rise (turns_by a f next n) n
  by_arriving_rise zero = record { each = λ j k order within. absurd (omega arith); below = λ k within. absurd (omega arith) }
  by_arriving_rise (suc n) = by_last (choice_at a n == f) (by_arriving_rise n)
    where
      wider : (xs : List Connection) → Rise xs n → Rise xs (suc n)
      wider xs rise = record { each = rise.each; below = λ k within. let few = rise.below k within in omega arith }

      by_last : (b : Bool) → Rise (turns_by a f next n) n → Rise (turns_by a f next n ++ (if b then turn_to_next next n ∷ [] else [])) (suc n)
      by_last true rise = rise_push (turns_by a f next n) (turn_to_next next n) n rise refl
      by_last false rise = subst (λ xs. Rise xs (suc n)) (sym (append-nil (turns_by a f next n))) (wider (turns_by a f next n) rise)

  -- each leg of the fleet has its turn in the list
  pub has_turn_by : (n l : ℕ) → l < n → choice_at a l ≡ f → HasTurn (turns_by a f next n) (turn_to_next next l)
  has_turn_by zero l below flies = absurd (omega arith)
  has_turn_by (suc n) l below flies = by_last (choice_at a n == f) refl (λ before. has_turn_by n l before flies)
    where
      earlier : l ≡ n → (choice_at a n == f) ≡ false → ⊥
      earlier same e = let clash : true ≡ false = sym (eq-eqb _ _ flies) ∙ ap (λ k. choice_at a k == f) same ∙ e in cc

      by_last : (b : Bool) → (choice_at a n == f) ≡ b → (l < n → HasTurn (turns_by a f next n) (turn_to_next next l))
          → HasTurn (turns_by a f next n ++ (if b then turn_to_next next n ∷ [] else [])) (turn_to_next next l)
      by_last true e before = elim (cases_lt l n) [
        | inl less ↦ has_old (turns_by a f next n) (turn_to_next next n) (turn_to_next next l) (before less)
        | inr last ↦
            let same : n ≡ l = omega arith in
            subst (λ q. HasTurn (turns_by a f next n ++ turn_to_next next n ∷ []) (turn_to_next next q)) same (has_last (turns_by a f next n) (turn_to_next next n))
      ]
      by_last false e before = subst (λ xs. HasTurn xs (turn_to_next next l)) (sym (append-nil (turns_by a f next n))) (elim (cases_lt l n) [
        | inl less ↦ before less
        | inr last ↦ let same : l ≡ n = omega arith in absurd (earlier same e)
      ])
