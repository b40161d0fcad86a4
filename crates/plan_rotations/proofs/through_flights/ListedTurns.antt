-- Turns listed by the leg that arrives.
use Rattle.std.proofs.Common.{◌≡◌, ℕ, zero, suc, ◌+◌, ◌<◌, ◌≤◌, Bool, true, false, if◌then◌else◌, List, [], ◌∷◌, ◌++◌, length, unwrap_or, ℤ, pos, ◌+ℤ◌, refl, sym, ◌∙◌, ap, subst, inl, inr, arith, length-append, add-one, lt_trans}
use Rattle.std.proofs.lemmas.Bool.{cases_lt}
use Rattle.std.proofs.lemmas.Int.{ints}
use Rattle.std.proofs.Math.ListN.{get_or-append}
use Rattle.std.proofs.Math.Seq.{get_or-append_seam}
use Rattle.sums.specs.Below.{sum_below, sum_below_ℤ}
use Rattle.sums.proofs.WholeSums.{sum_below_ℤ-same}
use Rattle.sums.proofs.Naturals.{at_end, below_next, less_alike, plus_0}
use Rattle.fleet_model.specs.declared.parts.Connection.{Connection}
use Rattle.fleet_model.specs.declared.tables.Tables.{Tables}
use Rattle.lines_of_flying.specs.ground_turns.Maps.{no_turn, turn_at}
use Rattle.lines_of_flying.specs.ground_turns.Throughs.{through_value, through_worth_at}
use Rattle.plan_rotations.specs.through_flights.Choice.{turns_below}
use Rattle.plan_rotations.specs.through_flights.Worths.{through_pair}

-- an entry is the turn of a leg that passes
pub record IsListed (passes : ℕ → Bool) (next : ℕ → ℕ) (n : ℕ) (turn : Connection) : Type 0 where
  pub leg : ℕ
  pub within : leg < n
  pub passing : passes leg ≡ true
  pub is : turn ≡ through_pair leg (next leg)

append_one : (xs : List Connection) (y : Connection) (k : ℕ) → k < length (xs ++ y ∷ []) → length xs ≤ k → turn_at (xs ++ y ∷ []) k ≡ y
append_one xs y k lt ge =
    let same : k ≡ length xs = at_end _ _ _ lt ge (length-append xs (y ∷ [])) in
    ap (turn_at (xs ++ y ∷ [])) same ∙ get_or-append_seam xs y [] no_turn

wider : (passes : ℕ → Bool) (next : ℕ → ℕ) (n : ℕ) (turn other : Connection) → other ≡ turn → IsListed passes next n turn → IsListed passes next (suc n) other
wider passes next n turn other same was = record { leg = was.leg; within = below_next _ _ was.within; passing = was.passing; is = same ∙ was.is }

pub each_listed : (passes : ℕ → Bool) (next : ℕ → ℕ) (n k : ℕ) → k < length (turns_below passes next n) → IsListed passes next n (turn_at (turns_below passes next n) k)
each_listed passes next zero k lt = absurd (omega arith)
each_listed passes next (suc n) k lt = by_last (passes n) refl (each_listed passes next n) lt
  where
    by_last : (b : Bool) → passes n ≡ b → ((j : ℕ) → j < length (turns_below passes next n) → IsListed passes next n (turn_at (turns_below passes next n) j))
        → k < length (turns_below passes next n ++ (if b then through_pair n (next n) ∷ [] else []))
        → IsListed passes next (suc n) (turn_at (turns_below passes next n ++ (if b then through_pair n (next n) ∷ [] else [])) k)
    by_last true e before lt = elim (cases_lt k (length (turns_below passes next n))) [
      | inl less ↦ wider passes next n _ _ (get_or-append (turns_below passes next n) (through_pair n (next n) ∷ []) no_turn k less) (before k less)
      | inr ge ↦ record { leg = n; within = last n; passing = e; is = append_one (turns_below passes next n) (through_pair n (next n)) k lt ge }
    ]
      where
        last : (n : ℕ) → n < suc n
        last n = omega arith
    by_last false e before lt =
        let less : k < length (turns_below passes next n) = same_length _ _ _ lt (length-append (turns_below passes next n) []) in
        wider passes next n _ _ (get_or-append (turns_below passes next n) [] no_turn k less) (before k less)
      where
        same_length : (k a b : ℕ) → k < a → a ≡ b + 0 → k < b
        same_length k a b lt e = omega arith

pub rising : (passes : ℕ → Bool) (next : ℕ → ℕ) (n j k : ℕ) → j < k → k < length (turns_below passes next n)
    → (turn_at (turns_below passes next n) j).arriving < (turn_at (turns_below passes next n) k).arriving
rising passes next zero j k order lt = absurd (omega arith)
rising passes next (suc n) j k order lt = by_last (passes n) (rising passes next n) (each_listed passes next n) lt
  where
    before_n : (turn : Connection) → IsListed passes next n turn → turn.arriving < n
    before_n turn listed = subst (λ l. l < n) (sym (ap (λ x. x.arriving) listed.is)) listed.within

    by_last : (b : Bool) → ((j k : ℕ) → j < k → k < length (turns_below passes next n) → (turn_at (turns_below passes next n) j).arriving < (turn_at (turns_below passes next n) k).arriving)
        → ((j : ℕ) → j < length (turns_below passes next n) → IsListed passes next n (turn_at (turns_below passes next n) j))
        → k < length (turns_below passes next n ++ (if b then through_pair n (next n) ∷ [] else []))
        → (turn_at (turns_below passes next n ++ (if b then through_pair n (next n) ∷ [] else [])) j).arriving
        < (turn_at (turns_below passes next n ++ (if b then through_pair n (next n) ∷ [] else [])) k).arriving
    by_last true before listed lt = elim (cases_lt k (length (turns_below passes next n))) [
      | inl less ↦ less_alike _ _ _ _ (ap (λ x. x.arriving) (get_or-append (turns_below passes next n) (through_pair n (next n) ∷ []) no_turn j (lt_trans order less)))
          (ap (λ x. x.arriving) (get_or-append (turns_below passes next n) (through_pair n (next n) ∷ []) no_turn k less)) (before j k order less)
      | inr ge ↦
          let less : j < length (turns_below passes next n) = earlier _ _ _ _ order lt (length-append (turns_below passes next n) (through_pair n (next n) ∷ [])) in
          less_alike _ _ _ _ (ap (λ x. x.arriving) (get_or-append (turns_below passes next n) (through_pair n (next n) ∷ []) no_turn j less))
          (ap (λ x. x.arriving) (append_one (turns_below passes next n) (through_pair n (next n)) k lt ge)) (before_n _ (listed j less))
    ]
      where
        earlier : (j k a b : ℕ) → j < k → k < a → a ≡ b + 1 → j < b
        earlier j k a b p q e = omega arith
    by_last false before listed lt =
        let less : k < length (turns_below passes next n) = same_length _ _ _ lt (length-append (turns_below passes next n) []) in
        less_alike _ _ _ _ (ap (λ x. x.arriving) (get_or-append (turns_below passes next n) [] no_turn j (lt_trans order less)))
        (ap (λ x. x.arriving) (get_or-append (turns_below passes next n) [] no_turn k less)) (before j k order less)
      where
        same_length : (k a b : ℕ) → k < a → a ≡ b + 0 → k < b
        same_length k a b lt e = omega arith

-- the values of a list of turns
values : Tables → List Connection → ℤ
values t turns = sum_below_ℤ (through_worth_at t turns) (length turns)

value : Tables → Connection → ℤ
value t turn = unwrap_or (through_value t turn) (pos 0)

values_one : (t : Tables) (xs : List Connection) (y : Connection) → values t (xs ++ y ∷ []) ≡ values t xs +ℤ value t y
unfolding values value
values_one t xs y =
    ap (sum_below_ℤ (through_worth_at t (xs ++ y ∷ []))) (length-append xs (y ∷ []) ∙ add-one (length xs))
    ∙ ap (λ z. z +ℤ unwrap_or (through_value t (turn_at (xs ++ y ∷ []) (length xs))) (pos 0))
    (sum_below_ℤ-same (through_worth_at t (xs ++ y ∷ [])) (through_worth_at t xs) (length xs) (λ k lt. ap (λ turn. unwrap_or (through_value t turn) (pos 0)) (get_or-append xs (y ∷ []) no_turn k lt)))
    ∙ ap (λ turn. sum_below_ℤ (through_worth_at t xs) (length xs) +ℤ unwrap_or (through_value t turn) (pos 0)) (get_or-append_seam xs y [] no_turn)

values_none : (t : Tables) (xs : List Connection) → values t (xs ++ []) ≡ values t xs
unfolding values
values_none t xs =
    ap (sum_below_ℤ (through_worth_at t (xs ++ []))) (length-append xs [] ∙ plus_0 (length xs))
    ∙ sum_below_ℤ-same (through_worth_at t (xs ++ [])) (through_worth_at t xs) (length xs) (λ k lt. ap (λ turn. unwrap_or (through_value t turn) (pos 0)) (get_or-append xs [] no_turn k lt))

-- the turns are worth what the legs' pairs are
pub values_below : (t : Tables) (passes : ℕ → Bool) (next worth : ℕ → ℕ) (n : ℕ)
    → ((l : ℕ) → l < n → passes l ≡ true → unwrap_or (through_value t (through_pair l (next l))) (pos 0) ≡ pos (worth l))
    → ((l : ℕ) → l < n → passes l ≡ false → worth l ≡ 0)
    → sum_below_ℤ (through_worth_at t (turns_below passes next n)) (length (turns_below passes next n)) ≡ pos (sum_below worth n)
unfolding values value
values_below t passes next worth zero chosen rest = refl
values_below t passes next worth (suc n) chosen rest =
    by_last (passes n) (values_below t passes next worth n (λ l lt. chosen l (omega arith)) (λ l lt. rest l (omega arith))) (chosen n (omega arith)) (rest n (omega arith))
  where
    by_last : (b : Bool) → values t (turns_below passes next n) ≡ pos (sum_below worth n)
        → (b ≡ true → value t (through_pair n (next n)) ≡ pos (worth n)) → (b ≡ false → worth n ≡ 0)
        → values t (turns_below passes next n ++ (if b then through_pair n (next n) ∷ [] else [])) ≡ pos (sum_below worth n + worth n)
    by_last true before here none = values_one t (turns_below passes next n) (through_pair n (next n)) ∙ add _ _ _ _ before (here refl)
      where
        add : (x y : ℤ) (a b : ℕ) → x ≡ pos a → y ≡ pos b → x +ℤ y ≡ pos (a + b)
        add x y a b e f = omega (arith, ints)
    by_last false before here none = values_none t (turns_below passes next n) ∙ before ∙ ap pos (same _ _ (none refl))
      where
        same : (a b : ℕ) → b ≡ 0 → a ≡ a + b
        same a b e = omega arith
