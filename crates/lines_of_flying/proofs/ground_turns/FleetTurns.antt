-- Turns listed by the legs of a fleet that arrive, each with a leg that follows.
use Rattle.std.proofs.Common.{◌≡◌, ℕ, zero, suc, ◌+◌, ◌-◌, ◌*◌, ◌<◌, ◌≤◌, Bool, true, false, if◌then◌else◌, ◌==◌, ◌&&◌, List, [], ◌∷◌, ◌++◌, length, refl, sym, ◌∙◌, ap, subst, inl, inr, arith, length-append, append-nil, add-one, true≢false}
use Rattle.std.proofs.lemmas.Bool.{and_parts, cases_eq, cases_lt, eq-eqb, eqb-true}
use Rattle.std.proofs.lemmas.Bool.Decides.{nat_tests}
use Rattle.std.proofs.Math.ListN.{get_or-append}
use Rattle.std.proofs.lemmas.List.{get_or_push}
use mathlib.Core.Bool.{false≢true}
use Rattle.sums.specs.Below.{sum_below, count_below}
use Rattle.sums.proofs.Sums.{sum_below-add, sum_below-agree, sum_below-one}
use Rattle.sums.proofs.Counts.{count_below-no_two}
use Rattle.sums.proofs.SumBounds.{term_le}
use Rattle.fleet_model.specs.declared.parts.Connection.{Connection}
use Rattle.fleet_model.specs.declared.tables.Tables.{Tables}
use Rattle.fleet_model.specs.Counts.{choice_at, weights_of}
use Rattle.fleet_model.specs.Schedule.{leg_on, legs_in}
use Rattle.fleet_model.specs.Plain.{IsPlain}
use Rattle.lines_of_flying.specs.ground_turns.Laws.{NextIsMap}
use Rattle.lines_of_flying.specs.ground_turns.Maps.{IsNext, IsSuccessorMap, arrivals_of, departures_of, no_turn, turn_at, turn_to_next, turns_by}
use Rattle.lines_of_flying.specs.ground_turns.Turns.{IsTurn}
use Rattle.lines_of_flying.proofs.ground_turns.Regroup.{by_places}
use Rattle.lines_of_flying.proofs.ground_turns.Rounds.{bit}
use Rattle.lines_of_flying.proofs.ground_turns.Totals.{some_counted}

-- a sum over a list with one turn more
with_one : (g : Connection → ℕ) (xs : List Connection) (x : Connection) → sum_below (λ k. g (turn_at (xs ++ x ∷ []) k)) (length (xs ++ x ∷ [])) ≡ sum_below (λ k. g (turn_at xs k)) (length xs) + g x
with_one g xs x =
    ap (sum_below (λ k. g (turn_at (xs ++ x ∷ []) k))) (longer xs x)
    ∙ ap (λ n. n + g (turn_at (xs ++ x ∷ []) (length xs)))
    (sum_below-agree (λ k. g (turn_at (xs ++ x ∷ []) k)) (λ k. g (turn_at xs k)) (length xs) (record { each = λ k lt. ap g (get_or-append xs (x ∷ []) no_turn k lt) }))
    ∙ ap (λ turn. sum_below (λ k. g (turn_at xs k)) (length xs) + g turn) (get_or_push xs x no_turn (length xs) refl)
  where
    longer : (xs : List Connection) (x : Connection) → length (xs ++ x ∷ []) ≡ suc (length xs)
    longer xs x = length-append xs (x ∷ []) ∙ add-one (length xs)

-- a turn of a list with one more is one of the list, or that one
pub of_one_more : (P : Connection → Type 0) (xs : List Connection) (x : Connection) → ((k : ℕ) → k < length xs → P (turn_at xs k)) → P x
    → (k : ℕ) → k < length (xs ++ x ∷ []) → P (turn_at (xs ++ x ∷ []) k)
of_one_more P xs x before last k lt = elim (cases_lt k (length xs)) [
  | inl less ↦ subst P (sym (get_or-append xs (x ∷ []) no_turn k less)) (before k less)
  | inr more ↦ subst P (sym (get_or_push xs x no_turn k (here (length-append xs (x ∷ [])) lt more))) last
]
  where
    here : {n m : ℕ} → n ≡ length xs + 1 → m < n → length xs ≤ m → length xs ≡ m
    here e lt more = omega arith

-- a list without another
without_more : (xs : List Connection) → xs ++ [] ≡ xs
without_more xs = append-nil xs

module _ (a : List ℕ) (f : ℕ) (next : ℕ → ℕ) where
  pub each_turn : (P : Connection → Type 0) (n : ℕ) → ((l : ℕ) → l < n → choice_at a l ≡ f → P (turn_to_next next l))
      → (k : ℕ) → k < length (turns_by a f next n) → P (turn_at (turns_by a f next n) k)
  each_turn P zero h k lt = absurd (omega arith)
  each_turn P (suc n) h k lt = by_last (choice_at a n == f) (λ e. h n (omega arith) (eqb-true _ _ e)) (each_turn P n (λ l less. h l (omega arith))) k lt
    where
      by_last : (b : Bool) → (b ≡ true → P (turn_to_next next n)) → ((k : ℕ) → k < length (turns_by a f next n) → P (turn_at (turns_by a f next n) k))
          → (k : ℕ) → k < length (turns_by a f next n ++ (if b then turn_to_next next n ∷ [] else [])) → P (turn_at (turns_by a f next n ++ (if b then turn_to_next next n ∷ [] else [])) k)
      by_last true last before = of_one_more P (turns_by a f next n) (turn_to_next next n) before (last refl)
      by_last false last before = subst (λ xs. (k : ℕ) → k < length xs → P (turn_at xs k)) (sym (without_more (turns_by a f next n))) before

  -- a sum over the turns is one over the legs
  pub over_turns : (g : Connection → ℕ) (n : ℕ)
      → sum_below (λ k. g (turn_at (turns_by a f next n) k)) (length (turns_by a f next n)) ≡ sum_below (λ l. bit (choice_at a l == f) * g (turn_to_next next l)) n
  over_turns g zero = refl
  over_turns g (suc n) = by_last (choice_at a n == f) (over_turns g n)
    where
      by_last : (b : Bool) → sum_below (λ k. g (turn_at (turns_by a f next n) k)) (length (turns_by a f next n)) ≡ sum_below (λ l. bit (choice_at a l == f) * g (turn_to_next next l)) n
          → sum_below (λ k. g (turn_at (turns_by a f next n ++ (if b then turn_to_next next n ∷ [] else [])) k)) (length (turns_by a f next n ++ (if b then turn_to_next next n ∷ [] else [])))
          ≡ sum_below (λ l. bit (choice_at a l == f) * g (turn_to_next next l)) n + bit b * g (turn_to_next next n)
      by_last true rest = omega (arith, with_one g (turns_by a f next n) (turn_to_next next n), rest)
      by_last false rest = omega (arith, ap (λ xs. sum_below (λ k. g (turn_at xs k)) (length xs)) (without_more (turns_by a f next n)), rest)

-- terms that are no more, and no less in sum, are equal
pub equal_terms : (f g : ℕ → ℕ) (n k : ℕ) → ((k : ℕ) → k < n → f k ≤ g k) → sum_below f n ≡ sum_below g n → k < n → f k ≡ g k
equal_terms f g n k less same lt =
    let parts = sum_below-agree g (λ j. f j + (g j - f j)) n (record { each = λ j below. let le = less j below in omega arith }) in
    let sum = sum_below-add f (λ j. g j - f j) n in
    let term = term_le (λ j. g j - f j) k n lt in
    omega (arith, parts, sum, same, term, less k lt)

-- a leg's share at one leg
pub one_leg : (b c : Bool) (k l : ℕ) → (k ≡ l → b ≡ c) → bit b * bit (k == l) ≡ (if l == k then bit c else 0)
one_leg b c k l h = elim (cases_eq k l) [
  | inl same ↦ let equal = h same in here b c k l equal same
  | inr other ↦ apart b c k l other
]
  where
    here : (b c : Bool) (k l : ℕ) → b ≡ c → k ≡ l → bit b * bit (k == l) ≡ (if l == k then bit c else 0)
    here b c k l e g = grind (arith, nat_tests)

    apart : (b c : Bool) (k l : ℕ) → (k ≡ l → ⊥) → bit b * bit (k == l) ≡ (if l == k then bit c else 0)
    apart b c k l g = grind (arith, nat_tests)

pub both : (b c : Bool) → bit b * bit c ≡ bit (b && c)
both true c = omega arith
both false c = omega arith

module _ (t : Tables) (a : List ℕ) (f : ℕ) (next : ℕ → ℕ) (plain : IsPlain t) (leads : IsNext t a f next) where
  abbrev in_fleet : ℕ → Bool
  in_fleet l = choice_at a l == f

  turns : List Connection
  turns = turns_by a f next (legs_in t)

  arrivals : (l : ℕ) → l < legs_in t → arrivals_of turns l ≡ weights_of a (leg_on l f)
  unfolding turns
  arrivals l below =
      over_turns a f next (λ turn. bit (turn.arriving == l)) (legs_in t)
      ∙ sum_below-agree (λ k. bit (in_fleet k) * bit (k == l)) (λ k. if l == k then bit (in_fleet l) else 0) (legs_in t)
      (record { each = λ k lt. one_leg (in_fleet k) (in_fleet l) k l (ap in_fleet) })
      ∙ sum_below-one l (bit (in_fleet l)) (legs_in t) below

  departs_at_most : (m : ℕ) → departures_of turns m ≤ bit (in_fleet m)
  unfolding turns
  departs_at_most m =
      let over = over_turns a f next (λ turn. bit (turn.departing == m)) (legs_in t) in
      let same = sum_below-agree (λ l. bit (in_fleet l) * bit (next l == m)) (λ l. bit (in_fleet l && (next l == m))) (legs_in t)
      (record { each = λ l below. both (in_fleet l) (next l == m) }) in
      let few = count_below-no_two (λ l. in_fleet l && (next l == m)) (legs_in t) (λ j k first second e g.
      let left = and_parts _ _ e in
      let right = and_parts _ _ g in
      leads.once j k first second (eqb-true _ _ left.0) (eqb-true _ _ right.0) (eqb-true _ _ left.1 ∙ sym (eqb-true _ _ right.1))) in
      by_fleet (in_fleet m) refl (count_below (λ l. in_fleet l && (next l == m)) (legs_in t)) few (λ some.
      let found = some_counted (λ l. in_fleet l && (next l == m)) (legs_in t) some in
      let parts = and_parts _ _ found.2 in
      subst (λ q. in_fleet q ≡ true) (eqb-true _ _ parts.1) (eq-eqb _ _ (leads.turn found.0 found.1 (eqb-true _ _ parts.0)).leaves_on)) (over ∙ same)
    where
      by_fleet : (b : Bool) → in_fleet m ≡ b → (n : ℕ) → n ≤ 1 → (0 < n → in_fleet m ≡ true) → departures_of turns m ≡ n → departures_of turns m ≤ bit b
      by_fleet true e n few h same = omega (arith, few, same)
      by_fleet false e n few h same = elim (cases_lt 0 n) [ inl some ↦ absurd (false≢true (sym e ∙ h some)) | inr none ↦ omega (arith, none, same) ]

  departures : (m : ℕ) → m < legs_in t → departures_of turns m ≡ weights_of a (leg_on m f)
  unfolding turns
  departures m below =
      let counted = by_places (λ k. (turn_at turns k).departing) (λ q. 1) (legs_in t) (length turns)
      (each_turn a f next (λ turn. turn.departing < legs_in t) (legs_in t) (λ l known flies. (leads.turn l known flies).departing)) in
      let listed = over_turns a f next (λ turn. 1) (legs_in t) in
      let left = sum_below-agree (departures_of turns) (λ q. departures_of turns q * 1) (legs_in t) (record { each = λ q lt. omega arith }) in
      let right = sum_below-agree (λ l. bit (in_fleet l) * 1) (λ l. bit (in_fleet l)) (legs_in t) (record { each = λ q lt. omega arith }) in
      equal_terms (departures_of turns) (λ l. bit (in_fleet l)) (legs_in t) m (λ k lt. departs_at_most k) (left ∙ sym counted ∙ listed ∙ right) below

  pub is_map : IsSuccessorMap t a f (turns_by a f next (legs_in t))
  unfolding turns
  is_map = record { plain = plain; each = each_turn a f next (IsTurn t a f) (legs_in t) leads.turn; arrives = arrivals; departs = departures }

pub next_is_map : NextIsMap
next_is_map t a f next plain leads = is_map t a f next plain leads

-- a number below n that passes, where there is one
pub pick : (ℕ → Bool) → ℕ → ℕ
pick p zero = 0
pick p (suc n) = if p n then n else pick p n

pub picked : (p : ℕ → Bool) (n k : ℕ) → k < n → p k ≡ true → (pick p n < n) × (p (pick p n) ≡ true)
unfolding pick
picked p zero k lt e = absurd (omega arith)
picked p (suc n) k lt e = by_last (p n) refl (λ less. picked p n k less e)
  where
    earlier : p n ≡ false → k < n
    earlier none = elim (cases_lt k n) [
      | inl less ↦ less
      | inr last ↦ let same : k ≡ n = omega arith in absurd (true≢false (sym e ∙ ap p same ∙ none))
    ]

    by_last : (b : Bool) → p n ≡ b → (k < n → (pick p n < n) × (p (pick p n) ≡ true))
        → ((if b then n else pick p n) < suc n) × (p (if b then n else pick p n) ≡ true)
    by_last true e' rest = (omega arith, e')
    by_last false e' rest = let found = rest (earlier e') in (omega (arith, found.0), found.1)
