-- Paths of legs in a map: each is as long as it has different legs, and ends where it began.
use Rattle.std.proofs.Common.{◌≡◌, ◌≢◌, ℕ, zero, suc, ◌+◌, ◌-◌, ◌<◌, ◌≤◌, inl, inr, ◌==◌, List, [], ◌∷◌, ◌++◌, length, slice_index, refl, sym, ◌∙◌, ap, subst, arith, length-append, ap₂}
use Rattle.std.proofs.Math.ListN.{get_or-append}
use Rattle.std.proofs.lemmas.Bool.{cases_lt, eq-eqb}
use Rattle.std.proofs.lemmas.List.{get_or_push}
use Rattle.sums.proofs.Counts.{count_below-one}
use Rattle.fleet_model.specs.declared.parts.Connection.{Connection}
use Rattle.fleet_model.specs.declared.tables.Tables.{Tables}
use Rattle.fleet_model.specs.Schedule.{legs_in}
use Rattle.lines_of_flying.specs.ground_turns.Maps.{HasTurn, IsSuccessorMap, arrivals_of, departures_of, turn_at}
use Rattle.lines_of_flying.specs.ground_turns.Turns.{IsTurn}
use Rattle.lines_of_flying.proofs.ground_turns.Rounds.{bit}
use Rattle.lines_of_flying.specs.cycle_join.Joins.{Flies}
use Rattle.lines_of_flying.specs.cycle_join.Rounds.{IsPath, IsRound, final_leg, turn_between}
use Rattle.sums.proofs.Terms.{few_apart}

module _ (t : Tables) (a : List ℕ) (f : ℕ) (turns : List Connection) (map : IsSuccessorMap t a f turns) where
  pub its_turn : (turn : Connection) → HasTurn turns turn → IsTurn t a f turn
  its_turn turn has = subst (IsTurn t a f) has.there (map.each has.place has.within)

  pub arrives_once : (l : ℕ) → Flies t a f l → arrivals_of turns l ≡ 1
  arrives_once l flies = map.arrives l flies.known ∙ ap bit (eq-eqb _ _ flies.flown)

  departs_once : (l : ℕ) → Flies t a f l → departures_of turns l ≡ 1
  departs_once l flies = map.departs l flies.known ∙ ap bit (eq-eqb _ _ flies.flown)

  -- turns with one leg that arrives, or with one that departs, are one
  pub same_after : (l q r : ℕ) → HasTurn turns (turn_between l q) → HasTurn turns (turn_between l r) → q ≡ r
  same_after l q r first second =
      let turn = its_turn (turn_between l q) first in
      let place = count_below-one (λ k. (turn_at turns k).arriving == l) (length turns) first.place second.place
      (arrives_once l (record { known = turn.arriving; flown = turn.comes_on })) first.within second.within
      (eq-eqb _ _ (ap (λ turn. turn.arriving) first.there)) (eq-eqb _ _ (ap (λ turn. turn.arriving) second.there)) in
      ap (λ turn. turn.departing) (sym first.there ∙ ap (turn_at turns) place ∙ second.there)

  pub same_before : (l m q : ℕ) → HasTurn turns (turn_between l q) → HasTurn turns (turn_between m q) → l ≡ m
  same_before l m q first second =
      let turn = its_turn (turn_between l q) first in
      let place = count_below-one (λ k. (turn_at turns k).departing == q) (length turns) first.place second.place
      (departs_once q (record { known = turn.departing; flown = turn.leaves_on })) first.within second.within
      (eq-eqb _ _ (ap (λ turn. turn.departing) first.there)) (eq-eqb _ _ (ap (λ turn. turn.departing) second.there)) in
      ap (λ turn. turn.arriving) (sym first.there ∙ ap (turn_at turns) place ∙ second.there)

  module _ (first : ℕ) (legs : List ℕ) (path : IsPath turns first legs) where
    -- a leg that follows the last is the first or none of them
    new_leg : (q : ℕ) → HasTurn turns (turn_between (final_leg legs) q) → q ≢ first → (k : ℕ) → k < length legs → slice_index legs k ≢ q
    new_leg q turn other zero lt same = other (sym same ∙ path.begins)
    new_leg q turn other (suc k) lt same =
        let before = subst (λ r. HasTurn turns (turn_between (slice_index legs k) r)) same (path.steps k lt) in
        path.once k (length legs - 1) (omega arith) (omega arith) (same_before (slice_index legs k) (final_leg legs) q before turn)

    -- one leg more
    pub path_more : (q : ℕ) → HasTurn turns (turn_between (final_leg legs) q) → q ≢ first → IsPath turns first (legs ++ q ∷ [])
    path_more q turn other =
        let some = path.some in
        record {
          some = omega (arith, long);
          begins = old 0 some ∙ path.begins;
          steps = λ k lt. elim (cases_lt (suc k) (length legs)) [
            | inl before ↦
                subst (λ turn. HasTurn turns turn) (ap₂ turn_between (sym (old k (omega arith))) (sym (old (suc k) before))) (path.steps k before)
            | inr after ↦
                let place : length legs - 1 ≡ k = omega (arith, long, lt, after) in
                let end : length legs ≡ suc k = omega (arith, long, lt, after) in
                subst (λ turn. HasTurn turns turn) (ap₂ turn_between (ap (slice_index legs) place ∙ sym (old k (omega arith))) (sym (get_or_push legs q 0 (suc k) end))) turn
          ];
          once = λ j k order lt. elim (cases_lt k (length legs)) [
            | inl before ↦ λ same. path.once j k order before (sym (old j (omega arith)) ∙ same ∙ old k before)
            | inr after ↦
                let end : length legs ≡ k = omega (arith, long, lt, after) in
                λ same. new_leg q turn other j (omega arith) (sym (old j (omega arith)) ∙ same ∙ get_or_push legs q 0 k end)
          ];
        }
      where
        long : length (legs ++ q ∷ []) ≡ length legs + 1
        long = length-append legs (q ∷ [])

        old : (k : ℕ) → k < length legs → slice_index (legs ++ q ∷ []) k ≡ slice_index legs k
        old k lt = get_or-append legs (q ∷ []) 0 k lt

    -- the legs of a path from one of the fleet's legs are the fleet's
    pub path_flies : Flies t a f first → (k : ℕ) → k < length legs → Flies t a f (slice_index legs k)
    path_flies flies zero lt = subst (Flies t a f) (sym path.begins) flies
    path_flies flies (suc k) lt = let turn = its_turn _ (path.steps k lt) in record { known = turn.departing; flown = turn.leaves_on }

    -- so there are no more of them than legs
    pub path_short : Flies t a f first → length legs ≤ legs_in t
    path_short flies = few_apart (slice_index legs) (length legs) (legs_in t) (λ k lt. (path_flies flies k lt).known) path.once

-- a path that ends with a leg goes on with the one that follows, or has come round
module _ (t : Tables) (a : List ℕ) (f : ℕ) (turns : List Connection) (map : IsSuccessorMap t a f turns) (first leg : ℕ) (legs : List ℕ) where
  last_leg : final_leg (legs ++ leg ∷ []) ≡ leg
  last_leg = get_or_push legs leg 0 (length (legs ++ leg ∷ []) - 1) (omega (arith, length-append legs (leg ∷ [])))

  pub path_on : (pushed : List ℕ) (q : ℕ) → pushed ≡ legs ++ leg ∷ [] → IsPath turns first (legs ++ leg ∷ []) → HasTurn turns (turn_between leg q) → q ≢ first
      → IsPath turns first (pushed ++ q ∷ [])
  path_on pushed q is path turn other =
      subst (λ xs. IsPath turns first (xs ++ q ∷ [])) (sym is)
      (path_more t a f turns map first (legs ++ leg ∷ []) path q (subst (λ l. HasTurn turns (turn_between l q)) (sym last_leg) turn) other)

  pub last_arrives_once : IsPath turns first (legs ++ leg ∷ []) → Flies t a f first → arrivals_of turns leg ≡ 1
  last_arrives_once path flies =
      let end : length legs < length (legs ++ leg ∷ []) = omega (arith, length-append legs (leg ∷ [])) in
      arrives_once t a f turns map leg
      (subst (Flies t a f) (get_or_push legs leg 0 (length legs) refl) (path_flies t a f turns map first (legs ++ leg ∷ []) path flies (length legs) end))

  pub not_round : IsPath turns first (legs ++ leg ∷ []) → Flies t a f first → legs_in t ≤ length legs → ⊥
  not_round path flies long = absurd (omega (arith, path_short t a f turns map first (legs ++ leg ∷ []) path flies, length-append legs (leg ∷ []), long))

  pub come_round : (pushed : List ℕ) (q : ℕ) → pushed ≡ legs ++ leg ∷ [] → IsPath turns first (legs ++ leg ∷ []) → HasTurn turns (turn_between leg q) → q ≡ first → IsRound turns first pushed
  come_round pushed q is path turn same = subst (IsRound turns first) (sym is) (record {
    path = path;
    closes = subst (λ l. HasTurn turns (turn_between l first)) (sym last_leg) (subst (λ r. HasTurn turns (turn_between leg r)) same turn);
  })

-- a path of one leg
pub one_leg : (turns : List Connection) (first : ℕ) → IsPath turns first (first ∷ [])
one_leg turns first = record {
  some = omega arith;
  begins = refl;
  steps = λ k lt. absurd (omega arith);
  once = λ j k order lt. absurd (omega arith);
}
