-- The turns of a fleet's legs to the legs that follow them are successors of the given pairs.
use Rattle.std.proofs.Common.{◌≡◌, ℕ, ◌+◌, ◌<◌, true, false, if◌then◌else◌, ◌==◌, List, [], ◌∷◌, ◌++◌, length, refl, sym, ◌∙◌, ap, subst, add-one}
use Rattle.std.proofs.lemmas.List.{append-nil}
use Rattle.std.proofs.lemmas.Bool.{eq-eqb}
use Rattle.fleet_model.specs.declared.parts.Connection.{Connection}
use Rattle.fleet_model.specs.declared.tables.Tables.{Tables}
use Rattle.fleet_model.specs.Counts.{choice_at}
use Rattle.fleet_model.specs.Schedule.{legs_in}
use Rattle.lines_of_flying.specs.ground_turns.FirstOut.{AreFirstOut, IsFirstOut}
use Rattle.lines_of_flying.specs.ground_turns.Maps.{HasTurn, Holds, IsHeldByMap, arrivals_of, turn_at, turn_to_next, turns_by}
use Rattle.lines_of_flying.proofs.ground_turns.FirstOuts.{first_out_fits}
use Rattle.lines_of_flying.proofs.ground_turns.FleetTurns.{each_turn, is_map}
use Rattle.lines_of_flying.specs.Following.{Follows, next_place}
use Rattle.lines_of_flying.specs.Successors.{AreSuccessors, RiseByArriving}
use Rattle.lines_of_flying.proofs.Followers.{given_turn, is_next, next, next_follows, one_follows, partner_follows}
use Rattle.lines_of_flying.proofs.Listed.{by_arriving_rise, has_turn_by}

-- the turns of the first legs
abbrev pub turns_below : Tables → List ℕ → ℕ → List Connection → ℕ → List Connection
turns_below t a f given n = turns_by a f (next t a f given) n

pub no_turns : (t : Tables) (a : List ℕ) (f : ℕ) (given : List Connection) → [] ≡ turns_below t a f given 0
no_turns t a f given = refl

one_more : (t : Tables) (a : List ℕ) (f : ℕ) (given : List Connection) (n : ℕ) → turns_below t a f given (n + 1) ≡ turns_below t a f given n ++ (if choice_at a n == f then turn_to_next (next t a f given) n ∷ [] else [])
one_more t a f given n = ap (turns_by a f (next t a f given)) (add-one n)

pub turn_more : (t : Tables) (a : List ℕ) (f : ℕ) (given : List Connection) (held : IsHeldByMap t a f given) (n q : ℕ) (turns : List Connection)
    → turns ≡ turns_below t a f given n → n < legs_in t → (choice_at a n == f) ≡ true → Follows t a f given n q
    → turns ++ record { arriving = n; departing = q } ∷ [] ≡ turns_below t a f given (n + 1)
turn_more t a f given held n q turns same below on follows =
    let next_is = one_follows t a f given held n q (next t a f given n) follows (next_follows t a f given held n below on) in
    ap (λ xs. xs ++ record { arriving = n; departing = q } ∷ []) same
    ∙ ap (λ r. turns_below t a f given n ++ record { arriving = n; departing = r } ∷ []) next_is
    ∙ ap (λ b. turns_below t a f given n ++ (if b then turn_to_next (next t a f given) n ∷ [] else [])) (sym on)
    ∙ sym (one_more t a f given n)

pub no_turn_more : (t : Tables) (a : List ℕ) (f : ℕ) (given : List Connection) (n : ℕ) (turns : List Connection)
    → turns ≡ turns_below t a f given n → (choice_at a n == f) ≡ false → turns ≡ turns_below t a f given (n + 1)
no_turn_more t a f given n turns same off =
    same ∙ sym (append-nil (turns_below t a f given n))
    ∙ ap (λ b. turns_below t a f given n ++ (if b then turn_to_next (next t a f given) n ∷ [] else [])) (sym off)
    ∙ sym (one_more t a f given n)

module _ (t : Tables) (a : List ℕ) (f : ℕ) (given : List Connection) (held : IsHeldByMap t a f given) where
  abbrev turns : List Connection
  turns = turns_below t a f given (legs_in t)

  -- each given pair is among them
  holds : Holds turns given
  holds = record { each = λ g within. has g within }
    where
      has : (g : ℕ) → g < length given → HasTurn turns (turn_at given g)
      has g within =
          let l = (turn_at given g).arriving in
          let turn = given_turn t a f given held g within in
          let on : (choice_at a l == f) ≡ true = eq-eqb _ _ turn.comes_on in
          let there = has_turn_by a f (next t a f given) (legs_in t) l turn.arriving turn.comes_on in
          let pair : Follows t a f given l (turn_at given g).departing = partner_follows t a f given l (turn_at given g).departing (record { place = g; within = within; there = refl }) in
          let same = one_follows t a f given held l (next t a f given l) (turn_at given g).departing (next_follows t a f given held l turn.arriving on) pair in
          subst (λ q. HasTurn turns (record { arriving = l; departing = q })) same there

  first_out : AreFirstOut t a f given turns
  unfolding next_place
  first_out = record {
    each = λ k within. each_turn a f (next t a f given) (λ turn. arrivals_of given turn.arriving ≡ 0 → IsFirstOut t a f given turn) (legs_in t)
        (λ l below on free. record { place = ((next_follows t a f given held l below (eq-eqb _ _ on)).first_out free).place }) k within;
  }

  order : RiseByArriving turns
  order = record { each = (by_arriving_rise a f (next t a f given) (legs_in t)).each }

  pub are_successors : AreSuccessors t a f given turns
  are_successors = record {
    fitting = first_out_fits t a f given turns held (is_map t a f (next t a f given) held.fitting.map.plain (is_next t a f given held)) holds first_out;
    holds = holds;
    first_out = first_out;
    order = order;
  }
