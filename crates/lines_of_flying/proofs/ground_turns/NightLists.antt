-- The nights of turns, some after others.
use Rattle.std.proofs.Common.{◌≡◌, ℕ, List, [], ◌∷◌, ◌++◌, append_assoc, refl, sym, ◌∙◌, ap}
use Rattle.fleet_model.specs.declared.parts.Connection.{Connection}
use Rattle.fleet_model.specs.declared.tables.Tables.{Tables}
use Rattle.lines_of_flying.specs.ground_turns.Nights.{nights_in_turn, nights_in_turns}

pub nights_append : (t : Tables) (f : ℕ) (xs ys : List Connection) → nights_in_turns t f (xs ++ ys) ≡ nights_in_turns t f xs ++ nights_in_turns t f ys
nights_append t f [] ys = refl
nights_append t f (x ∷ xs) ys =
    ap (λ nights. nights_in_turn t f x ++ nights) (nights_append t f xs ys) ∙ sym (append_assoc (nights_in_turn t f x) (nights_in_turns t f xs) (nights_in_turns t f ys))
