-- Pairs of numbers as keys.
use Rattle.std.specs.Prelude.{ℕ, List, [], ◌∷◌}

-- a pair as the list of its two numbers
abbrev pub numbers_of_pair : ℕ × ℕ → List ℕ
numbers_of_pair pair = pair.0 ∷ pair.1 ∷ []
