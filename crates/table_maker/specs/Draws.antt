-- The draws that tables are made by: those of a linear congruential generator.
use Rattle.std.specs.Prelude.{ℕ, zero, suc, ◌+◌, ◌*◌, ◌/◌, ◌%◌}

-- the state after another
abbrev pub next_state : ℕ → ℕ
next_state state = (state * 1103515245 + 12345) % 2147483648

-- the state after so many draws
unfoldable pub state_after : ℕ → ℕ → ℕ
state_after state zero = state
state_after state (suc draws) = next_state (state_after state draws)

-- what is drawn at a state, of the numbers below a bound
abbrev pub number_below : ℕ → ℕ → ℕ
number_below state bound = state / 65536 % bound

-- the draw after so many others, of the numbers below a bound
abbrev pub drawn : ℕ → ℕ → ℕ → ℕ
drawn state others bound = number_below (state_after state (suc others)) bound
