-- What it costs to fly a leg with a fleet by a list of costs.
use Rattle.std.specs.Prelude.{ℕ, ◌<◌, List, [], ◌∷◌, length, Option, Some, None, ℤ, pos, Bool, IsTrue, ◌==◌, ◌&&◌, ◌||◌, nat_lt, if◌then◌else◌, slice_index_or}
use Rattle.fleet_model.specs.declared.parts.PairCost.{PairCost}

-- the entry is of the leg and the fleet
abbrev pub is_of : ℕ → ℕ → PairCost → Bool
is_of leg fleet entry = (entry.leg == leg) && (entry.fleet == fleet)

-- what the first entry of a leg and a fleet says, and nothing where there is none
abbrev pub cost_in : List PairCost → ℕ → ℕ → Option ℤ
cost_in [] leg fleet = None
cost_in (entry ∷ entries) leg fleet = if is_of leg fleet entry then Some entry.cost else cost_in entries leg fleet

-- an entry comes before another, by leg, then fleet
abbrev pub comes_before : PairCost → PairCost → Bool
comes_before a b = nat_lt a.leg b.leg || ((a.leg == b.leg) && nat_lt a.fleet b.fleet)

-- what stands where there is no entry
abbrev pub no_cost : PairCost
no_cost = record { leg = 0; fleet = 0; cost = pos 0 }

-- each entry comes before those after it
abbrev pub Rise : List PairCost → Type 0
Rise entries = (i j : ℕ) → i < j → j < length entries → IsTrue (comes_before (slice_index_or entries i no_cost) (slice_index_or entries j no_cost))
