-- Minutes between two ends, for the crates above.
use Rattle.std.proofs.Common.{◌≡◌, true, ℕ, ◌<◌, ◌≤◌, arith}
use Rattle.std.proofs.lemmas.Bool.Decides.{nat_tests}
use Rattle.node_aggregate.specs.EventMinutes.{is_within}
use Rattle.node_aggregate.specs.Waits.{lies_between}

pub within_ends : (from until m : ℕ) → is_within from until m ≡ true → (from ≤ m) × (m < until)
within_ends from until m e = (grind (arith, nat_tests), grind (arith, nat_tests))

pub within_where : (from until m : ℕ) → from ≤ m → m < until → is_within from until m ≡ true
within_where from until m low high = grind (arith, nat_tests)

pub among_ends : (low high m : ℕ) → lies_between low high m ≡ true → (low ≤ m) × (m ≤ high)
among_ends low high m e = (grind (arith, nat_tests), grind (arith, nat_tests))

pub among_where : (low high m : ℕ) → low ≤ m → m ≤ high → lies_between low high m ≡ true
among_where low high m from to = grind (arith, nat_tests)
