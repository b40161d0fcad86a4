-- What the tests of signs tell, for the crates above.
use Rattle.std.proofs.Common.{◌≡◌, true, false, ℤ, pos, ◌<ℤ◌, ◌≤ℤ◌, arith}
use Rattle.std.proofs.lemmas.Int.{ints}
use Rattle.row_store.specs.Choice.{is_negative, is_positive}

pub positive_is : (z : ℤ) → is_positive z ≡ true → pos 0 <ℤ z
positive_is z e = grind (arith, ints)

pub not_negative_is : (z : ℤ) → is_negative z ≡ false → pos 0 ≤ℤ z
not_negative_is z e = grind (arith, ints)

pub negative_tested : (z : ℤ) → z <ℤ pos 0 → is_negative z ≡ true
negative_tested z less = grind (arith, ints)
