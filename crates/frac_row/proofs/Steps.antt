-- Lemmas that the functions on single numbers name.
use Rattle.sums.proofs.Divisors.{gcd-rem, gcd-zero, gcd_at_most}

pub ruleset steps = (gcd-rem, gcd-zero, gcd_at_most)
