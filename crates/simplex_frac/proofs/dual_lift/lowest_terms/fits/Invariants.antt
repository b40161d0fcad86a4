use Rattle.std.proofs.Common.{◌≡◌, None}
use Rattle.sums.specs.Places.{first_below}
use Rattle.simplex_frac.specs.dual_lift.TooLarge.{lowest_value_excess}
use Rattle.simplex_frac.proofs.dual_lift.lowest_terms.fits.Given as goal

abbrev pub invariant-loop-place : goal.invariant-loop-place
invariant-loop-place l = first_below (lowest_value_excess l.limits.value l.first (record { numbers = l.values; den = l.scale })) l.place ≡ None
