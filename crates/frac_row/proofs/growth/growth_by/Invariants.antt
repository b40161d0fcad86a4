use Rattle.std.proofs.Common.{◌≡◌, None}
use Rattle.sums.specs.Places.{first_below}
use Rattle.frac_row.specs.Row.{number_of}
use Rattle.frac_row.specs.Combined.{place_growth}
use Rattle.frac_row.proofs.growth.growth_by.Given as goal

abbrev pub invariant-loop-column : goal.invariant-loop-column
invariant-loop-column l =
    first_below (λ k. place_growth l.factors k (number_of l.row k) (number_of l.pivot_row k)) l.column ≡ None
