-- Where memory is wanting in a lift.
use Rattle.std.specs.Prelude.{Result, Ok, Err}
use Rattle.simplex_frac.specs.declared.dual_lift.error.LiftError.{LiftError}
use Rattle.dual_bound.specs.declared.prices.Prices.{Prices}
use Rattle.island_prices.specs.declared.paying.PaybackError.{PaybackError}
use Rattle.price_lift.specs.PaidBack.{lift_error}
pub use Rattle.simplex_frac.specs.dual_lift.TooLarge.{IsWantedBehind}

-- prices that are paid back, and else why they are not, are handed on
abbrev pub handed_on : Result Prices PaybackError → Result Prices LiftError
handed_on (Ok paid) = Ok paid
handed_on (Err error) = Err (lift_error error)
