-- That some night of a round is for maintenance.
use Rattle.std.specs.Prelude.{◌≡◌, ℕ, ◌<◌, Bool, true, false, List, length, slice_index_or}

pub record HasMaintenance (nights : List Bool) : Type 0 where
  pub night : ℕ
  pub within : night < length nights
  pub comes : slice_index_or nights night false ≡ true
