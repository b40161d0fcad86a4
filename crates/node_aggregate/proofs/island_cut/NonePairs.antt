-- Where each leg has a pair, one is the quickest; and whether a leg has one, by its quickest.
use Rattle.std.proofs.Common.{◌≡◌, ℕ, ◌<◌, true, false, Option, None, Some, IsSome, is_none, is_some, refl, ap}
use Rattle.sums.proofs.Tests.{no_both}
use Rattle.fleet_model.specs.declared.tables.Tables.{Tables}
use Rattle.fleet_model.specs.Schedule.{fleets_in, legs_in}
use Rattle.node_aggregate.specs.island_cut.Spare.{HavePairs, IsBest, NoneFlies}

pub some_best : (t : Tables) (l : ℕ) (best : Option ℕ) → HavePairs t → l < legs_in t → IsBest t l (fleets_in t) best → IsSome best
some_best t l (Some f) pairs below is = refl
some_best t l None pairs below none = absurd (pairs.each l below none)

pub none_best : (t : Tables) (l fleets : ℕ) (best : Option ℕ) → is_none best ≡ true → IsBest t l fleets best → NoneFlies t l fleets
none_best t l fleets None e none = none
none_best t l fleets (Some f) e is = cc

pub some_is_no_none : (t : Tables) (l fleets : ℕ) (best : Option ℕ) → is_none best ≡ false → IsBest t l fleets best → ¬ (NoneFlies t l fleets)
some_is_no_none t l fleets (Some f) e is none = no_both (ap is_some (none f is.known)) is.allowed
some_is_no_none t l fleets None e none all = cc
