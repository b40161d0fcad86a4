-- What holds by some sizes of fleets.
use Rattle.fleet_model.specs.Sizes.{HoldsBy}
use Rattle.fleet_model.specs.declared.sizes.Sizes.{Sizes}
use Rattle.fleet_model.specs.declared.sizes.Sizes.TheVariants as sizes
use Rattle.fleet_model.specs.declared.tables.Tables.{Tables}

-- what follows of any tables follows by any sizes
pub holds_too : (t : Tables) (by : Sizes) (Holds Too : Tables → Type 0) → ((u : Tables) → Holds u → Too u) → HoldsBy t by Holds → HoldsBy t by Too
holds_too t sizes.Own Holds Too follows holds = follows t holds
holds_too t (sizes.Other fleet count) Holds Too follows holds = λ u is. follows u (holds u is)
