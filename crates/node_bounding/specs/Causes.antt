-- Why the leaves of a tree are open, and why its subproblems were split.
use Rattle.std.specs.Prelude.{◌≡◌, ℕ, ◌<◌, ◌⊎◌, ⊤, true, false, [], Option, pos, ◌<ℤ◌}
use Rattle.sums.specs.Places.{list_below}
use Rattle.fleet_model.specs.Kept.{Domains, IsFirstBare}
use Rattle.fleet_model.specs.Schedule.{choices_in, fleets_in, leg_on}
use Rattle.fleet_model.specs.declared.tables.Tables.{Tables}
use Rattle.dual_bound.specs.Bound.{part}
use Rattle.dual_bound.specs.Mixed.{weight_in}
use Rattle.dual_bound.specs.declared.mixed.Mixed.{Mixed}
use Rattle.dual_bound.specs.declared.prices.Prices.{Prices}
use Rattle.dual_bound.specs.declared.trees.Cause.{Cause}
use Rattle.dual_bound.specs.declared.trees.Cause.TheVariants as cause
use Rattle.dual_bound.specs.declared.trees.Tree.{Tree}
use Rattle.dual_bound.specs.declared.trees.Tree.TheVariants as tree
use Rattle.dual_bound.specs.Fractions.{IsWholePair}
use Rattle.node_bounding.specs.Runs.{IsSearched, IsTooLarge, OutgrowsRun, SpendsPivots}

-- why the run of a subproblem, with so many pivots allowed or with no budget, gave no prices; with none none are spent
abbrev pub IsStopped : Tables → Domains → Option ℕ → Cause → Type 0
IsStopped t keeps pivots (cause.Pivots made) = SpendsPivots t keeps pivots made
IsStopped t keeps pivots (cause.Grew made row column) = OutgrowsRun t keeps pivots made row column
IsStopped t keeps pivots (cause.Lift step at) = IsTooLarge t keeps pivots step at
IsStopped t keeps pivots (cause.Nodes mixed) = ⊥

-- a leaf stays open without prices of its own, and takes the nearest above
pub record IsLeftOpen (t : Tables) (keeps : Domains) (pivots : Option ℕ) (above prices : Prices) (why : Cause) : Type 0 where
  pub searched : IsSearched t keeps
  pub stopped : IsStopped t keeps pivots why
  pub nearest : prices ≡ above

-- why a leaf is open; the rules of the tree say the rest of one that has a fractional assignment
abbrev pub IsOpenBy : Tables → Domains → Option ℕ → Prices → Prices → Cause → Type 0
IsOpenBy t keeps pivots above prices (cause.Nodes mixed) = ⊤
IsOpenBy t keeps pivots above prices (cause.Pivots made) = IsLeftOpen t keeps pivots above prices (cause.Pivots made)
IsOpenBy t keeps pivots above prices (cause.Grew made row column) = IsLeftOpen t keeps pivots above prices (cause.Grew made row column)
IsOpenBy t keeps pivots above prices (cause.Lift step at) = IsLeftOpen t keeps pivots above prices (cause.Lift step at)

-- a pair comes before another: by leg, then by choice
abbrev pub PairComesBefore : ℕ → ℕ → ℕ → ℕ → Type 0
PairComesBefore l c leg choice = (l < leg) ⊎ ((l ≡ leg) × (c < choice))

-- the first pair, by leg and then by choice, that is flown in part
pub record IsFirstPartial (t : Tables) (mixed : Mixed) (leg choice : ℕ) : Type 0 where
  pub some : pos 0 <ℤ weight_in mixed (leg_on leg choice)
  pub not_all : weight_in mixed (leg_on leg choice) <ℤ mixed.scale
  pub first : (l c : ℕ) → c < choices_in t l → PairComesBefore l c leg choice → IsWholePair mixed l c

-- The cause of each leaf and each split of a part of a tree, with so many pivots allowed for each subproblem, or with no budget; `above`
-- are the prices of the nearest split.
abbrev pub AreCaused : Tables → Option ℕ → Domains → Prices → Tree → Type 0
AreCaused t pivots keeps above (tree.Bare leg) = IsFirstBare t keeps leg
AreCaused t pivots keeps above tree.Sole = ⊤
AreCaused t pivots keeps above (tree.Refuted prices) = ⊤
AreCaused t pivots keeps above (tree.Priced prices) = ⊤
AreCaused t pivots keeps above (tree.Open prices why) = IsOpenBy t keeps pivots above prices why
AreCaused t pivots keeps above (tree.Trim' leg choice p with_pair q without) =
    AreCaused t pivots (part keeps leg choice true) above with_pair × AreCaused t pivots (part keeps leg choice false) above without
AreCaused t pivots keeps above (tree.Split' leg choice prices mixed p with_pair q without) =
    IsFirstPartial t mixed leg choice × AreCaused t pivots (part keeps leg choice true) prices with_pair × AreCaused t pivots (part keeps leg choice false) prices without

-- prices of 0 throughout, over 1, with a rent for each fleet
abbrev pub zero_prices : Tables → Prices
zero_prices t = record { scale = pos 1; rents = list_below (λ f. pos 0) (fleets_in t); steps = []; charges = [] }
