-- Without a budget of pivots no leaf is open for them.
use Rattle.std.proofs.Common.{◌≡◌, true, false, None, refl, arith}
use Rattle.dual_bound.specs.Bound.{part}
use Rattle.dual_bound.specs.Leaves.{by_pivots, open_pivots}
use Rattle.dual_bound.specs.declared.prices.Prices.{Prices}
use Rattle.dual_bound.specs.declared.trees.Cause.{Cause}
use Rattle.dual_bound.specs.declared.trees.Cause.TheVariants as cause
use Rattle.dual_bound.specs.declared.trees.Tree.{Tree}
use Rattle.dual_bound.specs.declared.trees.Tree.TheVariants as tree
use Rattle.fleet_model.specs.Kept.{Domains}
use Rattle.fleet_model.specs.declared.tables.Tables.{Tables}
use Rattle.node_bounding.specs.Causes.{AreCaused, IsOpenBy}

module _ (t : Tables) where
  never_spent : (keeps : Domains) (above prices : Prices) (why : Cause) → IsOpenBy t keeps None above prices why → by_pivots why ≡ 0
  never_spent keeps above prices (cause.Pivots made) is = absurd is.stopped.run.ends
  never_spent keeps above prices other is = refl

  pub none_spent : (keeps : Domains) (above : Prices) (whole : Tree) → AreCaused t None keeps above whole → open_pivots whole ≡ 0
  none_spent keeps above (tree.Open prices why) is = never_spent keeps above prices why is
  none_spent keeps above (tree.Trim' leg choice p with_pair q without) is =
      let first = none_spent (part keeps leg choice true) above with_pair is.0 in
      let second = none_spent (part keeps leg choice false) above without is.1 in
      omega (arith, first, second)
  none_spent keeps above (tree.Split' leg choice prices mixed p with_pair q without) is =
      let first = none_spent (part keeps leg choice true) prices with_pair is.1 in
      let second = none_spent (part keeps leg choice false) prices without is.2 in
      omega (arith, first, second)
  none_spent keeps above other is = refl
