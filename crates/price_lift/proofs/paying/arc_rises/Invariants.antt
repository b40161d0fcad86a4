use Rattle.std.proofs.Common.{◌≡◌}
use Rattle.lp_rows.specs.Layout.{concat_below}
use Rattle.price_lift.specs.ArcRises.{rise_of_number}
use Rattle.price_lift.proofs.paying.arc_rises.Given as goal

abbrev pub invariant-loop-number : goal.invariant-loop-number
invariant-loop-number l = l.rises.items ≡ concat_below (rise_of_number l.tables l.outline l.finder) l.number
