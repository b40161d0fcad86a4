use Rattle.std.proofs.Common.{sym, subst, ap, ◌∙◌}
use Rattle.frac_row.specs.Row.{IsRow, width_of}
use Rattle.frac_row.proofs.Rows.{reduced_is_row, width_of-reduced}
use Rattle.price_lift.proofs.pricing.prices_of.Goals as goal

pub prices-requires-clause-row : goal.prices-requires-clause-row
prices-requires-clause-row c = subst IsRow (sym c.in_ok-lowest.ensures.1) (reduced_is_row c.args.duals c.requires.row)

pub prices-requires-clause-width : goal.prices-requires-clause-width
prices-requires-clause-width c = ap width_of c.in_ok-lowest.ensures.1 ∙ width_of-reduced c.args.duals ∙ c.requires.width
