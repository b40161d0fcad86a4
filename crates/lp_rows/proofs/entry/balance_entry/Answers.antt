use Rattle.std.proofs.Common.{sym, ◌∙◌, ap}
use Rattle.lp_rows.specs.Entries.{balance_entry, one_if}
use Rattle.lp_rows.specs.Layout.{starts_in}
use Rattle.lp_rows.proofs.HeldEntries.{difference}
use Rattle.lp_rows.proofs.entry.balance_entry.Goals as goal

pub returns-in-Flight : goal.returns-in-Flight
returns-in-Flight c =
    difference c.one_if.result c.one_if-in-Flight.result _ _ (c.one_if.ensures.value ∙ ap one_if c.comes_to_node.ensures) (c.one_if-in-Flight.ensures.value ∙ ap one_if c.leaves_node.ensures)
    ∙ sym (ap (balance_entry c.args.tables.now (starts_in c.args.network.now) c.args.node) c.in-Flight.is)
