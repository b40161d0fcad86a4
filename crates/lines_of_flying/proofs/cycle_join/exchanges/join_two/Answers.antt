use Rattle.std.proofs.Common.{sym}
use Rattle.lines_of_flying.proofs.cycle_join.Passes.{joined_cycles, lower_labels}
use Rattle.lines_of_flying.proofs.cycle_join.exchanges.join_two.Goals as goal

pub returns-clause-cycles : goal.returns-clause-cycles
returns-clause-cycles c =
    joined_cycles c.args.ground.now c.args.cycles.now (record { turns = c.exchange.new.turns; labels = c.relabel.new.labels }) c.args.place c.args.other
    c.label_at-from.result c.label_at-to.result c.requires.cycles c.requires.place c.requires.meets c.exchange.ensures c.relabel.ensures
    (sym c.label_at-from.ensures) (sym c.label_at-to.ensures)

pub returns-clause-lower : goal.returns-clause-lower
returns-clause-lower c =
    lower_labels c.args.ground.now c.args.cycles.now (record { turns = c.exchange.new.turns; labels = c.relabel.new.labels }) c.args.place c.args.other
    c.label_at-from.result c.label_at-to.result c.requires.cycles c.requires.place c.requires.meets c.exchange.ensures c.relabel.ensures
    (sym c.label_at-from.ensures) (sym c.label_at-to.ensures)
