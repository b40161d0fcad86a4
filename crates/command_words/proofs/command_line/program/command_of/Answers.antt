use Rattle.clap.specs.Words.{new_app}
use Rattle.command_words.proofs.Parts.{group_more}
use Rattle.command_words.proofs.command_line.program.command_of.Goals as goal

pub loop-group-preserved : goal.loop-group-preserved
loop-group-preserved c =
    group_more (new_app c.args.row.now.name.now) c.loop-group.command c.in_ok-command.command c.args.row.now.groups.now c.loop-group.group-index _
    c.loop-group-test.true c.loop-group.invariant c.in_ok-command.ensures
