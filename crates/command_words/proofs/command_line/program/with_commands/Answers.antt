use Rattle.command_words.proofs.Parts.{command_more}
use Rattle.command_words.proofs.command_line.program.with_commands.Goals as goal

pub loop-row-preserved : goal.loop-row-preserved
loop-row-preserved c =
    command_more c.args.program c.loop-row.program c.in_ok-command.command c.in_ok-program.program c.args.commands.now c.loop-row.row-index _
    c.loop-row-test.true c.loop-row.invariant c.in_ok-command.ensures c.in_ok-program.ensures
