use Rattle.command_words.proofs.Parts.{argument_more}
use Rattle.command_words.proofs.command_line.program.with_arguments.Goals as goal

pub loop-argument-preserved : goal.loop-argument-preserved
loop-argument-preserved c =
    argument_more c.args.command c.loop-argument.command c.in_ok-command.command c.args.arguments.now c.loop-argument.argument-index _ c.arg_of.result
    c.loop-argument-test.true c.loop-argument.invariant c.arg_of.ensures c.in_ok-command.ensures
