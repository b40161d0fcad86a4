use Rattle.std.proofs.Common.{take}
use Rattle.command_words.specs.Program.{BuildsArguments}
use Rattle.command_words.proofs.command_line.program.with_arguments.Given as goal

abbrev pub invariant-loop-argument : goal.invariant-loop-argument
invariant-loop-argument l = BuildsArguments l.initial.command (take l.argument-index l.arguments) l.command
