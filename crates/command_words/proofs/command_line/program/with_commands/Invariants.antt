use Rattle.std.proofs.Common.{take}
use Rattle.command_words.specs.Program.{BuildsCommands}
use Rattle.command_words.proofs.command_line.program.with_commands.Given as goal

abbrev pub invariant-loop-row : goal.invariant-loop-row
invariant-loop-row l = BuildsCommands l.initial.program (take l.row-index l.commands) l.program
