use Rattle.std.proofs.Common.{fold, take}
use Rattle.clap.specs.Words.{new_app}
use Rattle.command_words.specs.Program.{Builds, with_group}
use Rattle.command_words.proofs.command_line.program.command_of.Given as goal

abbrev pub invariant-loop-group : goal.invariant-loop-group
invariant-loop-group l = Builds (fold (λ app group. with_group app group.now) (new_app l.fn.row.name.now) (take l.group-index l.fn.row.groups.now)) l.command
