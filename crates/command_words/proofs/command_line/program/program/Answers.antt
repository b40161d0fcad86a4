use Rattle.std.proofs.Common.{refl}
use Rattle.command_words.specs.Program.{our_app}
use Rattle.command_words.proofs.Parts.{all_commands}
use Rattle.command_words.proofs.command_line.program.program.Goals as goal

pub returns : goal.returns
unfolding our_app
returns c = all_commands c.bare_program.result c.with_commands.result _ c.bare_program.ensures refl c.with_commands.ensures
