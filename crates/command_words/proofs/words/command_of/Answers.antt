use Rattle.std.proofs.Common.{◌∙◌, ap, sym}
use Rattle.std.specs.Prelude.{option_and_then}
use Rattle.clap.specs.Words.{subcommand_rows_of}
use Rattle.command_words.specs.Words.{asked, command_in}
use Rattle.command_words.proofs.words.command_of.Goals as goal

pub returns-in-Some-clause-asked : goal.returns-in-Some-clause-asked
unfolding asked
returns-in-Some-clause-asked c =
    c.command_met.ensures.asked ∙ ap (option_and_then command_in) (ap (option_and_then subcommand_rows_of) (sym c.in-Some.is) ∙ c.in_ok-matches.ensures)

pub returns-in-None-clause-asked : goal.returns-in-None-clause-asked
unfolding asked
returns-in-None-clause-asked c =
    ap (option_and_then command_in) (ap (option_and_then subcommand_rows_of) (sym c.in-None.is) ∙ c.in_ok-matches.ensures)
