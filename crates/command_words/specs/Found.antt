-- What clap's definition of a match finds for words.
use Rattle.std.specs.Prelude.{List, [], ◌∷◌, Option, None}
use Rattle.clap.specs.Kinds.{Kinds}
use Rattle.clap.specs.Words.{Row, Text, fault_of, subcommand_of}
use Rattle.command_words.specs.Program.{our_app}

-- nothing where there is a fault
abbrev pub without_fault : Kinds → Option (Text × List Row) → Option (Text × List Row)
without_fault [] command = command
without_fault (fault ∷ more) command = None

-- the name of the command that words call, the first of them the program's name, and what they give its arguments:
-- nothing where clap finds a fault, as it does where they ask for help
unfoldable pub found : List Text → Option (Text × List Row)
found words = without_fault (fault_of our_app words) (subcommand_of our_app words)
