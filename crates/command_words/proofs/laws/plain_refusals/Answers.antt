use Rattle.command_words.proofs.Flags.{flags_plainly}
use Rattle.command_words.proofs.OtherWords.{name_alone, no_words, other_words}
use Rattle.command_words.proofs.OwnOptions.{own_options}
use Rattle.command_words.proofs.Twice.{options_once}
use Rattle.command_words.proofs.laws.plain_refusals.Goals as goal

pub returns : goal.returns
returns c = record {
  no_words = no_words;
  name_alone = name_alone;
  other_words = other_words;
  own_options = own_options;
  options_once = options_once;
  flags_plainly = flags_plainly;
}
