use Rattle.command_words.proofs.Match.{exact}
use Rattle.command_words.proofs.laws.match_is_exact.Goals as goal

pub returns : goal.returns
returns c = exact
