use Rattle.table_maker.proofs.TextLengths as proofs
use Rattle.table_maker.proofs.laws.made_short.Goals as goal

pub returns : goal.returns
returns c = proofs.made_short
