use Rattle.table_maker.proofs.MadeRead as proofs
use Rattle.table_maker.proofs.laws.made_read.Goals as goal

pub returns : goal.returns
returns c = proofs.made_read
