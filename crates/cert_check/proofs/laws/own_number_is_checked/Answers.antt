use Rattle.cert_check.proofs.OwnNumbers as laws
use Rattle.cert_check.proofs.laws.own_number_is_checked.Goals as goal

pub returns : goal.returns
returns c = laws.own_number_is_checked
