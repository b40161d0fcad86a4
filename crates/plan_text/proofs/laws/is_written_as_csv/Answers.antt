use Rattle.plan_text.proofs.Lines as laws
use Rattle.plan_text.proofs.laws.is_written_as_csv.Goals as goal

pub returns : goal.returns
returns c = laws.is_written_as_csv
