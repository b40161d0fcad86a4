use Rattle.plan_text.proofs.CsvWriting.{written_none}
use Rattle.rotation_report.proofs.records.put_second.Goals as goal

pub returns-in-None : goal.returns-in-None
returns-in-None c = rw c.in-None.is (written_none c.args.writer.now c.requires.between)
