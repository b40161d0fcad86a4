use Rattle.table_rows.specs.Rows.{rows_in}
use Rattle.plan_text.proofs.SoFar.{ReadSoFar}
use Rattle.plan_text.proofs.reading.choices_of.Given as goal

abbrev pub invariant-loop-place : goal.invariant-loop-place
invariant-loop-place l = ReadSoFar l.tables (rows_in l.rows) l.place l.plan
