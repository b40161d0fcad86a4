-- The rows of a round of a fleet, as a writer has written them.
use Rattle.std.specs.Prelude.{List}
use Rattle.plan_text.specs.CsvText.{HasWritten, TextWriter}
use Rattle.rotation_report.specs.RotationRecords.{Row, round_records}
use Rattle.rotation_report.specs.declared.record_writer.Round.{Round}

-- it has written these rows of a round
abbrev pub HasRows : TextWriter → TextWriter → Round → List Row → Type 0
HasRows old new round rows = HasWritten old new (round_records round.name.now round.number.now rows)
