use Rattle.std.proofs.Common.{◌≡◌}
use Rattle.sched_read.specs.Throughs.{through_header}
use Rattle.table_maker.specs.Records.{through_fields, table_text}
use Rattle.table_maker.proofs.texts.throughs_text.Given as goal

abbrev pub invariant-loop-trip : goal.invariant-loop-trip
invariant-loop-trip l = l.text.items ≡ table_text through_header (through_fields l.trips) l.trip
