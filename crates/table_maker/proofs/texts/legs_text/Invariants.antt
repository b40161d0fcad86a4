use Rattle.std.proofs.Common.{◌≡◌}
use Rattle.sched_read.specs.Legs.{leg_header}
use Rattle.table_maker.specs.Records.{made_leg_fields, table_text}
use Rattle.table_maker.proofs.texts.legs_text.Given as goal

abbrev pub invariant-loop-leg : goal.invariant-loop-leg
invariant-loop-leg l = l.text.items ≡ table_text leg_header (made_leg_fields l.trips) l.leg
