use Rattle.std.proofs.Common.{rules}
use Rattle.sched_read.specs.Throughs.{through_header}
use Rattle.table_maker.specs.Records.{through_fields}
use Rattle.table_maker.proofs.Lines.{text_begun, text_grown}
use Rattle.table_maker.proofs.texts.throughs_text.Goals as goal

pub loop-trip-init : goal.loop-trip-init
loop-trip-init c = text_begun through_header (through_fields c.args.trips.now) _ (search rules)

pub loop-trip-preserved : goal.loop-trip-preserved
loop-trip-preserved c = text_grown through_header (through_fields c.args.trips.now) c.loop-trip.trip _ _ c.loop-trip.invariant c.in_ok-push_through.ensures
