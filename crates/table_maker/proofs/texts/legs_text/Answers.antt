use Rattle.std.proofs.Common.{rules}
use Rattle.sched_read.specs.Legs.{leg_header}
use Rattle.table_maker.specs.Records.{made_leg_fields}
use Rattle.table_maker.proofs.Lines.{text_begun, text_grown}
use Rattle.table_maker.proofs.texts.legs_text.Goals as goal

pub loop-leg-init : goal.loop-leg-init
loop-leg-init c = text_begun leg_header (made_leg_fields c.args.trips.now) _ (search rules)

pub loop-leg-preserved : goal.loop-leg-preserved
loop-leg-preserved c = text_grown leg_header (made_leg_fields c.args.trips.now) c.loop-leg.leg _ _ c.loop-leg.invariant c.in_ok-push_leg.ensures
