use Rattle.std.proofs.Common.{rules}
use Rattle.bound_cert.proofs.ReadOn.{padded_more}
use Rattle.bound_cert.proofs.price_reading.pad.Goals as goal

pub loop-fleet-preserved : goal.loop-fleet-preserved
loop-fleet-preserved c = padded_more c.args.rents.now.items c.loop-fleet.rents.items _ c.loop-fleet._fleet c.loop-fleet.invariant (search rules)
