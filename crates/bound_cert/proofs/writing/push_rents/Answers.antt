use Rattle.std.proofs.Common.{rules}
use Rattle.bound_cert.specs.ProofText.{rent_lines_at}
use Rattle.bound_cert.proofs.Lines.{lines_more}
use Rattle.bound_cert.proofs.writing.push_rents.Goals as goal

pub loop-fleet-preserved : goal.loop-fleet-preserved
loop-fleet-preserved c =
    lines_more c.args.tables.now (rent_lines_at c.args.prices.now) c.loop-fleet.fleet c.args.text.now.items c.loop-fleet.text.items _ c.loop-fleet.invariant
    (search rules)
