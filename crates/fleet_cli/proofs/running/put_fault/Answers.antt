use Rattle.std.proofs.Common.{sym, ◌∙◌}
use Rattle.fleet_cli.proofs.Parts.{one_more_at_most, some_part}
use Rattle.fleet_cli.proofs.running.put_fault.Goals as goal

pub returns-in-Some-clause-put : goal.returns-in-Some-clause-put
returns-in-Some-clause-put g c = record {
  file = c.in-Some.file;
  blame = sym c.blamed.ensures ∙ c.in-Some.is;
  part = rw c.fault_line.ensures at (some_part c.put.result c.fault_line.result.now (g.S.Sink.output c.args.out.now) (g.S.Sink.output c.put.new.self) c.put.ensures.put c.put.ensures.prefix);
  handed = rw c.fault_line.ensures at c.put.ensures.handed;
}

pub returns-in-Some-clause-one_fault : goal.returns-in-Some-clause-one_fault
returns-in-Some-clause-one_fault g c = one_more_at_most c.put.result _ _ c.put.ensures.faults
