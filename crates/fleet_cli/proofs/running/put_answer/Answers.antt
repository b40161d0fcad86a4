use Rattle.std.proofs.Common.{refl, sym}
use Rattle.fleet_cli.proofs.Parts.{full_part}
use Rattle.fleet_cli.proofs.RunFacts.{fault_not_memory}
use Rattle.fleet_cli.proofs.running.put_answer.Goals as goal

pub returns-in-Ok : goal.returns-in-Ok
returns-in-Ok g c = record {
  status = λ no_fault memory. refl;
  put = λ no_fault memory. c.in-Ok.ensures.put;
  part = full_part _ _ _ c.in-Ok.ensures.put;
  handed = c.in-Ok.ensures.handed;
  nothing_put = λ memory. absurd (c.requires.1 memory);
  one_fault = λ fault. absurd (c.requires.0 fault);
  quiet = λ no_fault. c.in-Ok.ensures.faults;
  steady = λ steady fault. c.requires.0 fault;
  one_put = c.in-Ok.ensures.puts;
}

pub returns-in-Err-Failed : goal.returns-in-Err-Failed
returns-in-Err-Failed g c = record {
  status = λ no_fault. absurd (no_fault refl);
  put = λ no_fault. absurd (no_fault refl);
  part = c.in-Err-Failed.ensures.prefix;
  handed = c.in-Err-Failed.ensures.handed;
  nothing_put = λ memory. absurd (fault_not_memory memory);
  one_fault = λ fault. (rw c.in-Err-Failed.field-0-is at c.in-Err-Failed.ensures.faults);
  quiet = λ no_fault. absurd (no_fault refl);
  steady = λ steady fault. (rw c.in-Err-Failed.field-0-is at c.in-Err-Failed.ensures.steady steady);
  one_put = c.in-Err-Failed.ensures.puts;
}

pub returns-in-Err-NoMemory : goal.returns-in-Err-NoMemory
returns-in-Err-NoMemory g c = record {
  status = λ no_fault memory. absurd (memory refl);
  put = λ no_fault memory. absurd (memory refl);
  part = c.in-Err-NoMemory.ensures.prefix;
  handed = c.in-Err-NoMemory.ensures.handed;
  nothing_put = λ memory. (rw c.in-Err-NoMemory.field-0-is at c.in-Err-NoMemory.ensures.unchanged);
  one_fault = λ fault. absurd (fault_not_memory (sym fault));
  quiet = λ no_fault. (rw c.in-Err-NoMemory.field-0-is at c.in-Err-NoMemory.ensures.faults);
  steady = λ steady fault. fault_not_memory (sym fault);
  one_put = c.in-Err-NoMemory.ensures.puts;
}
