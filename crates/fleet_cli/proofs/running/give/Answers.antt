use Rattle.std.proofs.Common.{inl, inr, refl, sym, ◌∙◌}
use Rattle.fleet_cli.proofs.RunFacts.{fault_not_memory}
use Rattle.folder_answers.proofs.WrittenFacts.{all_first}
use Rattle.fleet_cli.proofs.running.give.Goals as goal

-- ---- all files were written

pub returns-in-Ok : goal.returns-in-Ok
returns-in-Ok g c = record {
  status = c.put_answer.ensures.status;
  written = λ no_fault memory. rw c.as_slice.ensures at c.in-Ok.ensures.written;
  lengths = λ no_fault memory. rw c.as_slice.ensures at c.in-Ok.ensures.lengths;
  stands = inl (rw c.as_slice.ensures at c.in-Ok.ensures.written);
  put = λ no_fault memory. rw c.as_slice-in-Ok.ensures at (c.put_answer.ensures.put no_fault memory);
  handed = λ no_fault memory. rw c.as_slice-in-Ok.ensures at c.put_answer.ensures.handed;
  stopped_by_fault = λ fault. inr (c.in-Ok.ensures.faults, rw c.as_slice.ensures at c.in-Ok.ensures.written, rw c.as_slice-in-Ok.ensures at c.put_answer.ensures.part, rw c.as_slice-in-Ok.ensures at c.put_answer.ensures.handed);
  stopped_by_memory = λ memory. all_first _ _ _ _ (rw c.as_slice.ensures at c.in-Ok.ensures.written);
  nothing_put = c.put_answer.ensures.nothing_put;
  one_fault = λ fault. inr (c.in-Ok.ensures.faults, c.put_answer.ensures.one_fault fault);
  quiet_desk = λ no_fault. c.in-Ok.ensures.faults;
  quiet_sink = c.put_answer.ensures.quiet;
  taken = c.in-Ok.ensures.taken;
  calls = rw c.as_slice.ensures at c.in-Ok.ensures.calls;
  steady = λ desk sink. c.put_answer.ensures.steady sink;
  one_put = λ known. c.put_answer.ensures.one_put;
  one_put_at_most = inr c.put_answer.ensures.one_put;
}

-- ---- the desk failed

pub returns-in-Err-Fault : goal.returns-in-Err-Fault
returns-in-Err-Fault g c = record {
  status = λ no_fault. absurd (no_fault c.put_fault.ensures.status);
  written = λ no_fault. absurd (no_fault c.put_fault.ensures.status);
  lengths = λ no_fault. absurd (no_fault c.put_fault.ensures.status);
  stands = inr (rw c.as_slice.ensures at c.in-Err-Fault.ensures.part);
  put = λ no_fault. absurd (no_fault c.put_fault.ensures.status);
  handed = λ no_fault. absurd (no_fault c.put_fault.ensures.status);
  stopped_by_fault = λ fault. inl (rw c.in-Err-Fault.field-0-is at c.in-Err-Fault.ensures.faults, c.put_fault.ensures.put, rw (c.in-Err-Fault.field-0-is, c.as_slice.ensures) at c.in-Err-Fault.ensures.stopped);
  stopped_by_memory = λ memory. absurd (fault_not_memory (sym c.put_fault.ensures.status ∙ memory));
  nothing_put = λ memory. absurd (fault_not_memory (sym c.put_fault.ensures.status ∙ memory));
  one_fault = λ fault. inl (rw c.in-Err-Fault.field-0-is at c.in-Err-Fault.ensures.faults, c.put_fault.ensures.one_fault);
  quiet_desk = λ no_fault. absurd (no_fault c.put_fault.ensures.status);
  quiet_sink = λ no_fault. absurd (no_fault c.put_fault.ensures.status);
  taken = c.in-Err-Fault.ensures.taken;
  calls = rw c.as_slice.ensures at c.in-Err-Fault.ensures.calls;
  steady = λ desk sink fault. (rw c.in-Err-Fault.field-0-is at c.in-Err-Fault.ensures.steady desk);
  one_put = λ known. c.put_fault.ensures.one_put;
  one_put_at_most = inr c.put_fault.ensures.one_put;
}

-- ---- want of memory

pub returns-in-Err-NoMemory : goal.returns-in-Err-NoMemory
returns-in-Err-NoMemory g c = record {
  status = λ no_fault memory. absurd (memory refl);
  written = λ no_fault memory. absurd (memory refl);
  lengths = λ no_fault memory. absurd (memory refl);
  stands = inr (rw c.as_slice.ensures at c.in-Err-NoMemory.ensures.part);
  put = λ no_fault memory. absurd (memory refl);
  handed = λ no_fault memory. absurd (memory refl);
  stopped_by_fault = λ fault. absurd (fault_not_memory (sym fault));
  stopped_by_memory = λ memory. rw (c.in-Err-NoMemory.field-0-is, c.as_slice.ensures) at c.in-Err-NoMemory.ensures.first;
  nothing_put = λ memory. refl;
  one_fault = λ fault. absurd (fault_not_memory (sym fault));
  quiet_desk = λ no_fault. (rw c.in-Err-NoMemory.field-0-is at c.in-Err-NoMemory.ensures.faults);
  quiet_sink = λ no_fault. refl;
  taken = c.in-Err-NoMemory.ensures.taken;
  calls = rw c.as_slice.ensures at c.in-Err-NoMemory.ensures.calls;
  steady = λ desk sink fault. fault_not_memory (sym fault);
  one_put = λ known. absurd (known refl);
  one_put_at_most = inl refl;
}
