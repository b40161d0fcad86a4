use Rattle.std.proofs.Common.{rules}
use Rattle.folder_answers.proofs.writing.write_one.Goals as goal

pub returns-in-Ok : goal.returns-in-Ok
returns-in-Ok g c = record {
  written = rw c.as_slice.ensures at c.in-Ok.ensures.written;
  others = tt;
  unchanged = tt;
  faults = c.in-Ok.ensures.faults;
  blamed = tt;
  length = search rules;
  steady = λ steady. tt;
  taken = c.in-Ok.ensures.taken;
  calls = c.in-Ok.ensures.calls;
  stays_steady = c.in-Ok.ensures.stays_steady;
}

pub returns-in-Err-Failed : goal.returns-in-Err-Failed
returns-in-Err-Failed g c = record {
  written = tt;
  others = c.in-Err-Failed.ensures.others_stay;
  unchanged = tt;
  faults = rw c.in-Err-Failed.field-0-is at c.in-Err-Failed.ensures.faults;
  blamed = rw c.in-Err-Failed.field-0-is at c.in-Err-Failed.ensures.blamed;
  length = search rules;
  steady = λ steady. (rw c.in-Err-Failed.field-0-is at (c.in-Err-Failed.ensures.steady steady));
  taken = c.in-Err-Failed.ensures.taken;
  calls = c.in-Err-Failed.ensures.calls;
  stays_steady = c.in-Err-Failed.ensures.stays_steady;
}

pub returns-in-Err-NoMemory : goal.returns-in-Err-NoMemory
returns-in-Err-NoMemory g c = record {
  written = tt;
  others = c.in-Err-NoMemory.ensures.others_stay;
  unchanged = rw c.in-Err-NoMemory.field-0-is at c.in-Err-NoMemory.ensures.unchanged;
  faults = rw c.in-Err-NoMemory.field-0-is at c.in-Err-NoMemory.ensures.faults;
  blamed = tt;
  length = search rules;
  steady = λ steady. tt;
  taken = c.in-Err-NoMemory.ensures.taken;
  calls = c.in-Err-NoMemory.ensures.calls;
  stays_steady = c.in-Err-NoMemory.ensures.stays_steady;
}
