use Rattle.std.proofs.Common.{refl}
use Rattle.plan_desk.specs.DeskFile.{path_of}
use Rattle.folder_answers.proofs.ReadStops.{none_missing, told_true}
use Rattle.folder_answers.proofs.gathering.read_file.Goals as goal

pub returns-in-Ok : goal.returns-in-Ok
returns-in-Ok g c = record {
  told = rw c.from_vec.ensures c.in-Ok.ensures.bytes;
  within = rw c.from_vec.ensures (rw c.limit_of.ensures.limit at c.in-Ok.ensures.within);
  too_long_taken = tt;
  not_proof = tt;
  faults = c.in-Ok.ensures.faults;
  blamed = tt;
  missing = tt;
  taken = c.in-Ok.ensures.taken_never_falls;
  holds = c.in-Ok.ensures.holds;
  calls = c.in-Ok.ensures.calls;
  stays_steady = c.in-Ok.ensures.stays_steady;
}

pub returns-in-Err-Failed : goal.returns-in-Err-Failed
returns-in-Err-Failed g c = record {
  told = told_true (g.D.Desk.holds c.args.desk.now);
  within = tt;
  too_long_taken = tt;
  not_proof = tt;
  faults = rw c.in-Err-Failed.field-0-is at c.in-Err-Failed.ensures.faults;
  blamed = rw c.in-Err-Failed.field-0-is at c.in-Err-Failed.ensures.blamed;
  missing = λ steady. none_missing (g.D.Desk.holds c.args.desk.now) (path_of c.args.dir.now c.args.file) (λ there. (rw c.in-Err-Failed.field-0-is at (c.in-Err-Failed.ensures.steady steady there)));
  taken = c.in-Err-Failed.ensures.taken_never_falls;
  holds = c.in-Err-Failed.ensures.holds;
  calls = c.in-Err-Failed.ensures.calls;
  stays_steady = c.in-Err-Failed.ensures.stays_steady;
}

pub returns-in-Err-TooLong : goal.returns-in-Err-TooLong
returns-in-Err-TooLong g c = record {
  told = rw (c.in-Err-TooLong.field-0-is, c.limit_of.ensures.limit) at c.in-Err-TooLong.ensures.too_long;
  within = refl;
  too_long_taken = rw (c.in-Err-TooLong.field-0-is, c.limit_of.ensures.table (rw c.in-Err-TooLong.field-0-is at c.in-Err-TooLong.ensures.too_long_limit)) at c.in-Err-TooLong.ensures.too_long_taken;
  not_proof = c.limit_of.ensures.not_proof (rw c.in-Err-TooLong.field-0-is at c.in-Err-TooLong.ensures.too_long_limit);
  faults = rw c.in-Err-TooLong.field-0-is at c.in-Err-TooLong.ensures.faults;
  blamed = tt;
  missing = tt;
  taken = c.in-Err-TooLong.ensures.taken_never_falls;
  holds = c.in-Err-TooLong.ensures.holds;
  calls = c.in-Err-TooLong.ensures.calls;
  stays_steady = c.in-Err-TooLong.ensures.stays_steady;
}

pub returns-in-Err-NoMemory : goal.returns-in-Err-NoMemory
returns-in-Err-NoMemory g c = record {
  told = told_true (g.D.Desk.holds c.args.desk.now);
  within = tt;
  too_long_taken = tt;
  not_proof = tt;
  faults = rw c.in-Err-NoMemory.field-0-is at c.in-Err-NoMemory.ensures.faults;
  blamed = tt;
  missing = tt;
  taken = c.in-Err-NoMemory.ensures.taken_never_falls;
  holds = c.in-Err-NoMemory.ensures.holds;
  calls = c.in-Err-NoMemory.ensures.calls;
  stays_steady = c.in-Err-NoMemory.ensures.stays_steady;
}
