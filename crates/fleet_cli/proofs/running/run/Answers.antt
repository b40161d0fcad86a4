use Rattle.std.proofs.Common.{ap, arith, map, string_bytes, inl, inr, refl, sym, ◌∙◌}
use Rattle.command_words.specs.Words.{asked}
use Rattle.folder_answers.proofs.CallCounts.{calls_then}
use Rattle.fleet_cli.proofs.CallFacts.{reads_alone}
use Rattle.fleet_cli.proofs.Headlines.{headline}
use Rattle.fleet_cli.proofs.OneAnswer.{complete, exactly}
use Rattle.fleet_cli.proofs.Others.{answer_ends, keeps_others, nothing_written, only_usage, refusal_ends, refusal_leaves, writes_few}
use Rattle.fleet_cli.proofs.RunFacts.{blames_missing, counts_from, fails_there, fault_not_memory, fault_not_usage, first_there, in_full, is_usage, memory_not_usage, puts_usage, some_in_full, stands_there, usage_ends, usage_known, written_there}
use Rattle.fleet_cli.proofs.StopFacts.{none_fails}
use Rattle.fleet_cli.specs.Reading.{folder_of, most_calls, most_reads, written_files}
use Rattle.fleet_cli.proofs.running.run.Goals as goal

pub give-requires : goal.give-requires
give-requires g c = answer_ends _ (asked (map string_bytes c.args.words.now)) c.in-Ok.reply.answer c.in-Ok.ensures.some

-- ---- an answer is given

pub returns-in-Ok : goal.returns-in-Ok
returns-in-Ok g c = record {
  answer = λ no_fault memory.
      in_full _ _ (asked (map string_bytes c.args.words.now)) c.in-Ok.reply.answer _ _ _ c.in-Ok.ensures.told (ap (λ status. status.code) (c.give.ensures.status no_fault memory))
      (written_there (asked (map string_bytes c.args.words.now)) c.in-Ok.reply.answer _ _ _ _ c.in-Ok.ensures.folder c.in-Ok.ensures.holds (c.give.ensures.written no_fault memory)) (c.give.ensures.lengths no_fault memory) (c.give.ensures.put no_fault memory);
  headline = λ no_fault memory.
      headline _ _ (asked (map string_bytes c.args.words.now)) c.in-Ok.reply.answer _ _ _ c.in-Ok.ensures.told (ap (λ status. status.code) (c.give.ensures.status no_fault memory))
      (written_there (asked (map string_bytes c.args.words.now)) c.in-Ok.reply.answer _ _ _ _ c.in-Ok.ensures.folder c.in-Ok.ensures.holds (c.give.ensures.written no_fault memory)) (c.give.ensures.put no_fault memory);
  exactly = λ no_fault memory.
      exactly _ (asked (map string_bytes c.args.words.now)) c.in-Ok.reply.answer _ _ _ c.in-Ok.ensures.told (ap (λ status. status.code) (c.give.ensures.status no_fault memory)) (c.give.ensures.put no_fault memory);
  complete = λ no_fault memory.
      complete _ (asked (map string_bytes c.args.words.now)) _ c.in-Ok.reply.answer _ c.in-Ok.ensures.told c.in-Ok.ensures.some (ap (λ status. status.code) (c.give.ensures.status no_fault memory));
  some_answer = λ no_fault memory.
      some_in_full _ _ _ (asked (map string_bytes c.args.words.now)) c.in-Ok.reply.answer _ _ _ _ _ c.give.ensures.taken c.in-Ok.ensures.some (ap (λ status. status.code) (c.give.ensures.status no_fault memory)) (c.give.ensures.put no_fault memory)
      (c.give.ensures.handed no_fault memory);
  usage = λ none no_fault memory.
      is_usage _ (asked (map string_bytes c.args.words.now)) c.in-Ok.reply.answer _ c.in-Ok.ensures.some (ap (λ status. status.code) (c.give.ensures.status no_fault memory)) none;
  only_usage = λ usage.
      only_usage _ (asked (map string_bytes c.args.words.now)) c.in-Ok.reply.answer _ c.in-Ok.ensures.some (ap (λ status. status.code) (c.give.ensures.status (usage_ends _ usage) (usage_known _ usage))) usage;
  usage_line = λ usage.
      puts_usage _ (asked (map string_bytes c.args.words.now)) c.in-Ok.reply.answer _ _ _ c.in-Ok.ensures.some (ap (λ status. status.code) (c.give.ensures.status (usage_ends _ usage) (usage_known _ usage)))
      (c.give.ensures.put (usage_ends _ usage) (usage_known _ usage)) usage;
  one_fault = λ fault. counts_from _ _ _ _ _ c.in-Ok.ensures.faults (c.give.ensures.one_fault fault);
  quiet_desk = λ no_fault. c.give.ensures.quiet_desk no_fault ∙ c.in-Ok.ensures.faults;
  quiet_sink = c.give.ensures.quiet_sink;
  steady = λ desk sink there. c.give.ensures.steady (c.in-Ok.ensures.stays_steady desk) sink;
  missing = λ fault desk sink. absurd (c.give.ensures.steady (c.in-Ok.ensures.stays_steady desk) sink fault);
  fault_line = λ fault. elim (c.give.ensures.stopped_by_fault fault) [
    | inl stopped ↦ inl (
      rw c.in-Ok.ensures.faults at stopped.0,
      stopped.1,
      inr (record {
        answer = c.in-Ok.reply.answer;
        answers = c.in-Ok.ensures.told;
        part = fails_there (asked (map string_bytes c.args.words.now)) c.in-Ok.reply.answer _ _ _ _ c.in-Ok.ensures.folder c.in-Ok.ensures.holds _ stopped.2;
      }),
    )
    | inr put ↦ inr (
      put.0 ∙ c.in-Ok.ensures.faults,
      record {
        answer = c.in-Ok.reply.answer;
        answers = c.in-Ok.ensures.told;
        written = written_there (asked (map string_bytes c.args.words.now)) c.in-Ok.reply.answer _ _ _ _ c.in-Ok.ensures.folder c.in-Ok.ensures.holds put.1;
        part = put.2;
        handed = put.3;
      },
    )
  ];
  no_memory = λ memory. inr (record {
    answer = c.in-Ok.reply.answer;
    answers = c.in-Ok.ensures.told;
    first = first_there (asked (map string_bytes c.args.words.now)) c.in-Ok.reply.answer _ _ _ _ c.in-Ok.ensures.folder c.in-Ok.ensures.holds (c.give.ensures.stopped_by_memory memory);
  });
  nothing_put = c.give.ensures.nothing_put;
  one_put = c.give.ensures.one_put;
  one_put_at_most = c.give.ensures.one_put_at_most;
  calls =
      let few = writes_few _ (asked (map string_bytes c.args.words.now)) c.in-Ok.reply.answer c.in-Ok.ensures.some in
      calls_then _ _ _ (most_reads (asked (map string_bytes c.args.words.now))) _ (most_calls (asked (map string_bytes c.args.words.now))) (omega arith) c.in-Ok.ensures.calls c.give.ensures.calls;
  refusals = λ refused.
      refusal_leaves _ (asked (map string_bytes c.args.words.now)) c.in-Ok.reply.answer _ _ c.in-Ok.ensures.told (ap (λ status. status.code) (c.give.ensures.status (λ fault. refusal_ends _ refused (inl fault)) (λ memory. refusal_ends _ refused (inr memory)))) refused
      (stands_there (asked (map string_bytes c.args.words.now)) c.in-Ok.reply.answer _ _ _ _ c.in-Ok.ensures.folder c.in-Ok.ensures.holds c.give.ensures.stands);
  files =
      keeps_others _ (asked (map string_bytes c.args.words.now)) c.in-Ok.reply.answer _ c.in-Ok.ensures.told
      (stands_there (asked (map string_bytes c.args.words.now)) c.in-Ok.reply.answer _ _ _ _ c.in-Ok.ensures.folder c.in-Ok.ensures.holds c.give.ensures.stands);
}

-- ---- reading failed

pub returns-in-Err-Fault : goal.returns-in-Err-Fault
returns-in-Err-Fault g c = record {
  answer = λ no_fault. absurd (no_fault c.put_fault.ensures.status);
  headline = λ no_fault. absurd (no_fault c.put_fault.ensures.status);
  exactly = λ no_fault. absurd (no_fault c.put_fault.ensures.status);
  complete = λ no_fault. absurd (no_fault c.put_fault.ensures.status);
  some_answer = λ no_fault. absurd (no_fault c.put_fault.ensures.status);
  usage = λ none no_fault. absurd (no_fault c.put_fault.ensures.status);
  only_usage = λ usage. absurd (fault_not_usage (sym c.put_fault.ensures.status ∙ usage));
  usage_line = λ usage. absurd (fault_not_usage (sym c.put_fault.ensures.status ∙ usage));
  one_fault = λ fault. inl (rw c.in-Err-Fault.field-0-is at c.in-Err-Fault.ensures.faults, c.put_fault.ensures.one_fault);
  quiet_desk = λ no_fault. absurd (no_fault c.put_fault.ensures.status);
  quiet_sink = λ no_fault. absurd (no_fault c.put_fault.ensures.status);
  steady = λ desk sink there fault. none_fails _ (asked (map string_bytes c.args.words.now)) _ _ (rw c.in-Err-Fault.field-0-is at c.in-Err-Fault.ensures.blamed) desk there;
  missing = λ fault desk sink. blames_missing _ (asked (map string_bytes c.args.words.now)) _ _ (rw c.in-Err-Fault.field-0-is at c.in-Err-Fault.ensures.blamed) desk;
  fault_line = λ fault. inl (rw c.in-Err-Fault.field-0-is at c.in-Err-Fault.ensures.faults, c.put_fault.ensures.put, inl (c.in-Err-Fault.ensures.holds, rw c.in-Err-Fault.field-0-is at c.in-Err-Fault.ensures.blamed));
  no_memory = λ memory. absurd (fault_not_memory (sym c.put_fault.ensures.status ∙ memory));
  nothing_put = λ memory. absurd (fault_not_memory (sym c.put_fault.ensures.status ∙ memory));
  one_put = λ known. c.put_fault.ensures.one_put;
  one_put_at_most = inr c.put_fault.ensures.one_put;
  calls = reads_alone _ _ _ c.in-Err-Fault.ensures.calls;
  refusals = λ refused. c.in-Err-Fault.ensures.holds;
  files = nothing_written (folder_of (asked (map string_bytes c.args.words.now))) (written_files (asked (map string_bytes c.args.words.now))) _ _ c.in-Err-Fault.ensures.holds;
}

-- ---- want of memory

pub returns-in-Err-NoMemory : goal.returns-in-Err-NoMemory
returns-in-Err-NoMemory g c = record {
  answer = λ no_fault memory. absurd (memory refl);
  headline = λ no_fault memory. absurd (memory refl);
  exactly = λ no_fault memory. absurd (memory refl);
  complete = λ no_fault memory. absurd (memory refl);
  some_answer = λ no_fault memory. absurd (memory refl);
  usage = λ none no_fault memory. absurd (memory refl);
  only_usage = λ usage. absurd (memory_not_usage usage);
  usage_line = λ usage. absurd (memory_not_usage usage);
  one_fault = λ fault. absurd (fault_not_memory (sym fault));
  quiet_desk = λ no_fault. rw c.in-Err-NoMemory.field-0-is at c.in-Err-NoMemory.ensures.faults;
  quiet_sink = λ no_fault. refl;
  steady = λ desk sink there fault. fault_not_memory (sym fault);
  missing = λ fault. absurd (fault_not_memory (sym fault));
  fault_line = λ fault. absurd (fault_not_memory (sym fault));
  no_memory = λ memory. inl c.in-Err-NoMemory.ensures.holds;
  nothing_put = λ memory. refl;
  one_put = λ known. absurd (known refl);
  one_put_at_most = inl refl;
  calls = reads_alone _ _ _ c.in-Err-NoMemory.ensures.calls;
  refusals = λ refused. c.in-Err-NoMemory.ensures.holds;
  files = nothing_written (folder_of (asked (map string_bytes c.args.words.now))) (written_files (asked (map string_bytes c.args.words.now))) _ _ c.in-Err-NoMemory.ensures.holds;
}
