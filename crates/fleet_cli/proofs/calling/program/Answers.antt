use Rattle.std.proofs.Common.{ap, map, refl, string_bytes, sym, true≢false, ◌∙◌}
use Rattle.std.specs.Process.{exit_status}
use Rattle.command_words.specs.Words.{asked}
use Rattle.fleet_cli.specs.Program.{given_words}
use Rattle.fleet_cli.specs.Ran.{Ran, telling}
use Rattle.fleet_cli.proofs.GivenWords.{did_nothing, of_any, ran_on}
use Rattle.fleet_cli.proofs.RunFacts.{fault_not_memory}
use Rattle.fleet_cli.proofs.calling.program.Goals as goal

pub returns-in-Ok : goal.returns-in-Ok
returns-in-Ok g c = record {
  ran =
      ran_on (g.D.Desk.is_steady c.args.desk.now) (g.S.Sink.is_steady c.args.out.now) (given_words c.args.given) (map string_bytes c.in-Ok.words.items) (map string_bytes c.as_slice.result.now) c.run.result.code _
      (telling (g.D.Desk.holds c.args.desk.now) (g.D.Desk.blamed c.args.desk.now) (g.D.Desk.faults c.args.desk.now) (g.D.Desk.taken c.args.desk.now) (g.D.Desk.calls c.args.desk.now) (g.S.Sink.output c.args.out.now) (g.S.Sink.puts c.args.out.now) (g.S.Sink.handed c.args.out.now) (g.S.Sink.faults c.args.out.now))
      (telling (g.D.Desk.holds c.run.new.desk) (g.D.Desk.blamed c.run.new.desk) (g.D.Desk.faults c.run.new.desk) (g.D.Desk.taken c.run.new.desk) (g.D.Desk.calls c.run.new.desk) (g.S.Sink.output c.run.new.out) (g.S.Sink.puts c.run.new.out) (g.S.Sink.handed c.run.new.out) (g.S.Sink.faults c.run.new.out))
      c.in-Ok.ensures.words (ap (map string_bytes) c.as_slice.ensures.value) c.from.ensures
      (record {
        answer = c.run.ensures.answer;
        headline = c.run.ensures.headline;
        exactly = c.run.ensures.exactly;
        complete = c.run.ensures.complete;
        some_answer = c.run.ensures.some_answer;
        usage = c.run.ensures.usage;
        only_usage = c.run.ensures.only_usage;
        usage_line = c.run.ensures.usage_line;
        one_fault = c.run.ensures.one_fault;
        quiet_desk = c.run.ensures.quiet_desk;
        quiet_sink = c.run.ensures.quiet_sink;
        steady = c.run.ensures.steady;
        missing = c.run.ensures.missing;
        fault_line = c.run.ensures.fault_line;
        no_memory = c.run.ensures.no_memory;
        nothing_put = c.run.ensures.nothing_put;
        one_put = c.run.ensures.one_put;
        one_put_at_most = c.run.ensures.one_put_at_most;
        refusals = c.run.ensures.refusals;
        calls = c.run.ensures.calls;
        files = c.run.ensures.files;
      });
  one_fault = λ fault. c.run.ensures.one_fault (sym c.from.ensures ∙ fault);
  quiet_desk = λ no_fault. c.run.ensures.quiet_desk (λ fault. no_fault (c.from.ensures ∙ fault));
  quiet_sink = λ no_fault. c.run.ensures.quiet_sink (λ fault. no_fault (c.from.ensures ∙ fault));
  no_words = λ none. absurd (true≢false (sym (c.in-Ok.ensures.none none)));
  no_output = λ none. absurd (true≢false (sym (c.in-Ok.ensures.none none)));
  no_files = λ none. absurd (true≢false (sym (c.in-Ok.ensures.none none)));
  no_put = λ none. absurd (true≢false (sym (c.in-Ok.ensures.none none)));
}

pub returns-in-Err : goal.returns-in-Err
returns-in-Err g c = record {
  ran =
      let told = (telling (g.D.Desk.holds c.args.desk.now) (g.D.Desk.blamed c.args.desk.now) (g.D.Desk.faults c.args.desk.now) (g.D.Desk.taken c.args.desk.now) (g.D.Desk.calls c.args.desk.now) (g.S.Sink.output c.args.out.now) (g.S.Sink.puts c.args.out.now) (g.S.Sink.handed c.args.out.now) (g.S.Sink.faults c.args.out.now)) in
      of_any (λ words. Ran (g.D.Desk.is_steady c.args.desk.now) (g.S.Sink.is_steady c.args.out.now) (asked words) (exit_status c.from-in-Err.result) told told) (given_words c.args.given)
      (λ words. did_nothing (g.D.Desk.is_steady c.args.desk.now) (g.S.Sink.is_steady c.args.out.now) (asked words) (exit_status c.from-in-Err.result) told c.from-in-Err.ensures);
  one_fault = λ fault. absurd (fault_not_memory (sym fault ∙ c.from-in-Err.ensures));
  quiet_desk = λ no_fault. refl;
  quiet_sink = λ no_fault. refl;
  no_words = λ none. c.from-in-Err.ensures;
  no_output = λ none. refl;
  no_files = λ none. refl;
  no_put = λ none. refl;
}
