use Rattle.std.proofs.Common.{map, string_bytes}
use Rattle.clap.specs.Words.{app_of}
use Rattle.command_words.proofs.Match.{is_met, is_unmet}
use Rattle.command_words.proofs.command_line.matching.matched.Goals as goal

pub returns-in-Ok : goal.returns-in-Ok
returns-in-Ok c =
    is_met (app_of c.in_ok-program.field-0) (map string_bytes c.args.words.now) c.in-Ok.matches c.in_ok-program.ensures c.in-Ok.ensures.kinds c.in-Ok.ensures.matches

pub returns-in-Err : goal.returns-in-Err
returns-in-Err c =
    is_unmet (app_of c.in_ok-program.field-0) (map string_bytes c.args.words.now) c.in-Err.error c.kind.result c.no_match.result
    c.in_ok-program.ensures c.in-Err.ensures.kinds c.kind.ensures c.no_match.ensures.memory c.no_match.ensures.none
