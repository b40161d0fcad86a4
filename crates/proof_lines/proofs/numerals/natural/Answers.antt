use Rattle.std.proofs.Common.{sym, ◌∙◌, arith}
use Rattle.proof_lines.proofs.FigureWords.{none_written, not_parsed, not_text, one_written, otherwise}
use Rattle.proof_lines.proofs.ShortestDigits.{not_shortest, parsed_shortest}
use Rattle.proof_lines.proofs.numerals.natural.Goals as goal

pub returns-in_default-clause-reads : goal.returns-in_default-clause-reads
returns-in_default-clause-reads c =
    sym (none_written c.args.most c.args.word.now (not_text c.args.most c.args.word.now c.requires c.in_default.ensures.cases.0))

pub returns-in_default-parse-clause-reads : goal.returns-in_default-parse-clause-reads
returns-in_default-parse-clause-reads c =
    sym (none_written c.args.most c.args.word.now
    (not_parsed c.args.most c.args.word.now c.in-Ok.text.now c.parse.result _ c.requires c.in-Ok.ensures.cases.0 c.parse.ensures.value.0
    c.in_default-parse.is))

pub returns-then-n-most-clause-reads : goal.returns-then-n-most-clause-reads
returns-then-n-most-clause-reads c =
    sym (none_written c.args.most c.args.word.now
    (otherwise c.args.most c.in-Ok-parse.n c.args.word.now c.in-Ok.text.now c.parse.result c.requires c.in-Ok.ensures.cases.0 c.parse.ensures.value.0
    c.in-Ok-parse.is (λ le e. omega (arith, le, c.if-n-most.true))))

pub returns-then-is_shortest-clause-reads : goal.returns-then-is_shortest-clause-reads
returns-then-is_shortest-clause-reads c =
    sym (one_written c.args.most c.in-Ok-parse.n c.args.word.now c.requires (omega (arith, c.if-n-most.false))
    (parsed_shortest c.args.most c.in-Ok-parse.n c.args.word.now c.in-Ok.text.now c.parse.result c.requires c.in-Ok.ensures.cases.0 c.parse.ensures.value.0
    c.in-Ok-parse.is (omega (arith, c.if-n-most.false)) (sym c.is_shortest.ensures ∙ c.if-is_shortest.true)))

pub returns-else-is_shortest-clause-reads : goal.returns-else-is_shortest-clause-reads
returns-else-is_shortest-clause-reads c =
    sym (none_written c.args.most c.args.word.now
    (otherwise c.args.most c.in-Ok-parse.n c.args.word.now c.in-Ok.text.now c.parse.result c.requires c.in-Ok.ensures.cases.0 c.parse.ensures.value.0
    c.in-Ok-parse.is (not_shortest c.args.most c.in-Ok-parse.n c.args.word.now c.requires (sym c.is_shortest.ensures ∙ c.if-is_shortest.false))))
