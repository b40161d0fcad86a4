use Rattle.std.proofs.Common.{◌++◌, ◌∙◌, ap, map, subst, sym, take_all}
use Rattle.bound_cert.specs.ProofText.{text_of_lines}
use Rattle.proof_lines.specs.LineText.{IsNamed, text_of}
use Rattle.bound_cert.proofs.Lines.{entry_more}
use Rattle.bound_cert.proofs.writing.push_entries.Goals as goal

pub push_line-requires : goal.push_line-requires
push_line-requires g c = subst (IsNamed c.args.tables.now) (sym c.line.ensures) (subst (λ entry. IsNamed c.args.tables.now (g.T.Written.written entry)) (sym c.entry-item.is) (c.requires c.loop-entry.entry-index _ c.loop-entry-test.true))

pub loop-entry-preserved : goal.loop-entry-preserved
loop-entry-preserved g c =
    entry_more c.args.tables.now g.T.Written.written c.args.entries.now c.loop-entry.entry-index c.entry-item.result c.args.text.now.items c.loop-entry.text.items _ c.loop-entry-test.true c.entry-item.is c.loop-entry.invariant
    (c.in_ok-push_line.ensures ∙ ap (λ line. c.loop-entry.text.items ++ text_of c.args.tables.now line) c.line.ensures)

pub returns : goal.returns
returns g c =
    c.loop-entry.invariant
    ∙ ap (λ entries. c.args.text.now.items ++ text_of_lines c.args.tables.now (map g.T.Written.written entries)) (take_all c.loop-entry.entry-index c.args.entries.now c.loop-entry-test.false)
