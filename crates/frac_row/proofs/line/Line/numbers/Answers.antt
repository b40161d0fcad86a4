use Rattle.std.proofs.Common.{pos, length, get_or, sym, ◌∙◌, ap, arith}
use Rattle.frac_row.specs.Content.{number_in}
use Rattle.frac_row.specs.Lines.{numbers_of, numbered}
use Rattle.frac_row.proofs.LineNumbers.{numbered_rise, numbered_is}
use Rattle.frac_row.proofs.Contents.{rising_entries}
use Rattle.frac_row.proofs.line.Line.numbers.Goals as goal

pub returns-in-Full-clause-rising : goal.returns-in-Full-clause-rising
returns-in-Full-clause-rising c =
    let value = sym c.self.view_is ∙ ap numbers_of c.in-Full.is in
    rw (c.of_slice.ensures, c.as_slice.ensures.value, value) (numbered_rise 0 (length c.in-Full.numbers.items) c.in-Full.numbers.items (omega arith))

pub returns-in-Full-clause-numbers : goal.returns-in-Full-clause-numbers
returns-in-Full-clause-numbers c column =
    let value = sym c.self.view_is ∙ ap numbers_of c.in-Full.is in
    ap (λ es. number_in es column) (c.of_slice.ensures ∙ ap (numbered 0) c.as_slice.ensures.value)
    ∙ numbered_is 0 column column c.in-Full.numbers.items (omega arith) ∙ ap (λ xs. get_or xs column (pos 0)) (sym value)

pub returns-in-Sparse-clause-rising : goal.returns-in-Sparse-clause-rising
returns-in-Sparse-clause-rising c =
    let value = sym c.self.view_is ∙ ap numbers_of c.in-Sparse.is in
    rw (c.of_entries.ensures, value) (rising_entries 0 (length c.in-Sparse.row.numbers) c.entries.result.now c.entries.ensures.rising)
