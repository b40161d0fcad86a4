use Rattle.std.proofs.Common.{rules}
use Rattle.csv_fields.specs.Number.{whole_of}
use Rattle.csv_fields.proofs.WholeForm.{answer_form}
use Rattle.csv_fields.proofs.number.whole.Goals as goal

pub returns-in_err-number-clause-reads : goal.returns-in_err-number-clause-reads
unfolding whole_of
returns-in_err-number-clause-reads c = search rules

pub returns-in_err-number-clause-form : goal.returns-in_err-number-clause-form
returns-in_err-number-clause-form c = answer_form _ _ _ _ (returns-in_err-number-clause-reads c)

pub returns-then-number-least-clause-reads : goal.returns-then-number-least-clause-reads
unfolding whole_of
returns-then-number-least-clause-reads c = search rules

pub returns-then-number-least-clause-form : goal.returns-then-number-least-clause-form
returns-then-number-least-clause-form c = answer_form _ _ _ _ (returns-then-number-least-clause-reads c)

pub returns-clause-reads : goal.returns-clause-reads
unfolding whole_of
returns-clause-reads c = search rules

pub returns-clause-form : goal.returns-clause-form
returns-clause-form c = answer_form _ _ _ _ (returns-clause-reads c)
