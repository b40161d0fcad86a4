use Rattle.std.proofs.Common.{refl, sym, subst, inl, inr, arith}
use Rattle.row_store.proofs.checks.are_columns_within.Goals as goal
use Rattle.std.proofs.lemmas.Bool.{cases_lt}
use Rattle.sums.proofs.Naturals.{last_below}
use Rattle.sums.proofs.Tests.{unlike}
use Rattle.row_store.specs.Problem.{IsColumnWithin}

pub is_column_within-requires : goal.is_column_within-requires
is_column_within-requires c = record { few = c.requires.few; widths = c.requires.widths; column = omega arith }

pub loop-column-preserved : goal.loop-column-preserved
loop-column-preserved c k lt =
    elim (cases_lt k c.loop-column.column) [
      | inl less ↦ c.loop-column.invariant k less
      | inr ge ↦ subst (IsColumnWithin c.args.rows.now) (sym (last_below k c.loop-column.column lt ge)) (c.if-not-is_column_within.ensures.0 refl)
    ]

pub returns-then-not-is_column_within : goal.returns-then-not-is_column_within
returns-then-not-is_column_within c = (λ t. unlike (sym t), λ all. c.if-not-is_column_within.ensures.1 (all c.loop-column.column (omega arith)))
