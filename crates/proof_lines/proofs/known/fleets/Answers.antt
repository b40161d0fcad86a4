use Rattle.std.proofs.Common.{AllPairs, arith, subst, sym, ◌≢◌, ◌^◌}
use Rattle.proof_lines.proofs.NamesKept.{names_fit, names_many, names_same}
use Rattle.proof_lines.proofs.known.fleets.Goals as goal

pub numbers_of-requires : goal.numbers_of-requires
numbers_of-requires c = subst (AllPairs (λ a b. a.name ≢ b.name)) (sym c.as_slice.ensures) c.args.tables.now.in_range.fleets_fit.differ

pub returns-clause-same : goal.returns-clause-same
returns-clause-same c = names_same (λ entry. entry.name) c.as_slice.result.now c.args.tables.now.fleets c.as_slice.ensures c.numbers_of.result c.numbers_of.ensures

pub returns-clause-many : goal.returns-clause-many
returns-clause-many c = names_many (λ entry. entry.name) c.as_slice.result.now c.args.tables.now.fleets c.as_slice.ensures c.numbers_of.result c.numbers_of.ensures

pub returns-clause-fit : goal.returns-clause-fit
returns-clause-fit c =
    names_fit (λ entry. entry.name) c.as_slice.result.now c.args.tables.now.fleets c.as_slice.ensures (2 ^ 32) (omega (arith, c.args.tables.now.in_range.fleets_fit.few)) c.numbers_of.result
    c.numbers_of.ensures
