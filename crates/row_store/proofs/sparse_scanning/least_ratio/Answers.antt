use Rattle.std.proofs.Common.{◌≡◌, arith, sym, ◌∙◌, ap, option_map, add-one}
use Rattle.row_store.specs.Choice.{best_below, better, candidate_at}
use Rattle.row_store.proofs.Choices.{best_is, leaving_from}
use Rattle.row_store.proofs.sparse_scanning.least_ratio.Goals as goal

pub next_best-best-requires-clause-best : goal.next_best-best-requires-clause-best
next_best-best-requires-clause-best c other e =
    (best_is c.args.rows.now c.args.basis.now c.args.column c.loop-row.row other (sym c.loop-row.invariant ∙ e)).positive

pub loop-row-preserved : goal.loop-row-preserved
loop-row-preserved c =
    c.next_best-best.ensures ∙ ap (λ o. better o (candidate_at c.args.rows.now c.args.basis.now c.args.column c.loop-row.row)) c.loop-row.invariant
    ∙ ap (best_below c.args.rows.now c.args.basis.now c.args.column) (sym (add-one c.loop-row.row))

pub returns : goal.returns
returns c =
    let mapped : c.row_of.result ≡ option_map (λ b. b.row) c.loop-row.best = c.row_of.ensures in
    mapped ∙ leaving_from c.args.rows.now c.args.basis.now c.args.column c.loop-row.row c.loop-row.best c.loop-row.invariant (omega arith)
