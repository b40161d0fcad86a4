use Rattle.std.proofs.Common.{◌≤◌, ℕ, Contains, MatchOption, sym, subst}
use Rattle.node_aggregate.specs.island_cut.Islands.{idle_at}
use Rattle.node_aggregate.specs.island_cut.Lookup.{IsFirstIdle}
use Rattle.node_aggregate.proofs.island_cut.FirstIdles.{found_at, found_none}
use Rattle.node_aggregate.proofs.island_cut.lookup.first_idle.Goals as goal

pub returns : goal.returns
returns c =
    let there = c.in_ok-entry.ensures.lookup in
    subst (λ o. MatchOption o ((m : ℕ) → c.args.from ≤ m → ¬ (Contains c.args.idles.now (idle_at c.args.station m))) (IsFirstIdle c.args.idles.now c.args.station c.args.from)) (sym c.then_some.ensures)
    (found_at c.args.idles.now c.args.station c.args.from c.parting-place.result c.in_ok-entry.entry.now c.requires c.parting-place.ensures there.3.0 (there.3.1 (idle_at 0 0)))

pub returns-in_err-entry : goal.returns-in_err-entry
returns-in_err-entry c =
    let there = c.in_err-entry.ensures.lookup in
    subst (λ o. MatchOption o ((m : ℕ) → c.args.from ≤ m → ¬ (Contains c.args.idles.now (idle_at c.args.station m))) (IsFirstIdle c.args.idles.now c.args.station c.args.from)) (sym c.from_residual.ensures)
    (found_none c.args.idles.now c.args.station c.args.from c.parting-place.result c.requires c.parting-place.ensures there.3)
