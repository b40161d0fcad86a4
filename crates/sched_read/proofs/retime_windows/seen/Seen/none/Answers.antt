use Rattle.std.proofs.Common.{◌≡◌, [], length, sym, subst, ap, ◌∙◌, arith, rules}
use Rattle.std.specs.Prelude.{◌≤◌, ℕ, List, map, replicate}
use Rattle.fleet_model.specs.declared.limits.TheConstants.{MAX_TRIPLES}
use Rattle.sched_read.specs.retime_windows.Counted.{AreFleetCounts, AreWindowsCounted}
use Rattle.sched_read.specs.retime_windows.Keys.{triples_by, window_key}
use Rattle.sched_read.specs.declared.retime_windows.window.Window.{Window}
use Rattle.sched_read.proofs.retime_windows.NoneYet.{counts_known, first_triples, none_counted}
use Rattle.sched_read.proofs.retime_windows.seen.Seen.none.Goals as goal

few : (fleets counts : List ℕ) → fleets ≡ counts → triples_by counts [] ≤ MAX_TRIPLES → triples_by fleets [] ≤ MAX_TRIPLES
few fleets counts is known = subst (λ fs. triples_by fs [] ≤ MAX_TRIPLES) (sym is) known

pub triples_of-triples-requires : goal.triples_of-triples-requires
triples_of-triples-requires c = few _ _ (c.deref.ensures.value ∙ c.in_ok-fleets.ensures) (first_triples c.args.tables.now)

pub invariant_of-result : goal.invariant_of-result
invariant_of-result c =
    let fleets = c.in_ok-fleets.fleets.items in
    let known : AreFleetCounts (length fleets) fleets = subst (λ fs. AreFleetCounts (length fs) fs) (sym c.in_ok-fleets.ensures) (counts_known c.args.tables.now) in
    let zeros : c.in_ok-on_leg.on_leg.items ≡ replicate (length fleets) 0 = search rules in
    let empty : c.new.result.items ≡ [] = search rules in
    let value : c.triples_of-triples.result ≡ triples_by fleets [] = c.triples_of-triples.ensures ∙ ap (λ fs. triples_by fs []) c.deref.ensures.value in
    record {
      fleets_known = known;
      counted = subst (λ (ws : List Window). AreWindowsCounted (map window_key ws) (length fleets) c.in_ok-on_leg.on_leg.items) (sym empty) (subst (AreWindowsCounted [] (length fleets)) (sym zeros) (none_counted (length fleets)));
      triples_are = value ∙ ap (λ (ws : List Window). triples_by fleets (map window_key ws)) (sym empty);
      few_triples = omega (arith, value, few fleets _ c.in_ok-fleets.ensures (first_triples c.args.tables.now));
    }
