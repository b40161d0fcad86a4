use Rattle.std.proofs.Common.{suc, sym, ◌∙◌, ap, subst}
use Rattle.fleet_model.specs.Kept.{kept_by}
use Rattle.fleet_model.specs.Whole.{KeepAllowed}
use Rattle.branch_bound.specs.History.{IsSplitSearch, WaitsWith}
use Rattle.node_bounding.specs.Relaxed.{AreGood}
use Rattle.branch_bound.specs.Search.{at}
use Rattle.branch_bound.specs.declared.search.Search.{Search}
use Rattle.branch_bound.proofs.Grown.{where_ok}
use Rattle.branch_bound.proofs.NextSplits.{allowed_there, at_waits, good, keeps_there, split_search, step_known}
use Rattle.branch_bound.proofs.branching.split_next.Goals as goal

pub part-requires-clause-waits : goal.part-requires-clause-waits
part-requires-clause-waits g c = good _ _ _ _ c.requires.search c.requires.next

pub part-requires-clause-allowed : goal.part-requires-clause-allowed
part-requires-clause-allowed g c = allowed_there _ _ _ _ c.requires.search c.requires.next _ _ c.as_slice.ensures.value c.kept_in-kept.ensures

pub part-requires-clause-pair : goal.part-requires-clause-pair
part-requires-clause-pair g c = step_known _ _ _ _ c.requires.search c.requires.next _ _ _ c.with.ensures (at_waits _ _ _ _ c.requires.search c.requires.next _ _ c.index.ensures c.split_pair-pair.ensures)

pub part-requires-2-clause-waits : goal.part-requires-2-clause-waits
part-requires-2-clause-waits g c =
    subst (λ m. WaitsWith (λ f. AreGood c.args.tables.now f.best.prices) (at m.items c.args.rank.number).state) (sym (ap (λ s. s.made) c.in_ok-yes.ensures.search)) (good _ _ _ _ c.requires.search c.requires.next)

pub part-requires-2-clause-allowed : goal.part-requires-2-clause-allowed
part-requires-2-clause-allowed g c =
    subst (λ rows. KeepAllowed c.args.tables.now (kept_by rows)) (sym c.in_ok-yes.ensures.same) (allowed_there _ _ _ _ c.requires.search c.requires.next _ _ c.as_slice.ensures.value c.kept_in-kept.ensures)

pub part-requires-2-clause-pair : goal.part-requires-2-clause-pair
part-requires-2-clause-pair g c = step_known _ _ _ _ c.requires.search c.requires.next _ _ _ c.without.ensures (at_waits _ _ _ _ c.requires.search c.requires.next _ _ c.index.ensures c.split_pair-pair.ensures)

pub returns-clause-search : goal.returns-clause-search
returns-clause-search g c =
    where_ok _ _ _
    (λ is. split_search _ _ _ _ c.requires.search c.requires.next c.part.new.search c.part-2.new.search _ _ _ _ _ _ _ _ (at_waits _ _ _ _ c.requires.search c.requires.next _ _ c.index.ensures c.split_pair-pair.ensures)
    c.with.ensures c.without.ensures (keeps_there _ _ _ _ c.requires.search c.requires.next _ _ c.as_slice.ensures.value c.kept_in-kept.ensures) (ap kept_by c.in_ok-yes.ensures.same)
    c.in_ok-yes.ensures.search c.in_ok-no.ensures.search c.in_ok-yes.ensures.examined c.in_ok-no.ensures.examined is)
    c.add.ensures

pub returns-clause-nodes : goal.returns-clause-nodes
returns-clause-nodes g c = where_ok _ _ _ (λ (is : IsSplitSearch _ _ _ _ _ _). is.nodes ∙ ap (λ (m : Search). m.nodes) c.in_ok-no.ensures.search ∙ ap (λ (m : Search). m.nodes) c.in_ok-yes.ensures.search) c.add.ensures

pub returns-clause-pivots : goal.returns-clause-pivots
returns-clause-pivots g c = where_ok _ _ _ (λ (is : IsSplitSearch _ _ _ _ _ _). is.pivots ∙ ap (λ (m : Search). m.pivots) c.in_ok-no.ensures.search ∙ ap (λ (m : Search). m.pivots) c.in_ok-yes.ensures.search) c.add.ensures

pub returns-clause-splits : goal.returns-clause-splits
returns-clause-splits g c = where_ok _ _ _ (λ (is : IsSplitSearch _ _ _ _ _ _). is.splits ∙ ap (λ (m : Search). suc m.splits) c.in_ok-no.ensures.search ∙ ap (λ (m : Search). suc m.splits) c.in_ok-yes.ensures.search) c.add.ensures
