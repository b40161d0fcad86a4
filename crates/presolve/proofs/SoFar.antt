-- Removals that are found one after the other.
use Rattle.std.proofs.Common.{◌≡◌, ◌<◌, false, List, [], ◌∷◌, ◌++◌, append_assoc, append-nil, subst, sym, ◌∙◌, ap, arith}
use Rattle.fleet_model.specs.Kept.{Domains, all_pairs, pairs_kept}
use Rattle.fleet_model.specs.declared.parts.Pair.{Pair}
use Rattle.fleet_model.specs.declared.tables.Tables.{Tables}
use Rattle.dual_bound.specs.Bound.{part}
use Rattle.dual_bound.specs.declared.prices.Prices.{Prices}
use Rattle.presolve.specs.Reasons.{IsReason}
use Rattle.presolve.specs.Removals.{AreRemovals, IsDone, IsNextRemoval, first_place}
use Rattle.presolve.specs.Search.{IsNextPair}
use Rattle.presolve.specs.declared.trims.Trim.{Trim}
use Rattle.presolve.specs.declared.search.Removable.{Removable}
use Rattle.presolve.proofs.KeptParts.{one_fewer}
use Rattle.presolve.proofs.RemovalLaws.{is_removable}

-- the removal of a pair that was found, with its reason
abbrev pub trim_of : Removable → Prices → Trim
trim_of found prices = record { leg = found.pair.leg; choice = found.pair.choice; reason = prices }

-- a pair that is next, with its reason, is the next removal
is_next : (t : Tables) (keeps : Domains) (place : Pair) (found : Removable) (prices : Prices) → IsNextPair t keeps place found → IsReason t found.rule found.pair prices
    → IsNextRemoval t keeps place (trim_of found prices)
is_next t keeps place found prices next reason = record {
  none_bare = next.none_bare;
  pair = next.pair;
  why = found.rule;
  first_rule = next.by_rule;
  reason = reason;
  first_pair = next.first;
}

-- one more behind those so far
pub one_more : (t : Tables) (start keeps after : Domains) (from place : Pair) (found : Removable) (prices : Prices) (so_far grown rest : List Trim) → grown ≡ so_far ++ trim_of found prices ∷ []
    → ((others : List Trim) → AreRemovals t keeps place others → AreRemovals t start from (so_far ++ others))
    → IsNextPair t keeps place found → IsReason t found.rule found.pair prices → after ≡ part keeps found.pair.leg found.pair.choice false
    → AreRemovals t after found.pair rest → AreRemovals t start from (grown ++ rest)
one_more t start keeps after from place found prices so_far grown rest is before next reason same removals =
    let behind : AreRemovals t (part keeps found.pair.leg found.pair.choice false) found.pair rest = subst (λ k. AreRemovals t k found.pair rest) same removals in
    let all = before (trim_of found prices ∷ rest) (is_next t keeps place found prices next reason, behind) in
    subst (λ xs. AreRemovals t start from xs) (sym (ap (λ xs. xs ++ rest) is ∙ append_assoc so_far (trim_of found prices ∷ []) rest)) all

-- and then one pair fewer is kept
pub smaller : (t : Tables) (keeps after : Domains) (place : Pair) (found : Removable) → IsNextPair t keeps place found → after ≡ part keeps found.pair.leg found.pair.choice false
    → pairs_kept t after < pairs_kept t keeps
smaller t keeps after place found next same =
    let fewer = one_fewer t keeps found.pair next.pair (is_removable t keeps found.pair found.rule next.by_rule).kept in
    rw same (omega (arith, fewer))

-- all, once nothing is left to remove
pub all_removals : (t : Tables) (keeps : Domains) (place : Pair) (so_far all : List Trim) → all ≡ so_far
    → ((others : List Trim) → AreRemovals t keeps place others → AreRemovals t (all_pairs t) first_place (so_far ++ others)) → IsDone t keeps
    → AreRemovals t (all_pairs t) first_place all
all_removals t keeps place so_far all is before done = rw is (subst (λ xs. AreRemovals t (all_pairs t) first_place xs) (append-nil so_far) (before [] done))
