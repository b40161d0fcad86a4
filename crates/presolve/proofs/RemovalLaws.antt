-- What removals show, and how many there are.
use Rattle.std.proofs.Common.{◌≡◌, ◌+◌, ◌<◌, ◌&&◌, Bool, true, false, if◌then◌else◌, ◌==◌, nat_lt, Option, Some, None, List, [], ◌∷◌, length, pos, ◌<ℤ◌, refl, arith}
use Rattle.std.proofs.lemmas.Bool.{ltb-true}
use Rattle.sums.proofs.Naturals.{zero_number}
use Rattle.fleet_model.specs.Kept.{Domains, pairs_kept}
use Rattle.fleet_model.specs.Schedule.{IsPair, fleet_by, fleet_of, fleets_in, leg_of}
use Rattle.fleet_model.specs.Times.{departure}
use Rattle.fleet_model.specs.declared.parts.Pair.{Pair}
use Rattle.fleet_model.specs.declared.tables.Tables.{Tables}
use Rattle.dual_bound.specs.Bound.{part}
use Rattle.dual_bound.specs.Worth.{worth_of}
use Rattle.dual_bound.specs.declared.prices.Prices.{Prices}
use Rattle.presolve.specs.Reasons.{IsReason}
use Rattle.presolve.specs.Removals.{AreRefuted, AreRemovals, IsDone, IsNextRemoval, IsPairRefuted, kept_after, removed_pair, without}
use Rattle.presolve.specs.Rules.{departures, landings, removed_by, rule_of, surely_busy}
use Rattle.presolve.specs.declared.trims.Trim.{Trim}
use Rattle.presolve.specs.declared.rule.Rule.{Rule}
use Rattle.presolve.specs.declared.rule.Rule.TheVariants as rule
use Rattle.presolve.proofs.AircraftRule.{too_few_refutes}
use Rattle.presolve.proofs.KeptParts.{flown_none_bare, one_fewer}
use Rattle.presolve.proofs.ReasonsProper.{reason_is_proper}
use Rattle.presolve.proofs.StationRules.{no_arrival_refutes, no_departure_refutes}

-- which of three tests passes first
by_three : Bool → Bool → Bool → Option Rule
by_three a b c = if a then Some rule.NoArrival else if b then Some rule.NoDeparture else if c then Some rule.TooFewAircraft else None

abbrev PassesAs : Bool → Bool → Bool → Rule → Type 0
PassesAs a b c rule.NoArrival = a ≡ true
PassesAs a b c rule.NoDeparture = b ≡ true
PassesAs a b c rule.TooFewAircraft = c ≡ true

passes : (a b c : Bool) (why : Rule) → by_three a b c ≡ Some why → PassesAs a b c why
unfolding by_three
passes true b c rule.NoArrival e = refl
passes true b c rule.NoDeparture e = cc
passes true b c rule.TooFewAircraft e = cc
passes false true c rule.NoDeparture e = refl
passes false true c rule.NoArrival e = cc
passes false true c rule.TooFewAircraft e = cc
passes false false true rule.TooFewAircraft e = refl
passes false false true rule.NoArrival e = cc
passes false false true rule.NoDeparture e = cc
passes false false false why e = cc

-- what is removed is kept, a fleet flies it, and it meets the rule
pub record IsRemovable (t : Tables) (keeps : Domains) (p : Pair) (why : Rule) : Type 0 where
  pub kept : keeps p ≡ true
  pub flown : fleet_by t p < fleets_in t
  pub meets : rule_of t keeps p ≡ Some why

pub is_removable : (t : Tables) (keeps : Domains) (p : Pair) (why : Rule) → removed_by t keeps p ≡ Some why → IsRemovable t keeps p why
is_removable t keeps p why e = by_tests (keeps p) (nat_lt (fleet_by t p) (fleets_in t)) (rule_of t keeps p) e (λ k l o. record { kept = k; flown = ltb-true (fleet_by t p) (fleets_in t) l; meets = o })
  where
    by_tests : {X : Type 0} (b c : Bool) (o : Option Rule) → (if b && c then o else None) ≡ Some why → (b ≡ true → c ≡ true → o ≡ Some why → X) → X
    by_tests true true o e x = x refl refl e
    by_tests true false o e x = cc
    by_tests false c o e x = cc

-- by the first rule that a pair meets, its reason shows that nothing legal is left where it is flown
by_rule : (t : Tables) (keeps : Domains) (p : Pair) (why : Rule) (prices : Prices) → IsPair t p → fleet_by t p < fleets_in t → keeps p ≡ true → IsReason t why p prices
    → PassesAs (landings t keeps (fleet_by t p) (leg_of t p.leg).from == 0) (departures t keeps (fleet_by t p) (leg_of t p.leg).to == 0) (nat_lt (fleet_of t (fleet_by t p)).aircraft (surely_busy t keeps p (departure t p))) why
    → pos 0 <ℤ worth_of t (part keeps p.leg p.choice true) prices 0
by_rule t keeps p rule.NoArrival prices pair flies kept reason test = no_arrival_refutes t keeps p prices pair flies kept (zero_number (landings t keeps (fleet_by t p) (leg_of t p.leg).from) test) reason
by_rule t keeps p rule.NoDeparture prices pair flies kept reason test = no_departure_refutes t keeps p prices pair flies kept (zero_number (departures t keeps (fleet_by t p) (leg_of t p.leg).to) test) reason
by_rule t keeps p rule.TooFewAircraft prices pair flies kept reason test = too_few_refutes t keeps p prices pair flies kept (ltb-true (fleet_of t (fleet_by t p)).aircraft (surely_busy t keeps p (departure t p)) test) reason

rule_refutes : (t : Tables) (keeps : Domains) (p : Pair) (why : Rule) (prices : Prices) → IsPair t p → removed_by t keeps p ≡ Some why → IsReason t why p prices
    → pos 0 <ℤ worth_of t (part keeps p.leg p.choice true) prices 0
unfolding rule_of by_three
rule_refutes t keeps p why prices pair e reason =
    let found = is_removable t keeps p why e in
    by_rule t keeps p why prices pair found.flown found.kept reason (passes _ _ _ why found.meets)

next_is_refuted : (t : Tables) (keeps : Domains) (place : Pair) (trim : Trim) → IsNextRemoval t keeps place trim → IsPairRefuted t keeps trim
next_is_refuted t keeps place trim next = record {
  pair = next.pair;
  by = (is_removable t keeps (removed_pair trim) next.why next.first_rule).flown;
  kept = (is_removable t keeps (removed_pair trim) next.why next.first_rule).kept;
  none_bare = flown_none_bare t keeps (removed_pair trim) next.pair (is_removable t keeps (removed_pair trim) next.why next.first_rule).kept next.none_bare;
  proper = reason_is_proper t next.why (removed_pair trim) trim.reason next.reason;
  of_tables = next.reason.of_tables;
  in_order = next.reason.in_order;
  above = rule_refutes t keeps (removed_pair trim) next.why trim.reason next.pair next.first_rule next.reason;
}

-- the reasons of removals refute
pub are_refuted : (t : Tables) (keeps : Domains) (place : Pair) (trims : List Trim) → AreRemovals t keeps place trims → AreRefuted t keeps trims
are_refuted t keeps place [] removals = tt
are_refuted t keeps place (trim ∷ trims) removals = (next_is_refuted t keeps place trim removals.0, are_refuted t (without keeps trim) (removed_pair trim) trims removals.1)

-- nothing is left to remove behind them
pub are_done : (t : Tables) (keeps : Domains) (place : Pair) (trims : List Trim) → AreRemovals t keeps place trims → IsDone t (kept_after keeps trims)
are_done t keeps place [] removals = removals
are_done t keeps place (trim ∷ trims) removals = are_done t (without keeps trim) (removed_pair trim) trims removals.1

-- each takes one kept pair away
pub are_fewer : (t : Tables) (keeps : Domains) (place : Pair) (trims : List Trim) → AreRemovals t keeps place trims → length trims + pairs_kept t (kept_after keeps trims) ≡ pairs_kept t keeps
are_fewer t keeps place [] removals = omega arith
are_fewer t keeps place (trim ∷ trims) removals =
    let next = removals.0 in
    let fewer = one_fewer t keeps (removed_pair trim) next.pair (is_removable t keeps (removed_pair trim) next.why next.first_rule).kept in
    omega (arith, fewer, are_fewer t (without keeps trim) (removed_pair trim) trims removals.1)
