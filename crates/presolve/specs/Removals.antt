-- Which pairs presolve removes, in which order, and what their reasons show.
use Rattle.std.specs.Prelude.{◌≡◌, ℕ, ◌<◌, ◌==◌, ◌&&◌, ◌||◌, nat_lt, if◌then◌else◌, Bool, IsTrue, true, false, ⊤, List, [], ◌∷◌, Some, None, pos, ◌<ℤ◌}
use Rattle.fleet_model.specs.Kept.{Domains, IsBare}
use Rattle.fleet_model.specs.Schedule.{IsPair, fleet_by, fleets_in, leg_on}
use Rattle.fleet_model.specs.declared.parts.Pair.{Pair}
use Rattle.fleet_model.specs.declared.tables.Tables.{Tables}
use Rattle.dual_bound.specs.Bound.{part}
use Rattle.dual_bound.specs.OfTables.{ArePricesOf}
use Rattle.dual_bound.specs.Prices.{ArePrices}
use Rattle.dual_bound.specs.Worth.{worth_of}
use Rattle.dual_bound.specs.WrittenOrder.{ArePricesInOrder}
use Rattle.presolve.specs.Reasons.{IsReason}
use Rattle.presolve.specs.Rules.{removed_by}
use Rattle.presolve.specs.declared.trims.Trim.{Trim}
use Rattle.presolve.specs.declared.rule.Rule.{Rule}

-- a pair comes before another, by leg, then choice
abbrev pub before : Pair → Pair → Bool
before p q = nat_lt p.leg q.leg || ((p.leg == q.leg) && nat_lt p.choice q.choice)

-- of two pairs the first is met sooner, going over the pairs from a place to the last, and then over those before it
abbrev pub is_sooner : Pair → Pair → Pair → Bool
is_sooner place p q = if before p place then before q place && before p q else before q place || before p q

-- where a pass begins
abbrev pub first_place : Pair
first_place = leg_on 0 0

-- the pair that is removed
abbrev pub removed_pair : Trim → Pair
removed_pair trim = leg_on trim.leg trim.choice

-- the pairs that are kept after it
abbrev pub without : Domains → Trim → Domains
without keeps trim = part keeps trim.leg trim.choice false

-- each leg keeps a pair
abbrev pub NoneBare : Tables → Domains → Type 0
NoneBare t keeps = (l : ℕ) → ¬ (IsBare t keeps l)

-- nothing more is removed: no kept pair meets a rule, or some leg keeps no pair
pub record IsDone (t : Tables) (keeps : Domains) : Type 0 where
  pub each : NoneBare t keeps → (p : Pair) → IsPair t p → removed_by t keeps p ≡ None

-- The next removal, going on from a place: the first kept pair that meets a rule, with the reason by its first rule.
-- Each leg keeps a pair before it.
pub record IsNextRemoval (t : Tables) (keeps : Domains) (place : Pair) (trim : Trim) : Type 0 where
  pub none_bare : NoneBare t keeps
  pub pair : IsPair t (removed_pair trim)
  pub why : Rule
  pub first_rule : removed_by t keeps (removed_pair trim) ≡ Some why
  pub reason : IsReason t why (removed_pair trim) trim.reason
  pub first_pair : (p : Pair) → IsPair t p → IsTrue (is_sooner place p (removed_pair trim)) → removed_by t keeps p ≡ None

-- The removals, going on from a place. A pass goes over the pairs by leg, then choice; what comes behind the last pair
-- is the next pass, and one that removes none is the last.
abbrev pub AreRemovals : Tables → Domains → Pair → List Trim → Type 0
AreRemovals t keeps place [] = IsDone t keeps
AreRemovals t keeps place (trim ∷ trims) = IsNextRemoval t keeps place trim × AreRemovals t (without keeps trim) (removed_pair trim) trims

-- the pairs that are kept after removals
abbrev pub kept_after : Domains → List Trim → Domains
kept_after keeps [] = keeps
kept_after keeps (trim ∷ trims) = kept_after (without keeps trim) trims

-- A removal's reason refutes the part in which the pair is flown: a fleet flies it, it is kept, each leg keeps a pair there, and by
-- proper prices that part is worth more than 0, no cost put in.
pub record IsPairRefuted (t : Tables) (keeps : Domains) (trim : Trim) : Type 0 where
  pub pair : IsPair t (removed_pair trim)
  pub by : fleet_by t (removed_pair trim) < fleets_in t
  pub kept : IsTrue (keeps (removed_pair trim))
  pub none_bare : NoneBare t (part keeps trim.leg trim.choice true)
  pub proper : ArePrices t trim.reason
  pub of_tables : ArePricesOf t trim.reason
  pub in_order : ArePricesInOrder t trim.reason
  pub above : pos 0 <ℤ worth_of t (part keeps trim.leg trim.choice true) trim.reason 0

-- and so does each, among the pairs that are kept by then
abbrev pub AreRefuted : Tables → Domains → List Trim → Type 0
AreRefuted t keeps [] = ⊤
AreRefuted t keeps (trim ∷ trims) = IsPairRefuted t keeps trim × AreRefuted t (without keeps trim) trims
