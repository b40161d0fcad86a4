-- The tree of all pairs, from that of the pairs which presolve keeps; and prices of 0.
use Rattle.std.proofs.Common.{◌≡◌, ℕ, ◌+◌, ◌<◌, false, List, [], ◌∷◌, All, Option, ℤ, pos, refl, sym, ap, ◌∙◌, subst, arith}
use Rattle.std.proofs.lemmas.Int.{ints}
use Rattle.std.proofs.lemmas.List.Elements.{All-cons, All-nil}
use Rattle.sums.proofs.Places.{get_or-list_below, length-list_below}
use Rattle.fleet_model.specs.Kept.{Domains, all_pairs}
use Rattle.fleet_model.specs.LeftOut.{KeepLeftOut}
use Rattle.fleet_model.specs.Schedule.{fleets_in, last_of}
use Rattle.fleet_model.specs.Whole.{KeepAllowed}
use Rattle.fleet_model.specs.declared.tables.Tables.{Tables}
use Rattle.fleet_model.proofs.FewChoices.{few_choices}
use Rattle.fleet_model.proofs.PeriodMinutes.{last_in}
use Rattle.dual_bound.specs.OfTables.{IsChargeOf, IsStepOf}
use Rattle.dual_bound.specs.Prices.{AreCharges, ArePrices, price_after, price_of, rent_of}
use Rattle.dual_bound.specs.WrittenOrder.{IsStepInOrder}
use Rattle.dual_bound.specs.declared.prices.Prices.{Prices}
use Rattle.dual_bound.specs.declared.trees.Tree.{Tree}
use Rattle.dual_bound.proofs.Charges.{no_rise}
use Rattle.dual_bound.proofs.NoCharges.{none_in_order, none_proper}
use Rattle.dual_bound.proofs.StepOrder.{zero_figure}
use Rattle.presolve.specs.Removals.{AreRefuted, kept_after, removed_pair, without}
use Rattle.presolve.specs.declared.trims.Trim.{Trim as Removal}
use Rattle.presolve.proofs.StepsLeft.{keep_left_out}
use Rattle.node_bounding.specs.Causes.{zero_prices}
use Rattle.node_bounding.specs.Relaxed.{AreGood}
use Rattle.node_bounding.specs.Subproblems.{IsPart}
use Rattle.node_bounding.specs.Trims.{AreBelow, AreOnTop, AreSearched, IsRemovalWithin}
use Rattle.node_bounding.proofs.Parts.{trim_part}
use Rattle.node_bounding.proofs.Allowed.{allowed_part}

-- ---- removals
pub removals_within : (t : Tables) (keeps : Domains) (removals : List Removal) → AreRefuted t keeps removals → All IsRemovalWithin removals
removals_within t keeps [] refuted = All-nil IsRemovalWithin
removals_within t keeps (removal ∷ removals) refuted =
    All-cons IsRemovalWithin removal removals
    (record { leg = omega (arith, refuted.0.pair.leg, t.in_range.legs_fit.few); choice = omega (arith, refuted.0.pair.choice, few_choices t removal.leg) })
    (removals_within t (without keeps removal) removals refuted.1)

pub allowed_after : (t : Tables) (keeps : Domains) (removals : List Removal) → KeepAllowed t keeps → KeepAllowed t (kept_after keeps removals)
allowed_after t keeps [] allowed = allowed
allowed_after t keeps (removal ∷ removals) allowed = allowed_after t (without keeps removal) removals (allowed_part t keeps (record { leg = removal.leg; choice = removal.choice; yes = false }) allowed)

pub allowed_all : (t : Tables) → KeepAllowed t (all_pairs t)
allowed_all t = record { each = λ p pair kept. kept }

-- the tree of a subproblem, of that of the pairs that are kept after removals
pub below_part : (t : Tables) (pivots : Option ℕ) (final : Option ℤ) (keeps : Domains) (above : Prices) (removals : List Removal) (rest whole : Tree) → KeepLeftOut t keeps → AreRefuted t keeps removals → AreBelow removals rest whole
    → IsPart t pivots final (kept_after keeps removals) above rest → IsPart t pivots final keeps above whole
below_part t pivots final keeps above [] rest whole out refuted same is = subst (IsPart t pivots final keeps above) (sym same) is
below_part t pivots final keeps above (removal ∷ removals) rest whole out refuted (inner, below, here) is =
    subst (IsPart t pivots final keeps above) (sym here.is)
    (trim_part t pivots final keeps above removal here.with_pair here.without out refuted.0 here.yes_is
    (subst (IsPart t pivots final (without keeps removal) above) (sym here.no_is) (below_part t pivots final (without keeps removal) above removals rest inner (keep_left_out t keeps (removed_pair removal) refuted.0.pair refuted.0.by refuted.0.kept out) refuted.1 below is)))

-- the pairs that are kept once the removals were taken away, as the code does it
pub kept_now : (t : Tables) (start keeps : Domains) (removals slice : List Removal) → start ≡ all_pairs t → slice ≡ removals → keeps ≡ kept_after start slice → keeps ≡ kept_after (all_pairs t) removals
kept_now t start keeps removals slice start_is slice_is keeps_is = keeps_is ∙ ap (λ k. kept_after k slice) start_is ∙ ap (kept_after (all_pairs t)) slice_is

-- the removals stand on top of a tree in which nothing more is removed
pub on_top : (t : Tables) (keeps : Domains) (removals : List Removal) (rest whole : Tree) → AreBelow removals rest whole → AreSearched t (kept_after keeps removals) rest → AreOnTop t keeps removals whole
on_top t keeps [] rest whole same searched = subst (AreSearched t keeps) (sym same) searched
on_top t keeps (removal ∷ removals) rest whole (inner, below, is) searched =
    subst (AreOnTop t keeps (removal ∷ removals)) (sym is.is)
    (refl, refl, is.yes_is, subst (AreOnTop t (without keeps removal) removals) (sym is.no_is) (on_top t (without keeps removal) removals rest inner below searched))

-- ---- prices of 0
zero_rent : (t : Tables) (f : ℕ) → f < fleets_in t → rent_of (zero_prices t) f ≡ pos 0
zero_rent t f known = get_or-list_below (λ k. pos 0) (fleets_in t) f (pos 0) known

zero_price : (t : Tables) (f s m : ℕ) → price_of (zero_prices t) f s m ≡ pos 0
unfolding price_after
zero_price t f s m = refl

zero_charges : (t : Tables) → AreCharges t (zero_prices t)
zero_charges t = none_proper t (zero_prices t) refl

zero_proper : (t : Tables) → ArePrices t (zero_prices t)
zero_proper t = record {
  scale = record { some = omega (arith, ints); within = omega (arith, ints) };
  within = record {
    rents = λ f known. record { some = omega (arith, ints, zero_rent t f known); within = omega (arith, ints, zero_rent t f known) };
    each = λ f s m known there early. record { no_less = omega (arith, ints, zero_price t f s m); no_more = omega (arith, ints, zero_price t f s m) };
    charges = zero_charges t;
  };
  fall = record { each = λ f s m known there early. no_rise t (zero_prices t) (zero_charges t) s m there (omega (arith, early)) _ _ (omega (arith, ints, zero_price t f s m, zero_price t f s (m + 1))) };
  rise = record { each = λ f s known there. no_rise t (zero_prices t) (zero_charges t) s (last_of t) there (last_in t) _ _ (omega (arith, ints, zero_price t f s 0, zero_price t f s (last_of t), zero_rent t f known)) };
}

pub zero_good : (t : Tables) → AreGood t (zero_prices t)
zero_good t = record {
  proper = zero_proper t;
  known = record { steps = All-nil (IsStepOf t); charges = All-nil (IsChargeOf t) };
  in_order = record {
    scale = record { no_less = omega (arith, ints); no_more = omega (arith, ints) };
    one_each = length-list_below (λ f. pos 0) (fleets_in t);
    rents = λ k d within. rw (get_or-list_below (λ f. pos 0) (fleets_in t) k d (omega (arith, within, length-list_below (λ f. pos 0) (fleets_in t)))) zero_figure;
    steps = record { each = All-nil (IsStepInOrder t); follow = tt; no_lone_zero = tt };
    charges = none_in_order t (zero_prices t) refl;
  };
}
