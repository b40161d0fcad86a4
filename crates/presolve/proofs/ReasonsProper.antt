-- The prices of a reason are proper.
use Rattle.std.proofs.Common.{◌≡◌, ℕ, ◌+◌, ◌<◌, Bool, true, false, if◌then◌else◌, ◌==◌, ◌&&◌, nat_le, pos, negsuc, ◌+ℤ◌, ◌≤ℤ◌, refl, arith}
use Rattle.std.proofs.lemmas.Bool.Decides.{nat_tests}
use Rattle.std.proofs.lemmas.Int.{ints}
use Rattle.sums.proofs.Places.{get_or-list_below}
use Rattle.fleet_model.specs.Schedule.{fleet_by, fleets_in, last_of, leg_of}
use Rattle.fleet_model.specs.Times.{departure}
use Rattle.fleet_model.specs.declared.parts.Pair.{Pair}
use Rattle.fleet_model.specs.declared.tables.Tables.{Tables}
use Rattle.fleet_model.proofs.PeriodMinutes.{last_in, some_minutes}
use Rattle.dual_bound.specs.Prices.{AreCharges, ArePrices, rent_of}
use Rattle.dual_bound.specs.declared.prices.Prices.{Prices}
use Rattle.dual_bound.proofs.Charges.{no_rise}
use Rattle.dual_bound.proofs.NoCharges.{none_proper}
use Rattle.presolve.specs.Reasons.{IsReason, reason_price, reason_rent}
use Rattle.presolve.specs.declared.rule.Rule.{Rule}
use Rattle.presolve.specs.declared.rule.Rule.TheVariants as rule

pub rent_is : (t : Tables) (why : Rule) (p : Pair) (prices : Prices) → IsReason t why p prices → (f : ℕ) → f < fleets_in t → rent_of prices f ≡ reason_rent why (fleet_by t p) f
rent_is t why p prices reason f known = rw reason.rents (get_or-list_below (reason_rent why (fleet_by t p)) (fleets_in t) f (pos 0) known)

-- a number, or else 0
one_or_none : (b : Bool) → (pos 0 ≤ℤ (if b then pos 1 else pos 0)) × ((if b then pos 1 else pos 0) ≤ℤ pos 1)
one_or_none true = (omega (arith, ints), omega (arith, ints))
one_or_none false = (omega (arith, ints), omega (arith, ints))

less_or_none : (b : Bool) → (negsuc 0 ≤ℤ (if b then negsuc 0 else pos 0)) × ((if b then negsuc 0 else pos 0) ≤ℤ pos 0)
less_or_none true = (omega (arith, ints), omega (arith, ints))
less_or_none false = (omega (arith, ints), omega (arith, ints))

rent_small : (why : Rule) (own f : ℕ) → (pos 0 ≤ℤ reason_rent why own f) × (reason_rent why own f ≤ℤ pos 1)
rent_small rule.NoArrival own f = (omega (arith, ints), omega (arith, ints))
rent_small rule.NoDeparture own f = (omega (arith, ints), omega (arith, ints))
rent_small rule.TooFewAircraft own f = one_or_none (f == own)

price_small : (t : Tables) (why : Rule) (p : Pair) (f s m : ℕ) → (negsuc 0 ≤ℤ reason_price t why p f s m) × (reason_price t why p f s m ≤ℤ pos 1)
price_small t rule.NoArrival p f s m = let small = one_or_none ((f == fleet_by t p) && (s == (leg_of t p.leg).from)) in (omega (arith, ints, small), omega (arith, ints, small))
price_small t rule.NoDeparture p f s m = let small = less_or_none ((f == fleet_by t p) && (s == (leg_of t p.leg).to)) in (omega (arith, ints, small), omega (arith, ints, small))
price_small t rule.TooFewAircraft p f s m = let small = one_or_none ((f == fleet_by t p) && nat_le m (departure t p)) in (omega (arith, ints, small), omega (arith, ints, small))

-- a price of 1 until a minute never rises
falls : (b c d : Bool) → (d ≡ true → c ≡ true) → (if b && d then pos 1 else pos 0) ≤ℤ (if b && c then pos 1 else pos 0)
falls b c false h = none b (b && c)
  where
    none : (b x : Bool) → (if b && false then pos 1 else pos 0) ≤ℤ (if x then pos 1 else pos 0)
    none true true = omega (arith, ints)
    none true false = omega (arith, ints)
    none false true = omega (arith, ints)
    none false false = omega (arith, ints)
falls b c true h = rw (h refl) (omega (arith, ints))

never_rises : (t : Tables) (why : Rule) (p : Pair) (f s m : ℕ) → reason_price t why p f s (m + 1) ≤ℤ reason_price t why p f s m
never_rises t rule.NoArrival p f s m = omega (arith, ints)
never_rises t rule.NoDeparture p f s m = omega (arith, ints)
never_rises t rule.TooFewAircraft p f s m = falls (f == fleet_by t p) (nat_le m (departure t p)) (nat_le (m + 1) (departure t p)) (λ e. grind (arith, nat_tests))

-- over the end of the period it rises by the rent
rises_by_rent : (b c d : Bool) → (if b && c then pos 1 else pos 0) ≤ℤ ((if b && d then pos 1 else pos 0) +ℤ (if b then pos 1 else pos 0))
rises_by_rent true true true = omega (arith, ints)
rises_by_rent true true false = omega (arith, ints)
rises_by_rent true false true = omega (arith, ints)
rises_by_rent true false false = omega (arith, ints)
rises_by_rent false c d = omega (arith, ints)

overnight : (t : Tables) (why : Rule) (p : Pair) (f s : ℕ) → reason_price t why p f s 0 ≤ℤ (reason_price t why p f s (last_of t) +ℤ reason_rent why (fleet_by t p) f)
overnight t rule.NoArrival p f s = omega (arith, ints)
overnight t rule.NoDeparture p f s = omega (arith, ints)
overnight t rule.TooFewAircraft p f s = rises_by_rent (f == fleet_by t p) (nat_le 0 (departure t p)) (nat_le (last_of t) (departure t p))

pub reason_is_proper : (t : Tables) (why : Rule) (p : Pair) (prices : Prices) → IsReason t why p prices → ArePrices t prices
reason_is_proper t why p prices reason = record {
  scale = record { some = omega (arith, ints, reason.scale); within = omega (arith, ints, reason.scale) };
  within = record {
    rents = λ f known. record {
      some = omega (arith, ints, rent_is t why p prices reason f known, (rent_small why (fleet_by t p) f).0);
      within = omega (arith, ints, rent_is t why p prices reason f known, (rent_small why (fleet_by t p) f).1);
    };
    each = λ f s m known there early. record {
      no_less = omega (arith, ints, reason.each_price f s m known there early, (price_small t why p f s m).0);
      no_more = omega (arith, ints, reason.each_price f s m known there early, (price_small t why p f s m).1);
    };
    charges = charges;
  };
  fall = record {
    each = λ f s m known there early.
        no_rise t prices charges s m there (omega (arith, early)) _ _ (omega (arith, ints, reason.each_price f s (m + 1) known there early, reason.each_price f s m known there (omega arith), never_rises t why p f s m));
  };
  rise = record {
    each = λ f s known there.
        no_rise t prices charges s (last_of t) there (last_in t) _ _
        (omega (arith, ints, reason.each_price f s 0 known there (some_minutes t), reason.each_price f s (last_of t) known there (last_in t), rent_is t why p prices reason f known, overnight t why p f s));
  };
}
  where
    charges : AreCharges t prices
    charges = none_proper t prices reason.no_charges
