-- What may follow what in a list of steps, in one of charges, and in one of weights.
use Rattle.std.specs.Prelude.{◌==◌, ◌&&◌, ◌||◌, nat_lt, Bool, not, if◌then◌else◌, Option, Some, None, pos}
use Rattle.std.specs.Ordering.{int_eq}
use Rattle.dual_bound.specs.declared.mixed.Weight.{Weight}
use Rattle.dual_bound.specs.declared.prices.Charge.{Charge}
use Rattle.dual_bound.specs.declared.prices.PriceStep.{PriceStep}

-- steps are of one fleet at one station
abbrev pub same_place : PriceStep → PriceStep → Bool
same_place a b = (a.fleet == b.fleet) && (a.station == b.station)

-- a step's place comes before another's, by fleet and then by station
abbrev pub step_place_before : PriceStep → PriceStep → Bool
step_place_before a b = nat_lt a.fleet b.fleet || ((a.fleet == b.fleet) && nat_lt a.station b.station)

-- a step may follow: at its place a later minute and another value, at the next place minute 0
abbrev pub step_follows : Option PriceStep → PriceStep → Bool
step_follows None step = step.minute == 0
step_follows (Some before) step =
    if same_place before step then nat_lt before.minute step.minute && not (int_eq before.value step.value)
    else step_place_before before step && (step.minute == 0)

-- a charge may follow: it isn't 0, and it is of a later station, or of a later day there
abbrev pub charge_follows : Option Charge → Charge → Bool
charge_follows None entry = not (int_eq entry.charge (pos 0))
charge_follows (Some before) entry =
    (nat_lt before.station entry.station || ((before.station == entry.station) && nat_lt before.day entry.day)) && not (int_eq entry.charge (pos 0))

-- a weight may follow: it isn't 0, and its pair comes later, by leg and then by choice
abbrev pub weight_follows : Option Weight → Weight → Bool
weight_follows None entry = not (int_eq entry.weight (pos 0))
weight_follows (Some before) entry =
    (nat_lt before.leg entry.leg || ((before.leg == entry.leg) && nat_lt before.choice entry.choice)) && not (int_eq entry.weight (pos 0))
