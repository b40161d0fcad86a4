-- What the nights of a wait are, by how long the aircraft is on the ground.
use Rattle.std.proofs.Common.{◌≡◌, ℕ, ◌+◌, ◌-◌, ◌*◌, ◌≤◌, Bool, true, false, not, ◌&&◌, if◌then◌else◌, List, [], ◌∷◌, replicate, refl, sym, ◌∙◌, ap, arith}
use Rattle.std.proofs.lemmas.Bool.{le-ltb}
use mathlib.Core.Bool.{and-false, and-true, false≢true}
use Rattle.fleet_model.specs.Period.{day_of_minute}
use Rattle.fleet_model.specs.declared.parts.Connection.{Connection}
use Rattle.fleet_model.specs.declared.tables.Tables.{Tables}
use Rattle.fleet_model.specs.Schedule.{leg_on, station_of}
use Rattle.fleet_model.specs.Times.{nights_of}
use Rattle.lines_of_flying.specs.ground_turns.Laws.{AllAreMaintained, MaintainedAreThere, NoneIsShort, TwoAreLong}
use Rattle.lines_of_flying.specs.ground_turns.Nights.{at_maintenance, can_maintain, is_short, maintained_in, night_of_stay, nights_at_maintenance, nights_in_turn, nights_in_turns, stay_of}
use Rattle.lines_of_flying.specs.ground_turns.Turns.{nights_waited, ready_at, station_at, wait_of}
use Rattle.lines_of_flying.specs.declared.ground_turns.nights.Night.{Night}
use Rattle.lines_of_flying.specs.declared.ground_turns.nights.Night.TheVariants as night
use Rattle.lines_of_flying.proofs.ground_turns.MaintainedNights.{count_append, count_cons, repeated}
use Rattle.lines_of_flying.proofs.ground_turns.Rounds.{bit}

-- a night of the wait is for maintenance exactly where the station maintains and the stay is long enough
pub stay_maintains : (t : Tables) (f : ℕ) (turn : Connection)
    → can_maintain t (night_of_stay t f turn) ≡ ((station_of t (station_at t turn)).maintenance && not (is_short t f turn))
stay_maintains t f turn = by_stay (is_short t f turn)
  where
    by_stay : (b : Bool) → can_maintain t (if b then night.Short (station_at t turn) else night.At (station_at t turn)) ≡ ((station_of t (station_at t turn)).maintenance && not b)
    by_stay true = sym (and-false (station_of t (station_at t turn)).maintenance)
    by_stay false = sym (and-true (station_of t (station_at t turn)).maintenance)

-- nights for maintenance are at maintenance stations
pub maintained_are_there : MaintainedAreThere
maintained_are_there t [] = omega arith
maintained_are_there t (x ∷ xs) = omega (arith, count_cons (can_maintain t) x xs, count_cons (at_maintenance t) x xs, one x, maintained_are_there t xs)
  where
    one : (x : Night) → bit (can_maintain t x) ≤ bit (at_maintenance t x)
    one night.Aloft = omega arith
    one (night.At station) = omega arith
    one (night.Short station) = omega arith

pub none_is_short : NoneIsShort
none_is_short t f turn none = le-ltb (stay_of t f turn) t.settings.least_night (omega (arith, none))

-- the nights of a wait that isn't short
alike : (t : Tables) (f : ℕ) (turn : Connection) → is_short t f turn ≡ false → can_maintain t (night_of_stay t f turn) ≡ at_maintenance t (night_of_stay t f turn)
alike t f turn long = by_stay (is_short t f turn) long
  where
    by_stay : (b : Bool) → b ≡ false → can_maintain t (if b then night.Short (station_at t turn) else night.At (station_at t turn)) ≡ at_maintenance t (if b then night.Short (station_at t turn) else night.At (station_at t turn))
    by_stay false e = refl
    by_stay true e = absurd (false≢true (sym e))

in_turn : (t : Tables) (f : ℕ) (turn : Connection) → is_short t f turn ≡ false → maintained_in t (nights_in_turn t f turn) ≡ nights_at_maintenance t (nights_in_turn t f turn)
in_turn t f turn long =
    count_append (can_maintain t) (replicate (nights_of t (leg_on turn.arriving f)) night.Aloft) (replicate (nights_waited t f turn) (night_of_stay t f turn))
    ∙ ap (λ n. n + maintained_in t (replicate (nights_waited t f turn) (night_of_stay t f turn)))
    (repeated (can_maintain t) (nights_of t (leg_on turn.arriving f)) night.Aloft ∙ sym (repeated (at_maintenance t) (nights_of t (leg_on turn.arriving f)) night.Aloft))
    ∙ ap (λ n. nights_at_maintenance t (replicate (nights_of t (leg_on turn.arriving f)) night.Aloft) + n)
    (repeated (can_maintain t) (nights_waited t f turn) (night_of_stay t f turn)
    ∙ ap (λ b. nights_waited t f turn * bit b) (alike t f turn long)
    ∙ sym (repeated (at_maintenance t) (nights_waited t f turn) (night_of_stay t f turn)))
    ∙ sym (count_append (at_maintenance t) (replicate (nights_of t (leg_on turn.arriving f)) night.Aloft) (replicate (nights_waited t f turn) (night_of_stay t f turn)))

pub all_are_maintained : AllAreMaintained
all_are_maintained t f [] none = refl
all_are_maintained t f (turn ∷ turns) none =
    omega (
      arith,
      count_append (can_maintain t) (nights_in_turn t f turn) (nights_in_turns t f turns),
      count_append (at_maintenance t) (nights_in_turn t f turn) (nights_in_turns t f turns),
      in_turn t f turn (none_is_short t f turn none),
      all_are_maintained t f turns none,
    )

-- between the first two day starts of a wait lies a day
pub two_are_long : TwoAreLong
two_are_long t f turn two = le-ltb (stay_of t f turn) t.settings.least_night (omega (arith, t.in_range.settings_fit.least_night, long (ready_at t f turn) (wait_of t f turn) two))
  where
    long : (ready wait : ℕ) → 2 ≤ day_of_minute (ready + wait) - day_of_minute ready → 1440 ≤ wait
    long ready wait two = omega (arith, two)
