-- How many nights pass between those for maintenance.
use Rattle.std.specs.Prelude.{◌≡◌, ℕ, suc, ◌+◌, ◌<◌, ◌≤◌, Bool, IsTrue, true, false, Option, Some, None, ◌&&◌, nat_lt, if◌then◌else◌, List, [], ◌∷◌, length, slice_index_or}
use Rattle.fleet_model.specs.declared.tables.Tables.{Tables}
use Rattle.lines_of_flying.specs.ground_turns.Nights.{can_maintain}
use Rattle.lines_of_flying.specs.declared.ground_turns.nights.Night.{Night}
use Rattle.lines_of_flying.specs.declared.ground_turns.nights.Night.TheVariants as night

-- so many nights without maintenance, and then one night more
abbrev pub one_night_on : Tables → ℕ → Night → ℕ
one_night_on t n night = if can_maintain t night then 0 else suc n

-- so many, and then some nights more
abbrev pub nights_since : Tables → ℕ → List Night → ℕ
nights_since t n [] = n
nights_since t n (night ∷ nights) = nights_since t (one_night_on t n night) nights

-- they never come to so many days
abbrev pub stays_below : Tables → ℕ → ℕ → List Night → Bool
stays_below t days n [] = true
stays_below t days n (night ∷ nights) = nat_lt (one_night_on t n night) days && stays_below t days (one_night_on t n night) nights

-- of some nights one after another, as many as there are days, one is for maintenance
pub record OneMaintains (t : Tables) (nights : List Night) (days first : ℕ) : Type 0 where
  pub after : ℕ
  pub within : after < days
  pub maintained : IsTrue (can_maintain t (slice_index_or nights (first + after) night.Aloft))

-- so it is of any so many
pub record MaintainedOften (t : Tables) (nights : List Night) (days : ℕ) : Type 0 where
  pub each : (first : ℕ) → first + days ≤ length nights → OneMaintains t nights days first

-- what comes of some nights more: so many without maintenance at their end, or they come to the days
pub record StayBelow (t : Tables) (days n : ℕ) (nights : List Night) (since : ℕ) : Type 0 where
  pub below : stays_below t days n nights ≡ true
  pub since_is : since ≡ nights_since t n nights
  pub few : since < days

abbrev pub GoesOn : Tables → ℕ → ℕ → List Night → Option ℕ → Type 0
GoesOn t days n nights None = stays_below t days n nights ≡ false
GoesOn t days n nights (Some since) = StayBelow t days n nights since
