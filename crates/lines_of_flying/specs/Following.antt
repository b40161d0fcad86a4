-- The leg that follows a leg beside given pairs.
use Rattle.std.specs.Prelude.{◌≡◌, ◌≢◌, ℕ, ◌+◌, ◌%◌, ◌<◌, true, List}
use Rattle.fleet_model.specs.declared.parts.Connection.{Connection}
use Rattle.fleet_model.specs.declared.tables.Tables.{Tables}
use Rattle.fleet_model.specs.Schedule.{leg_of, legs_in}
use Rattle.lines_of_flying.specs.ground_turns.FirstOut.{departure_place, free_landings, free_need, is_free_departure, landing_place}
use Rattle.lines_of_flying.specs.ground_turns.Maps.{HasTurn, arrivals_of}

-- the station where a leg lands
abbrev pub landing_at : Tables → ℕ → ℕ
landing_at t l = (leg_of t l).to

-- the place of the departure that follows a free landing: as many places on from its own as aircraft are there before,
-- going round
unfoldable pub next_place : Tables → List ℕ → ℕ → List Connection → ℕ → ℕ
next_place t a f given l =
    (landing_place t a f given (landing_at t l) l + free_need t a f given (landing_at t l)) % free_landings t a f given (landing_at t l)

-- the free departure at that place
pub record IsFirstOutNext (t : Tables) (a : List ℕ) (f : ℕ) (given : List Connection) (l q : ℕ) : Type 0 where
  pub known : q < legs_in t
  pub free : is_free_departure t a f given (landing_at t l) q ≡ true
  pub place : departure_place t a f given (landing_at t l) q ≡ next_place t a f given l

-- the leg that follows: its partner where a given pair has one, else the free departure at that place
pub record Follows (t : Tables) (a : List ℕ) (f : ℕ) (given : List Connection) (l q : ℕ) : Type 0 where
  pub partner : arrivals_of given l ≢ 0 → HasTurn given (record { arriving = l; departing = q })
  pub first_out : arrivals_of given l ≡ 0 → IsFirstOutNext t a f given l q
