-- The beginnings of kept tours, and the order in which they are visited.
use Rattle.std.specs.Prelude.{ℕ, zero, suc, ◌-◌, Bool, not, ◌==◌, ◌&&◌, if◌then◌else◌, List, [], ◌∷◌, ◌++◌, length, slice_index, slice_index_or}
use Rattle.std.specs.List.{filter, flat_map, list_all, list_any}
use Rattle.sums.specs.Below.{count_below}
use Rattle.sums.specs.Places.{list_below}
use Rattle.fleet_model.specs.declared.parts.Connection.{Connection}
use Rattle.fleet_model.specs.declared.tables.Tables.{Tables}
use Rattle.fleet_model.specs.Counts.{weights_of}
use Rattle.fleet_model.specs.Schedule.{leg_of, period_of}
use Rattle.fleet_model.specs.Use.{stand_of}
use Rattle.lines_of_flying.specs.ground_turns.Maps.{turn_after}
use Rattle.lines_of_flying.specs.ground_turns.Nights.{nights_in_turns}
use Rattle.lines_of_flying.specs.ground_turns.Turns.{station_at, waits_at}
use Rattle.lines_of_flying.specs.declared.ground_turns.nights.Night.{Night}
use Rattle.euler_rotation.specs.Often.{stays_below}

-- the turn from a leg to another
abbrev pub turn_to : ℕ → ℕ → Connection
turn_to l m = record { arriving = l; departing = m }

-- the turns from each leg of a list to the next
abbrev pub turns_along : List ℕ → List Connection
turns_along legs = list_below (turn_after legs) (length legs - 1)

-- the nights between the legs of a list
abbrev pub nights_along : Tables → ℕ → List ℕ → List Night
nights_along t f legs = nights_in_turns t f (turns_along legs)

-- a moment of the wait at which none of the fleet's aircraft stands at the station; a turn is clean where there is none
abbrev pub is_bare_wait : Tables → List ℕ → ℕ → Connection → ℕ → Bool
is_bare_wait t a f turn m = waits_at t f turn m && (stand_of t (weights_of a) f (station_at t turn) m == 0)

unfoldable pub is_clean : Tables → List ℕ → ℕ → Connection → Bool
is_clean t a f turn = count_below (is_bare_wait t a f turn) (period_of t) == 0

-- where the leg of a pair arrives its partner departs, and its partner departs nowhere else
abbrev pub keeps_pair : Connection → Connection → Bool
keeps_pair turn pair = if pair.arriving == turn.arriving then pair.departing == turn.departing else not (pair.departing == turn.departing)

-- the second leg departs from where the first lands
abbrev pub meets : Tables → Connection → Bool
meets t turn = (leg_of t turn.arriving).to == (leg_of t turn.departing).from

-- a clean turn at a station, which keeps the pairs
abbrev pub may_turn : Tables → List ℕ → ℕ → List Connection → ℕ → ℕ → Bool
may_turn t a f pairs l m = meets t (turn_to l m) && is_clean t a f (turn_to l m) && list_all (keeps_pair (turn_to l m)) pairs

-- the leg is one of the list
abbrev pub has_leg : List ℕ → ℕ → Bool
has_leg legs l = list_any (λ k. k == l) legs

-- behind these legs another is no repetition, and no so many nights one after another, among those between the legs,
-- are all without maintenance
abbrev pub is_open : Tables → ℕ → ℕ → List ℕ → ℕ → Bool
is_open t f days legs l = not (has_leg legs l) && stays_below t days 0 (nights_along t f (legs ++ l ∷ []))

-- the leg may follow in a prefix, of some legs and a last one
abbrev pub may_follow : Tables → List ℕ → ℕ → List Connection → ℕ → List ℕ → ℕ → ℕ → Bool
may_follow t a f pairs days front last l = may_turn t a f pairs last l && is_open t f days (front ++ last ∷ []) l

-- a prefix and then those that extend it, by so many legs less one at most, each before those that extend it, and in the
-- order of the legs that follow
abbrev pub preorder_from : Tables → List ℕ → ℕ → List Connection → ℕ → List ℕ → ℕ → List ℕ → ℕ → List (List ℕ)
preorder_from t a f pairs days order zero front last = []
preorder_from t a f pairs days order (suc n) front last =
    (front ++ last ∷ []) ∷ flat_map (preorder_from t a f pairs days order n (front ++ last ∷ [])) (filter (may_follow t a f pairs days front last) order)

-- all prefixes that begin with the order's first leg
unfoldable pub preorder : Tables → List ℕ → ℕ → List Connection → ℕ → List ℕ → List (List ℕ)
preorder t a f pairs days order = preorder_from t a f pairs days order (length order) [] (slice_index order 0)

-- an entry, counted from 0, and by its number, counted from 1; the entry number 0 is empty
abbrev pub prefix_entry : List (List ℕ) → ℕ → List ℕ
prefix_entry entries k = slice_index_or entries k []

abbrev pub numbered_entries : List (List ℕ) → ℕ → List ℕ
numbered_entries entries zero = []
numbered_entries entries (suc k) = prefix_entry entries k
