-- What prefixes are, in plain words, as a statement on the order in which they are visited.
use Rattle.std.specs.Prelude.{◌≡◌, ◌≢◌, ℕ, suc, ◌<◌, ◌⊎◌, ◌↔◌, IsTrue, List, ◌∷◌, ◌++◌, length, slice_index}
use Rattle.fleet_model.specs.declared.parts.Connection.{Connection}
use Rattle.fleet_model.specs.declared.tables.Tables.{Tables}
use Rattle.fleet_model.specs.Schedule.{leg_of}
use Rattle.lines_of_flying.specs.ground_turns.Maps.{turn_at}
use Rattle.lines_of_flying.specs.ground_turns.Turns.{IsClean, station_at}
use Rattle.euler_rotation.specs.Often.{MaintainedOften}
use Rattle.euler_rotation.specs.Prefixes.{has_leg, nights_along, prefix_entry, preorder, turn_to}
use Rattle.euler_rotation.specs.Tours.{IsOrder}

-- the turn has the leg of the pair exactly where it has its partner
abbrev pub AgreesWith : Connection → Connection → Type 0
AgreesWith turn pair = (pair.arriving ≡ turn.arriving) ↔ (pair.departing ≡ turn.departing)

-- a clean turn at a station, with no leg of a pair but beside its partner
pub record IsTurnBeside (t : Tables) (a : List ℕ) (f : ℕ) (pairs : List Connection) (turn : Connection) : Type 0 where
  pub meets : station_at t turn ≡ (leg_of t turn.departing).from
  pub clean : IsClean t a f turn
  pub agrees : (k : ℕ) → k < length pairs → AgreesWith turn (turn_at pairs k)

-- some legs of the order, from its first one on, each once, with such a turn from each to the next and nights between
-- them that come to maintenance often enough
pub record IsPrefix (t : Tables) (a : List ℕ) (f : ℕ) (pairs : List Connection) (days : ℕ) (order legs : List ℕ) : Type 0 where
  pub some : 0 < length legs
  pub begins : slice_index legs 0 ≡ slice_index order 0
  pub own : (k : ℕ) → k < length legs → IsTrue (has_leg order (slice_index legs k))
  pub once : (j k : ℕ) → j < k → k < length legs → slice_index legs j ≢ slice_index legs k
  pub turn : (k : ℕ) → suc k < length legs → IsTurnBeside t a f pairs (turn_to (slice_index legs k) (slice_index legs (suc k)))
  pub maintained : MaintainedOften t (nights_along t f legs) days

-- what is visited are prefixes
abbrev pub EntriesArePrefixes : Type 0
EntriesArePrefixes = (t : Tables) (a : List ℕ) (f : ℕ) (pairs : List Connection) (days : ℕ) (order : List ℕ) (k : ℕ) → 0 < days
    → k < length (preorder t a f pairs days order) → IsPrefix t a f pairs days order (prefix_entry (preorder t a f pairs days order) k)

-- and none of them is visited twice
abbrev pub NoEntryTwice : Type 0
NoEntryTwice = (t : Tables) (a : List ℕ) (f : ℕ) (pairs : List Connection) (days : ℕ) (order : List ℕ) (j k : ℕ) → IsOrder t a f order → j < k
    → k < length (preorder t a f pairs days order) → prefix_entry (preorder t a f pairs days order) j ≢ prefix_entry (preorder t a f pairs days order) k

-- a prefix is one of the entries
pub record IsEntry (entries : List (List ℕ)) (legs : List ℕ) : Type 0 where
  pub place : ℕ
  pub within : place < length entries
  pub is : prefix_entry entries place ≡ legs

-- each prefix is visited
abbrev pub EachPrefixIsEntry : Type 0
EachPrefixIsEntry = (t : Tables) (a : List ℕ) (f : ℕ) (pairs : List Connection) (days : ℕ) (order legs : List ℕ) → 0 < days
    → IsPrefix t a f pairs days order legs → IsEntry (preorder t a f pairs days order) legs

-- a list goes on behind some legs
pub record GoesOnBehind (legs longer : List ℕ) : Type 0 where
  pub rest : List ℕ
  pub some : 0 < length rest
  pub is : longer ≡ legs ++ rest

-- two lists begin with the same legs, and then the first one has a leg that stands earlier in the order
pub record PartsEarlier (order first second : List ℕ) : Type 0 where
  pub same : List ℕ
  pub earlier : ℕ
  pub later : ℕ
  pub less : earlier < later
  pub within : later < length order
  pub first_rest : List ℕ
  pub first_is : first ≡ same ++ slice_index order earlier ∷ first_rest
  pub second_rest : List ℕ
  pub second_is : second ≡ same ++ slice_index order later ∷ second_rest

-- of two entries the later one goes on behind the earlier one, or they part so
abbrev pub EntriesRise : Type 0
EntriesRise = (t : Tables) (a : List ℕ) (f : ℕ) (pairs : List Connection) (days : ℕ) (order : List ℕ) (j k : ℕ) → j < k
    → k < length (preorder t a f pairs days order)
    → GoesOnBehind (prefix_entry (preorder t a f pairs days order) j) (prefix_entry (preorder t a f pairs days order) k)
    ⊎ PartsEarlier order (prefix_entry (preorder t a f pairs days order) j) (prefix_entry (preorder t a f pairs days order) k)
