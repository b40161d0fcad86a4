-- A line has no number in the columns that it doesn't meet.
use Rattle.std.proofs.Common.{◌≡◌, ℕ, ◌+◌, ◌<◌, ◌≤◌, Bool, true, false, ◌==◌, ◌&&◌, ◌||◌, ℤ, pos, ◌-ℤ◌, List, length, get_or, map, set, All, refl, sym, ◌∙◌, ap, subst, arith}
use Rattle.std.proofs.lemmas.List.{get_or-map, get_or_past}
use Rattle.std.proofs.lemmas.Bool.Decides.{nat_tests}
use Rattle.sums.specs.Places.{list_below}
use Rattle.fleet_model.specs.declared.parts.Pair.{Pair}
use Rattle.fleet_model.specs.declared.tables.Tables.{Tables}
use Rattle.fleet_model.specs.Schedule.{fleet_by, leg_of}
use Rattle.fleet_model.specs.Times.{departure, ready_minute}
use Rattle.frac_row.specs.Row.{number_of}
use Rattle.frac_row.specs.declared.row.FracRow.{FracRow}
use Rattle.frac_row.specs.Lines.{IsFilledRow}
use Rattle.frac_row.proofs.FilledRows.{filled_more, filled_none, filled_past}
use Rattle.lp_rows.specs.declared.kinds.Column.{Column}
use Rattle.lp_rows.specs.declared.kinds.Column.TheVariants.{Flight, Ground, Room, Slack}
use Rattle.lp_rows.specs.declared.kinds.Line.{Line}
use Rattle.lp_rows.specs.declared.kinds.Line.TheVariants.{Cover, Balance, Count, Parking}
use Rattle.lp_rows.specs.declared.kinds.Node.{Node}
use Rattle.lp_rows.specs.Entries.{IsColumn, comes_to_node, entry_of, gets_arc, is_in_node, leaves_node, one_if, right_side_of, same_node}
use Rattle.lp_rows.specs.Meeting.{HasPair, line_meets, meets_at, touched_by, touching}
use Rattle.lp_rows.specs.Layout.{Starts}
use Rattle.lp_rows.specs.Program.{line_numbers}
use Rattle.lp_rows.specs.Staying.{passing_below}
use Rattle.lp_rows.proofs.HeldLines.{column_number}
use Rattle.lp_rows.proofs.PassingNumbers.{at_place, behind, from_place, next_behind, no_more, none_between, placed}

-- the pairs of columns are those of the tables
has_pair : (t : Tables) (starts : Starts) (column : Column) → IsColumn t starts column → HasPair t column
has_pair t starts (Flight p) known = known
has_pair t starts (Ground a) known = tt
has_pair t starts (Slack f) known = tt
has_pair t starts (Room p) known = tt

pub have_pairs : (t : Tables) (starts : Starts) (columns : List Column) → All (IsColumn t starts) columns → All (HasPair t) columns
have_pairs t starts columns known k d below = has_pair t starts (get_or columns k d) (known k d below)

-- tests of a fleet and a station in either of which a column doesn't lie
one_fails : (f s a : Bool) → (f && (s || a)) ≡ false → (x : Bool) → (f && (s && x)) ≡ false
one_fails false s a e x = refl
one_fails true false a e x = refl
one_fails true true a e x = absurd (cc e)

other_fails : (f s a : Bool) → (f && (s || a)) ≡ false → (x : Bool) → (f && (a && x)) ≡ false
other_fails false s a e x = refl
other_fails true s false e x = refl
other_fails true false true e x = absurd (cc e)
other_fails true true true e x = absurd (cc e)

first_fails : (s x : Bool) → (s || s) ≡ false → (s && x) ≡ false
first_fails false x e = refl
first_fails true x e = absurd (cc e)

pub turned : (a b : ℕ) → (a == b) ≡ (b == a)
turned a b = grind (arith, nat_tests)

arc_elsewhere : (f : Bool) (a n : ℕ) → (f && ((a == n) || (a == n))) ≡ false → (x : Bool) → (f && ((n == a) && x)) ≡ false
arc_elsewhere f a n e x = subst (λ s. (f && (s && x)) ≡ false) (turned a n) (one_fails f (a == n) (a == n) e x)

none_less_none : (a b : Bool) → a ≡ false → b ≡ false → (one_if a -ℤ one_if b) ≡ pos 0
none_less_none a b none no_other = rw (none, no_other) refl

leaves_elsewhere : (t : Tables) (starts : Starts) (n : Node) (p : Pair) → line_meets (Balance n) (touched_by t (Flight p)) ≡ false → leaves_node t starts n p ≡ false
leaves_elsewhere t starts n p e = one_fails (n.fleet == fleet_by t p) ((leg_of t p.leg).from == n.station) ((leg_of t p.leg).to == n.station) e (is_in_node t (starts n.fleet n.station) n.place (departure t p))

comes_elsewhere : (t : Tables) (starts : Starts) (n : Node) (p : Pair) → line_meets (Balance n) (touched_by t (Flight p)) ≡ false → comes_to_node t starts n p ≡ false
comes_elsewhere t starts n p e = other_fails (n.fleet == fleet_by t p) ((leg_of t p.leg).from == n.station) ((leg_of t p.leg).to == n.station) e (is_in_node t (starts n.fleet n.station) n.place (ready_minute t p))

no_number : (t : Tables) (starts : Starts) (line : Line) (column : Column) → line_meets line (touched_by t column) ≡ false → entry_of t starts line column ≡ pos 0
no_number t starts (Cover l) (Flight p) e = rw e refl
no_number t starts (Cover l) (Ground a) e = refl
no_number t starts (Cover l) (Slack f) e = refl
no_number t starts (Cover l) (Room p) e = refl
no_number t starts (Balance n) (Flight p) e = none_less_none (comes_to_node t starts n p) (leaves_node t starts n p) (comes_elsewhere t starts n p e) (leaves_elsewhere t starts n p e)
no_number t starts (Balance n) (Ground a) e = none_less_none (gets_arc starts n a) (same_node n a) (arc_elsewhere (n.fleet == a.fleet) a.station n.station e _) (arc_elsewhere (n.fleet == a.fleet) a.station n.station e _)
no_number t starts (Balance n) (Slack f) e = refl
no_number t starts (Balance n) (Room p) e = refl
no_number t starts (Count f) (Flight p) e = rw e refl
no_number t starts (Count f) (Ground a) e = rw e refl
no_number t starts (Count f) (Slack g) e = rw e refl
no_number t starts (Count f) (Room p) e = refl
no_number t starts (Parking p) (Flight q) e = refl
no_number t starts (Parking p) (Ground a) e = rw (first_fails _ _ e) refl
no_number t starts (Parking p) (Slack f) e = refl
no_number t starts (Parking p) (Room q) e = rw (first_fails _ _ e) refl

-- a row that is filled up to each column that its line line_meets
module _ (t : Tables) (starts : Starts) (columns : List Column) (line : Line) where
  abbrev passes : ℕ → Bool
  passes = meets_at (map (touched_by t) columns) line

  abbrev next : ℕ → ℕ
  next place = from_place passes (length columns) place

  abbrev pub number : ℕ → ℤ
  number k = get_or (line_numbers t starts columns line) k (pos 0)

  abbrev pub IsFilledTo : FracRow → ℕ → Type 0
  IsFilledTo row place = IsFilledRow row number (length columns + 1) (next place)

  not_met : (k : ℕ) → k < length columns → passes k ≡ false → number k ≡ pos 0
  not_met k below e =
      sym (column_number (entry_of t starts line) columns (right_side_of t line) k (Slack 0) below)
      ∙ no_number t starts line (get_or columns k (Slack 0)) (subst (λ x. line_meets line x ≡ false) (get_or-map (touched_by t) columns k (Slack 0) (touching 0 0 0 0) below) e)

  pub begun : (row : FracRow) → row ≡ record { numbers = list_below (λ column. pos 0) (length columns + 1); den = pos 1 } → IsFilledTo row 0
  begun row zeros =
      filled_past row number (length columns + 1) 0 (next 0) (filled_none row number (length columns + 1) zeros) (omega arith)
      (λ k ge lt. not_met k (omega (arith, lt, no_more passes (length columns) 0)) (none_between passes (length columns) 0 k (omega arith) lt))

  -- of the columns that are met
  module _ (met : List ℕ) (are : met ≡ passing_below passes (length columns)) where
    is_next : (place : ℕ) → place < length met → next place ≡ get_or met place 0
    is_next place within = at_place passes (length columns) place (rw are at within) ∙ ap (λ xs. get_or xs place 0) (sym are)

    pub met_below : (place : ℕ) → place < length met → get_or met place 0 < length columns
    met_below place within = let here = placed passes (length columns) place (rw are at within) in rw are here.below

    pub zeros_behind : (row : FracRow) (place : ℕ) → place < length met → IsFilledTo row place → (k : ℕ) → get_or met place 0 ≤ k → number_of row k ≡ pos 0
    zeros_behind row place within h k ge = h.zeros k (omega (arith, is_next place within, ge))

    pub gone_on : (row new : FracRow) (place : ℕ) (z : ℤ) (d : Column) → place < length met → IsFilledTo row place → z ≡ entry_of t starts line (get_or columns (get_or met place 0) d)
        → new ≡ record { numbers = set row.numbers (get_or met place 0) z; den = row.den } → IsFilledTo new (place + 1)
    gone_on row new place z d within h is e =
        let at = is_next place within in
        let inside : place < length (passing_below passes (length columns)) = rw are at within in
        filled_past new number (length columns + 1) (next place + 1) (next (place + 1))
        (filled_more row new number (length columns + 1) (next place) z h (omega (arith, met_below place within, at))
        (is ∙ column_number (entry_of t starts line) columns (right_side_of t line) (get_or met place 0) d (met_below place within) ∙ ap number (sym at))
        (e ∙ ap (λ k. record { numbers = set row.numbers k z; den = row.den }) (sym at)))
        (next_behind passes (length columns) place inside)
        (λ k ge lt. not_met k (omega (arith, lt, no_more passes (length columns) (place + 1))) (none_between passes (length columns) (place + 1) k (behind passes (length columns) place k inside ge) lt))

    pub all_met : (row : FracRow) (place : ℕ) → length met ≤ place → IsFilledTo row place → IsFilledRow row number (length columns + 1) (length columns)
    all_met row place past h = subst (IsFilledRow row number (length columns + 1)) (get_or_past (passing_below passes (length columns)) place (length columns) (rw are at past)) h
