-- The pair part of a point goes by the columns of pairs alone.
use Rattle.std.proofs.Common.{◌≡◌, ℕ, ◌-◌, ◌*◌, ◌<◌, Bool, true, false, if◌then◌else◌, List, length, get_or, All, refl, sym, ◌∙◌, ap, subst, inl, inr, arith}
use Rattle.std.proofs.lemmas.Bool.{cases_lt}
use Rattle.std.proofs.lemmas.List.{get_or_past}
use Rattle.std.proofs.lemmas.List.Elements.{All-append, All-map}
use Rattle.std.specs.List.{range_with_len}
use Rattle.sums.proofs.Naturals.{as_a_sum, times_below}
use Rattle.fleet_model.specs.declared.parts.Pair.{Pair}
use Rattle.fleet_model.specs.declared.tables.Tables.{Tables}
use Rattle.fleet_model.specs.Kept.{Domains, pairs_kept}
use Rattle.fleet_model.specs.Schedule.{IsPair, fleets_in}
use Rattle.lp_rows.specs.declared.kinds.Column.{Column}
use Rattle.lp_rows.specs.declared.kinds.Column.TheVariants.{Flight, Ground, Room, Slack}
use Rattle.lp_rows.specs.Layout.{Starts, all_arcs, all_parks, pair_at_column, program_columns}
use Rattle.lp_rows.specs.Points.{column_at, pair_part, same_column, value_of}
use Rattle.lp_rows.proofs.ColumnPlaces.{behind, behind_pairs, flight_there, pairs_within}
use Rattle.lp_rows.proofs.Places.{IsKept, columns_are_kept, value_there}

pub of_test : (k : ℕ) (b : Bool) (x w : ℕ) → x ≡ k * w → ◌≡◌ {A = ℕ} (if b then x else 0) (k * (if b then w else 0))
of_test k true x w same = same
of_test k false x w same = omega arith

-- no entry of a list stands for the pair, nor what stands past its end
no_flight : (p : Pair) (columns : List Column) (k : ℕ) → All (λ c. same_column (Flight p) c ≡ false) columns → same_column (Flight p) (get_or columns k (Slack 0)) ≡ false
no_flight p columns k none = elim (cases_lt k (length columns)) [
  | inl below ↦ none k (Slack 0) below
  | inr past ↦ ap (same_column (Flight p)) (get_or_past columns k (Slack 0) past)
]

no_flight_behind : (t : Tables) (keeps : Domains) (starts : Starts) (p : Pair) (k : ℕ) → same_column (Flight p) (get_or (behind t keeps starts) k (Slack 0)) ≡ false
no_flight_behind t keeps starts p k =
    let P = λ (c : Column). same_column (Flight p) c ≡ false in
    no_flight p (behind t keeps starts) k
    (All-append P _ _ (All-map P Ground (all_arcs t keeps starts) (λ j d below. refl))
    (All-append P _ _ (All-map P Slack (range_with_len 0 (fleets_in t)) (λ j d below. refl)) (All-map P Room (all_parks t) (λ j d below. refl))))

module _ (t : Tables) (keeps : Domains) (starts : Starts) where
  abbrev cols : List Column
  cols = program_columns t keeps starts

  -- where two points agree on pairs but for a factor, so do their pair parts
  pub same_parts : (k : ℕ) (x y : ℕ → ℕ) → ((c : ℕ) → c < pairs_kept t keeps → x c ≡ k * y c) → (p : Pair) → pair_part cols x p ≡ k * pair_part cols y p
  same_parts k x y same p =
      times_below k (λ c. if same_column (Flight p) (column_at cols c) then x c else 0) (λ c. if same_column (Flight p) (column_at cols c) then y c else 0) (length cols)
      (λ c within. elim (cases_lt c (pairs_kept t keeps)) [
        | inl pair ↦ of_test k (same_column (Flight p) (column_at cols c)) (x c) (y c) (same c pair)
        | inr behind ↦ none (same_column (Flight p) (column_at cols c)) (x c) (y c)
            (ap (λ j. same_column (Flight p) (column_at cols j)) (as_a_sum c (pairs_kept t keeps) behind) ∙ ap (same_column (Flight p)) (behind_pairs t keeps starts (c - pairs_kept t keeps)) ∙ no_flight_behind t keeps starts p (c - pairs_kept t keeps))
      ])
    where
      none : (b : Bool) (x y : ℕ) → b ≡ false → ◌≡◌ {A = ℕ} (if b then x else 0) (k * (if b then y else 0))
      none false x y e = omega arith
      none true x y e = cc

  -- a pair's part is what stands at its column
  pub part_at : (y : ℕ → ℕ) (c : ℕ) → c < pairs_kept t keeps → pair_part cols y (pair_at_column t keeps c) ≡ y c
  part_at y c below = ap (λ k. pair_at y k) (sym (flight_there t keeps starts c below)) ∙ value_there t keeps starts y c (omega (arith, below, pairs_within t keeps starts))
    where
      pair_at : (ℕ → ℕ) → Column → ℕ
      pair_at y k = value_of cols y k

  pub is_pair : (c : ℕ) → c < pairs_kept t keeps → IsPair t (pair_at_column t keeps c)
  is_pair c below = (subst (λ k. IsKept t keeps starts k) (flight_there t keeps starts c below) (columns_are_kept t keeps starts c (Slack 0) (omega (arith, below, pairs_within t keeps starts)))).0
