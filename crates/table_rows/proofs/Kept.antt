-- What records that read keep: what each entry has, that keys differ, and that there are few.
use Rattle.std.proofs.Common.{◌≡◌, ◌≢◌, ℕ, zero, suc, ◌<◌, ◌≤◌, List, [], length, take, map, slice_index_or, false, bytes_eq, All, AllPairs, Result, Ok, refl, sym, ◌∙◌, arith}
use Rattle.std.proofs.lemmas.List.{get_or-map, get_or-take, length-map, length-take-le}
use Rattle.std.proofs.lemmas.List.Folds.{list_any_at}
use mathlib.Core.Bool.{false≢true}
use Rattle.table_rows.specs.Names.{is_among}
use Rattle.table_rows.specs.Rows.{Fields, FrontReads, record_at}
use Rattle.table_rows.proofs.FrontReading.{bytes_eq-self}
use Rattle.table_rows.proofs.OneReading.{first_of_some}

module _ {E : Type 0} (key : E → List ℕ) (read : List (List ℕ) → Fields → Result E ℕ) where
  -- each entry has what a record that reads as it shows
  pub front_each : (P : E → Type 0) → ((earlier : List (List ℕ)) (fields : Fields) (entry : E) → read earlier fields ≡ Ok entry → P entry)
      → (rows : List Fields) (entries : List E) → FrontReads key read rows entries → All P entries
  front_each P shown rows entries reads = λ k d within. shown (map key (take k entries)) (record_at rows k) (slice_index_or entries k d) (reads.each k d within)

  -- where a record reads only below other keys, no two entries share a key
  pub front_differ : ((earlier : List (List ℕ)) (fields : Fields) (entry : E) → read earlier fields ≡ Ok entry → is_among (key entry) earlier ≡ false)
      → (rows : List Fields) (entries : List E) → FrontReads key read rows entries → AllPairs (λ a b. key a ≢ key b) entries
  front_differ fresh rows entries reads = λ i j d order within same.
      let earlier = take j entries in
      let new = fresh (map key earlier) (record_at rows j) (slice_index_or entries j d) (reads.each j d within) in
      let there : i < length earlier = omega (arith, length-take-le j entries (omega arith)) in
      let at : slice_index_or (map key earlier) i [] ≡ key (slice_index_or entries j d) =
      get_or-map key earlier i d [] there ∙ (rw (get_or-take j entries i d order) same) in
      false≢true (sym new ∙ list_any_at (bytes_eq (key (slice_index_or entries j d))) (map key earlier) i [] (omega (arith, length-map earlier key)) (rw at (bytes_eq-self (key (slice_index_or entries j d)))))

  -- where a record reads only below fewer keys than a limit, there are no more entries than that
  pub front_few : (limit : ℕ) → ((earlier : List (List ℕ)) (fields : Fields) (entry : E) → read earlier fields ≡ Ok entry → length earlier < limit)
      → (rows : List Fields) (entries : List E) → FrontReads key read rows entries → length entries ≤ limit
  front_few limit room rows entries reads = by_last (length entries) refl
    where
      by_last : (n : ℕ) → length entries ≡ n → length entries ≤ limit
      by_last zero none = omega arith
      by_last (suc n) some =
          let d = first_of_some entries (omega arith) in
          let below = room (map key (take n entries)) (record_at rows n) (slice_index_or entries n d) (reads.each n d (omega arith)) in
          omega (arith, length-map (take n entries) key, length-take-le n entries (omega arith), below)
