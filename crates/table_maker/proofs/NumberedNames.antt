-- Names by their numbers, of which no two are the same, and tables whose rows are given by number.
use Rattle.std.proofs.Common.{◌≡◌, ℕ, ◌<◌, List, [], ◌∷◌, length, slice_index_or, bytes_eq, false, true, nat_lt, Some, Result, Ok, refl, sym, ◌∙◌, arith}
use Rattle.std.specs.List.{position_or_len}
use Rattle.std.proofs.lemmas.Bool.{lt-ltb}
use Rattle.std.proofs.lemmas.List.Folds.{list_any_none}
use Rattle.std.proofs.lemmas.List.FromFn.{take-map-range_with_len}
use Rattle.std.proofs.lemmas.List.Sums.{position_or_len_is}
use Rattle.sums.specs.Places.{list_below}
use Rattle.sums.proofs.Places.{get_or-list_below, length-list_below}
use Rattle.table_rows.specs.Names.{is_among, number_of_name}
use Rattle.table_rows.specs.Rows.{Fields, TableReads}
use Rattle.table_rows.proofs.FrontReading.{bytes_eq-self}
use Rattle.table_rows.proofs.Numbered.{bytes_eq-differ}
use Rattle.sums.proofs.Lists.{map-list_below}

-- no two of the first names are the same
pub record Differ (name_at : ℕ → List ℕ) (n : ℕ) : Type 0 where
  pub each : (j k : ℕ) → j < n → k < n → name_at j ≡ name_at k → j ≡ k

-- a name isn't among those before it
pub fresh : (name_at : ℕ → List ℕ) (n k : ℕ) → Differ name_at n → k < n → is_among (name_at k) (list_below name_at k) ≡ false
fresh name_at n k differ within = list_any_none (bytes_eq (name_at k)) (list_below name_at k) (λ j d below.
    let inside : j < k = omega (arith, length-list_below name_at k, below) in
    rw (get_or-list_below name_at k j d inside) (bytes_eq-differ (name_at k) (name_at j) (λ same.
    let one = differ.each k j within (omega arith) same in absurd (omega (arith, one)))))

-- each name has its number
pub numbered : (name_at : ℕ → List ℕ) (n j : ℕ) → Differ name_at n → j < n → number_of_name (name_at j) (list_below name_at n) ≡ Some j
numbered name_at n j differ within =
    let names = list_below name_at n in
    let count = length-list_below name_at n in
    let inside : j < length names = omega (arith, count) in
    let before : (k : ℕ) → k < j → bytes_eq (name_at j) (slice_index_or names k []) ≡ false = λ k below.
    (let there : k < n = omega arith in
    rw (get_or-list_below name_at n k [] there) (bytes_eq-differ (name_at j) (name_at k) (λ same.
    let one = differ.each j k within there same in absurd (omega (arith, one))))) in
    let at : bytes_eq (name_at j) (slice_index_or names j []) ≡ true = rw (get_or-list_below name_at n j [] within) (bytes_eq-self (name_at j)) in
    let first : position_or_len (bytes_eq (name_at j)) names ≡ j = position_or_len_is (bytes_eq (name_at j)) names j [] (omega arith) before (λ _. at) in
    let test : nat_lt j (length names) ≡ true = lt-ltb j (length names) inside in
    rw (first, test) refl

-- rows by number read as entries by number, where each reads below the keys of those before it
pub rows_read : {E : Type 0} (key : E → List ℕ) (read : List (List ℕ) → Fields → Result E ℕ) (header : Fields) (records : List Fields) (fields_at : ℕ → Fields) (entry_at : ℕ → E) (n : ℕ)
    → records ≡ header ∷ list_below fields_at n → ((k : ℕ) → k < n → read (list_below (λ j. key (entry_at j)) k) (fields_at k) ≡ Ok (entry_at k))
    → TableReads key read header records (list_below entry_at n)
rows_read key read header records fields_at entry_at n are each = record {
  rest = list_below fields_at n;
  under = are;
  rows = record {
    all = length-list_below fields_at n ∙ sym (length-list_below entry_at n);
    reads = record {
      each = λ k d within.
          let inside : k < n = omega (arith, length-list_below entry_at n, within) in
          rw (take-map-range_with_len entry_at 0 n k (omega arith), map-list_below key entry_at k, get_or-list_below fields_at n k [] inside, get_or-list_below entry_at n k d inside)
          (each k inside);
    };
  };
}
