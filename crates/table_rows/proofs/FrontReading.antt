-- Reading one record more, and that a file reads in one way at most.
use Rattle.std.proofs.Common.{◌≡◌, ℕ, ◌≤◌, List, [], ◌∷◌, ◌++◌, length, map, true, Result, Ok, refl, inl, inr, bytes_eq, arith}
use Rattle.std.proofs.lemmas.Bool.{cases_lt}
use Rattle.std.proofs.lemmas.List.{get_or_append_left, length-append, take-append-le}
use Rattle.std.proofs.lemmas.Bool.Decides.{nat_tests}
use Rattle.std.proofs.Math.Seq.{take-append_seam, get_or-append_seam}
use Rattle.table_rows.specs.Rows.{Fields, FrontReads, record_at}

module _ {E : Type 0} (key : E → List ℕ) (read : List (List ℕ) → Fields → Result E ℕ) where
  pub front_none : (rows : List Fields) → FrontReads key read rows []
  front_none rows = record { each = λ k d within. absurd (omega arith) }

  pub front_push : (rows : List Fields) (entries : List E) (entry : E) → FrontReads key read rows entries
      → read (map key entries) (record_at rows (length entries)) ≡ Ok entry → FrontReads key read rows (entries ++ entry ∷ [])
  front_push rows entries entry reads more = record {
    each = λ k d within. elim (cases_lt k (length entries)) [
      | inl before ↦ let whole : k ≤ length entries = omega arith in rw (take-append-le, get_or_append_left entries (entry ∷ []) d k before) (reads.each k d before)
      | inr past ↦ let last : k ≡ length entries = omega (arith, length-append {A = E}) in rw (last, take-append_seam entries (entry ∷ []), get_or-append_seam entries entry [] d) more
    ];
  }

-- a text is equal to itself
pub bytes_eq-self : (bytes : List ℕ) → bytes_eq bytes bytes ≡ true
bytes_eq-self [] = refl
bytes_eq-self (b ∷ bytes) = grind (arith, nat_tests, bytes_eq-self bytes)
