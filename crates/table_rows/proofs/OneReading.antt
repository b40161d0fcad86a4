-- The records below a header read in one way at most, have one first fault at most, and one of the two.
use Rattle.std.proofs.Common.{◌≡◌, ◌≢◌, ◌⊎◌, ℕ, zero, suc, ◌+◌, ◌<◌, ◌≤◌, List, [], ◌∷◌, ◌++◌, length, take, map, slice_index_or, Bool, true, false, bytes_eq, Result, Ok, Err, refl, sym, ap, subst, ◌∙◌, inl, inr, add-one, arith}
use Rattle.std.proofs.lemmas.Slice.Eq.{bytes_eq-Decides}
use Rattle.std.proofs.lemmas.Bool.{cases_lt}
use mathlib.Core.Bool.{false≢true}
use Rattle.std.proofs.lemmas.List.{length-append, take_all, take_more_same}
use Rattle.table_rows.specs.Rows.{Fields, FrontReads, IsUnder, LacksHeader, RowsBad, RowsRead, TableBad, TableReads, record_at}
use Rattle.fleet_model.specs.declared.refusals.TheConstants.{WRONG_HEADER}
use Rattle.table_rows.proofs.FrontReading.{front_none, front_push}

-- two texts are the same or differ
pub same_text : (a b : List ℕ) → (a ≡ b) ⊎ (a ≢ b)
same_text a b = by_test (bytes_eq a b) refl
  where
    by_test : (t : Bool) → bytes_eq a b ≡ t → (a ≡ b) ⊎ (a ≢ b)
    by_test true is = inl ((bytes_eq-Decides a b).0 is)
    by_test false is = inr (λ same. false≢true (sym is ∙ (bytes_eq-Decides a b).1 same))

-- two records have the same fields or differ
same_record : (a b : Fields) → (a ≡ b) ⊎ (a ≢ b)
same_record [] [] = inl refl
same_record [] (y ∷ ys) = inr (λ same. cc)
same_record (x ∷ xs) [] = inr (λ same. cc)
same_record (x ∷ xs) (y ∷ ys) = elim (same_text x y) [
  | inl first ↦ elim (same_record xs ys) [
    | inl rest ↦ inl (cc (first, rest))
    | inr differ ↦ inr (λ same. let rest : xs ≡ ys = cc in differ rest)
  ]
  | inr differ ↦ inr (λ same. let first : x ≡ y = cc in differ first)
]

-- a file has its header or lacks it
pub header_or_not : (header : Fields) (records : List Fields) → ((rest : List Fields) × IsUnder header records rest) ⊎ LacksHeader header records
header_or_not header [] = inr (λ rest under. cc)
header_or_not header (first ∷ rest) = elim (same_record first header) [
  | inl same ↦ inl (rest, ap (λ r. r ∷ rest) same)
  | inr differ ↦ inr (λ other under. let same : first ≡ header = cc in differ same)
]

-- what stands below a header is one list
under_same : (header : Fields) (records a b : List Fields) → IsUnder header records a → IsUnder header records b → a ≡ b
under_same header records a b under_a under_b = cc

-- the first of some entries
pub first_of_some : {X : Type 0} (xs : List X) → 0 < length xs → X
first_of_some [] some = absurd (omega arith)
first_of_some (x ∷ xs) some = x

module _ {E : Type 0} (key : E → List ℕ) (read : List (List ℕ) → Fields → Result E ℕ) where
  -- two ways to read the first records agree as far as both go
  pub front_same : (rows : List Fields) (a b : List E) → FrontReads key read rows a → FrontReads key read rows b → (n : ℕ) → n ≤ length a → n ≤ length b → take n a ≡ take n b
  front_same rows a b reads_a reads_b zero in_a in_b = refl
  front_same rows a b reads_a reads_b (suc n) in_a in_b =
      let d = first_of_some a (omega arith) in
      let within_a : n < length a = omega arith in
      let within_b : n < length b = omega arith in
      let before = front_same rows a b reads_a reads_b n (omega arith) (omega arith) in
      let at_a = reads_a.each n d within_a in
      let at_b = reads_b.each n d within_b in
      let same : read (map key (take n a)) (record_at rows n) ≡ read (map key (take n b)) (record_at rows n) = ap (λ es. read (map key es) (record_at rows n)) before in
      let here : slice_index_or a n d ≡ slice_index_or b n d = cc in
      rw (← add-one n) (take_more_same a b n d within_a within_b before here)

  -- where the first records read as entries, none of these records has a fault
  pub front_no_fault : (rows : List Fields) (a b : List E) (kind : ℕ) → FrontReads key read rows a → FrontReads key read rows b → length b < length a
      → read (map key b) (record_at rows (length b)) ≡ Err kind → ⊥
  front_no_fault rows a b kind reads_a reads_b shorter fault =
      let d = first_of_some a (omega arith) in
      let same : take (length b) a ≡ b = front_same rows a b reads_a reads_b (length b) (omega arith) (omega arith) ∙ take_all (length b) b (omega arith) in
      let at = reads_a.each (length b) d shorter in
      let here : read (map key b) (record_at rows (length b)) ≡ Ok (slice_index_or a (length b) d) = ap (λ es. read (map key es) (record_at rows (length b))) (sym same) ∙ at in
      cc

  pub rows_read_same : (rows : List Fields) (a b : List E) → RowsRead key read rows a → RowsRead key read rows b → a ≡ b
  rows_read_same rows a b ra rb =
      sym (take_all (length rows) a (omega (arith, ra.all))) ∙ front_same rows a b ra.reads rb.reads (length rows) (omega (arith, ra.all)) (omega (arith, rb.all)) ∙ take_all (length rows) b (omega (arith, rb.all))

  pub rows_read_no_fault : (rows : List Fields) (entries : List E) (row kind : ℕ) → RowsRead key read rows entries → RowsBad key read rows row kind → ⊥
  rows_read_no_fault rows entries row kind reads bad = front_no_fault rows entries bad.before kind reads.reads bad.reads (omega (arith, reads.all, bad.within)) bad.fault

  pub rows_bad_same : (rows : List Fields) (row other kind other_kind : ℕ) → RowsBad key read rows row kind → RowsBad key read rows other other_kind → (row ≡ other) × (kind ≡ other_kind)
  rows_bad_same rows row other kind other_kind a b = elim (cases_lt (length a.before) (length b.before)) [
    | inl shorter ↦ absurd (front_no_fault rows b.before a.before kind b.reads a.reads shorter a.fault)
    | inr no_shorter ↦ elim (cases_lt (length b.before) (length a.before)) [
      | inl longer ↦ absurd (front_no_fault rows a.before b.before other_kind a.reads b.reads longer b.fault)
      | inr no_longer ↦
          let same : a.before ≡ b.before = sym (take_all (length b.before) a.before (omega arith)) ∙ front_same rows a.before b.before a.reads b.reads (length b.before) (omega arith) (omega arith) ∙ take_all (length b.before) b.before (omega arith) in
          let fault : read (map key a.before) (record_at rows (length a.before)) ≡ Err other_kind = rw same b.fault in
          let kinds : kind ≡ other_kind = cc in
          (omega (arith, ap length same, a.number, b.number), kinds)
    ]
  ]

  -- what a record reads as, or its fault
  answer_of : (keys : List (List ℕ)) (fields : Fields) → ((entry : E) × (read keys fields ≡ Ok entry)) ⊎ ((kind : ℕ) × (read keys fields ≡ Err kind))
  answer_of keys fields = by_answer (read keys fields) refl
    where
      by_answer : (answer : Result E ℕ) → read keys fields ≡ answer → ((entry : E) × (read keys fields ≡ Ok entry)) ⊎ ((kind : ℕ) × (read keys fields ≡ Err kind))
      by_answer (Ok entry) is = inl (entry, is)
      by_answer (Err kind) is = inr (kind, is)

  -- the records read as some entries, or one of them has the first fault
  abbrev pub RowsEnd : List Fields → Type 0
  RowsEnd rows = ((entries : List E) × RowsRead key read rows entries) ⊎ ((row : ℕ) × (kind : ℕ) × RowsBad key read rows row kind)

  rest_end : (rows : List Fields) (n : ℕ) (entries : List E) → FrontReads key read rows entries → n + length entries ≡ length rows → RowsEnd rows
  rest_end rows zero entries reads all = inl (entries, record { all = omega arith; reads = reads })
  rest_end rows (suc n) entries reads all = elim (answer_of (map key entries) (record_at rows (length entries))) [
    | inl found ↦ rest_end rows n (entries ++ found.0 ∷ []) (front_push key read rows entries found.0 reads found.1) (omega (arith, length-append entries (found.0 ∷ [])))
    | inr found ↦ inr (length entries + 2, found.0, record { before = entries; within = omega arith; reads = reads; fault = found.1; number = refl })
  ]

  pub rows_end_exists : (rows : List Fields) → RowsEnd rows
  rows_end_exists rows = rest_end rows (length rows) [] (front_none key read rows) (omega arith)

  pub table_reads_same : (header : Fields) (records : List Fields) (a b : List E) → TableReads key read header records a → TableReads key read header records b → a ≡ b
  table_reads_same header records a b ra rb =
      let rest = under_same header records ra.rest rb.rest ra.under rb.under in
      rows_read_same rb.rest a b (subst (λ rows. RowsRead key read rows a) rest ra.rows) rb.rows

  pub table_reads_no_fault : (header : Fields) (records : List Fields) (entries : List E) (row kind : ℕ) → TableReads key read header records entries → TableBad key read header records row kind → ⊥
  table_reads_no_fault header records entries row kind reads (inl headless) = headless.0 reads.rest reads.under
  table_reads_no_fault header records entries row kind reads (inr bad) =
      let rest = under_same header records reads.rest bad.rest reads.under bad.under in
      rows_read_no_fault bad.rest entries row kind (subst (λ rows. RowsRead key read rows entries) rest reads.rows) bad.rows

  pub table_bad_same : (header : Fields) (records : List Fields) (row other kind other_kind : ℕ) → TableBad key read header records row kind → TableBad key read header records other other_kind
      → (row ≡ other) × (kind ≡ other_kind)
  table_bad_same header records row other kind other_kind (inl a) (inl b) = (a.1 ∙ sym b.1, a.2 ∙ sym b.2)
  table_bad_same header records row other kind other_kind (inl a) (inr b) = absurd (a.0 b.rest b.under)
  table_bad_same header records row other kind other_kind (inr a) (inl b) = absurd (b.0 a.rest a.under)
  table_bad_same header records row other kind other_kind (inr a) (inr b) =
      let rest = under_same header records a.rest b.rest a.under b.under in
      rows_bad_same b.rest row other kind other_kind (subst (λ rows. RowsBad key read rows row kind) rest a.rows) b.rows

  -- the records of a file read as some entries, or the file has a first fault
  abbrev pub TableEnd : Fields → List Fields → Type 0
  TableEnd header records = ((entries : List E) × TableReads key read header records entries) ⊎ ((row : ℕ) × (kind : ℕ) × TableBad key read header records row kind)

  pub table_end_exists : (header : Fields) (records : List Fields) → TableEnd header records
  table_end_exists header records = elim (header_or_not header records) [
    | inl found ↦ elim (rows_end_exists found.0) [
      | inl all ↦ inl (all.0, record { rest = found.0; under = found.1; rows = all.1 })
      | inr fault ↦ inr (fault.0, fault.1, inr (record { rest = found.0; under = found.1; rows = fault.2 }))
    ]
    | inr lacks ↦ inr (1, WRONG_HEADER, inl (lacks, refl, refl))
  ]
