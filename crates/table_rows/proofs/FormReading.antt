-- A file with an old or a new header reads in one way at most, has one first fault at most, and one of the two.
use Rattle.std.proofs.Common.{◌≡◌, ◌≢◌, ◌⊎◌, ℕ, Bool, true, false, List, Result, refl, sym, subst, ◌∙◌, inl, inr}
use Rattle.fleet_model.specs.declared.refusals.LoadError.{LoadError}
use Rattle.fleet_model.specs.declared.refusals.TableFile.{TableFile}
use Rattle.fleet_model.specs.declared.refusals.TheConstants.{WRONG_HEADER}
use Rattle.table_rows.specs.Forms.{FormBad, FormReads, IsAllowedForm, LacksForm}
use Rattle.table_rows.specs.Outcome.{IsFirstFault, headless}
use Rattle.table_rows.specs.Rows.{Fields, IsUnder, LacksHeader, TableBad, TableReads}
use Rattle.table_rows.specs.declared.forms.Form.{Form}
use Rattle.table_rows.specs.declared.forms.Form.TheVariants as form
use Rattle.table_rows.proofs.OneReading.{header_or_not, rows_end_exists, table_bad_same, table_reads_no_fault, table_reads_same}

module _ {E : Type 0} (key : E → List ℕ) (read : Form → List (List ℕ) → Fields → Result E ℕ) (header : Form → Fields) (old_allowed : Bool) where
  -- the refusal of a file that lacks an allowed header is its first fault
  pub formless_refused : (file : TableFile) (records : List Fields) (error : LoadError) → LacksForm header old_allowed records → error ≡ headless file
      → IsFirstFault file (FormBad key read header old_allowed records) error
  formless_refused file records error lacks is = rw is (refl, inl (lacks, refl, refl))

module _ {E : Type 0} (key : E → List ℕ) (read : Form → List (List ℕ) → Fields → Result E ℕ) (header : Form → Fields) (old_allowed : Bool) (differ : header form.Old ≢ header form.New) where
  -- a file is in one form
  form_same : (records rest other : List Fields) (a b : Form) → IsUnder (header a) records rest → IsUnder (header b) records other → a ≡ b
  form_same records rest other form.Old form.Old under_a under_b = refl
  form_same records rest other form.Old form.New under_a under_b = absurd (differ (cc))
  form_same records rest other form.New form.Old under_a under_b = absurd (differ (cc))
  form_same records rest other form.New form.New under_a under_b = refl

  pub form_reads_same : (records : List Fields) (a b : List E) → FormReads key read header old_allowed records a → FormReads key read header old_allowed records b → a ≡ b
  form_reads_same records a b ra rb =
      let one = form_same records ra.table.rest rb.table.rest ra.found rb.found ra.table.under rb.table.under in
      table_reads_same key (read rb.found) (header rb.found) records a b (subst (λ f. TableReads key (read f) (header f) records a) one ra.table) rb.table

  pub form_reads_no_fault : (records : List Fields) (entries : List E) (row kind : ℕ) → FormReads key read header old_allowed records entries → FormBad key read header old_allowed records row kind → ⊥
  form_reads_no_fault records entries row kind reads (inl lacks) = lacks.0 reads.found reads.allowed reads.table.rest reads.table.under
  form_reads_no_fault records entries row kind reads (inr bad) =
      let one = form_same records reads.table.rest bad.below.rest reads.found bad.found reads.table.under bad.below.under in
      table_reads_no_fault key (read bad.found) (header bad.found) records entries row kind (subst (λ f. TableReads key (read f) (header f) records entries) one reads.table) (inr bad.below)

  pub form_bad_same : (records : List Fields) (row other kind other_kind : ℕ) → FormBad key read header old_allowed records row kind → FormBad key read header old_allowed records other other_kind
      → (row ≡ other) × (kind ≡ other_kind)
  form_bad_same records row other kind other_kind (inl a) (inl b) = (a.1 ∙ sym b.1, a.2 ∙ sym b.2)
  form_bad_same records row other kind other_kind (inl a) (inr b) = absurd (a.0 b.found b.allowed b.below.rest b.below.under)
  form_bad_same records row other kind other_kind (inr a) (inl b) = absurd (b.0 a.found a.allowed a.below.rest a.below.under)
  form_bad_same records row other kind other_kind (inr a) (inr b) =
      let one = form_same records a.below.rest b.below.rest a.found b.found a.below.under b.below.under in
      let at_b : TableBad key (read b.found) (header b.found) records row kind = subst (λ f. TableBad key (read f) (header f) records row kind) one (inr a.below) in
      table_bad_same key (read b.found) (header b.found) records row other kind other_kind at_b (inr b.below)

  -- the records of a file read as some entries, or the file has a first fault
  abbrev pub FormEnd : List Fields → Type 0
  FormEnd records = ((entries : List E) × FormReads key read header old_allowed records entries) ⊎ ((row : ℕ) × (kind : ℕ) × FormBad key read header old_allowed records row kind)

  found_end : (records rest : List Fields) (found : Form) → IsAllowedForm old_allowed found → IsUnder (header found) records rest → FormEnd records
  found_end records rest found allowed under = elim (rows_end_exists key (read found) rest) [
    | inl all ↦ inl (all.0, record { found = found; allowed = allowed; table = record { rest = rest; under = under; rows = all.1 } })
    | inr fault ↦ inr (fault.0, fault.1, inr (record { found = found; allowed = allowed; below = record { rest = rest; under = under; rows = fault.2 } }))
  ]

  pub form_end_exists : (records : List Fields) → FormEnd records
  form_end_exists records = elim (header_or_not (header form.New) records) [
    | inl new ↦ found_end records new.0 form.New tt new.1
    | inr not_new ↦ by_old old_allowed refl not_new (header_or_not (header form.Old) records)
  ]
    where
      lacking : LacksHeader (header form.New) records → ((IsAllowedForm old_allowed form.Old) → LacksHeader (header form.Old) records) → LacksForm header old_allowed records
      lacking not_new not_old form.Old allowed = not_old allowed
      lacking not_new not_old form.New allowed = not_new

      by_old : (allowed : Bool) → old_allowed ≡ allowed → LacksHeader (header form.New) records
          → ((rest : List Fields) × IsUnder (header form.Old) records rest) ⊎ LacksHeader (header form.Old) records → FormEnd records
      by_old true is not_new (inl old) = found_end records old.0 form.Old is old.1
      by_old true is not_new (inr not_old) = inr (1, WRONG_HEADER, inl (lacking not_new (λ _. not_old), refl, refl))
      by_old false is not_new old = inr (1, WRONG_HEADER, inl (lacking not_new (λ allowed. let wrong : false ≡ true = sym is ∙ allowed in absurd (cc)), refl, refl))
