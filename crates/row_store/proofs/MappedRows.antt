-- The rows of a table, however they are held.
use Rattle.std.proofs.Common.{◌≡◌, ℕ, ◌<◌, List, [], ◌∷◌, ◌++◌, length, map, get_or, set, sym, ◌∙◌, ap, subst}
use Rattle.std.proofs.lemmas.List.{length-map, map_push, map-set, get_or-map}
use Rattle.frac_row.specs.declared.row.FracRow.{FracRow}
use Rattle.row_store.specs.Table.{no_row, row_at}

pub same_length : {R : Type 0} (full : R → FracRow) (rows : List R) (table : List FracRow) → table ≡ map full rows → length table ≡ length rows
same_length full rows table e = ap length e ∙ length-map rows full

pub read_at : {R : Type 0} (full : R → FracRow) (rows : List R) (table : List FracRow) (place : ℕ) (read : R) → table ≡ map full rows → place < length table → read ≡ get_or rows place read → full read ≡ row_at table place
read_at full rows table place read e lt is =
    ap full is ∙ sym (get_or-map full rows place read no_row (subst (λ n. place < n) (same_length full rows table e) lt)) ∙ ap (λ t. row_at t place) (sym e)

pub pushed : {R : Type 0} (full : R → FracRow) (rows : List R) (row : R) (table new : List FracRow) → table ≡ map full rows → new ≡ map full (rows ++ row ∷ []) → new ≡ table ++ full row ∷ []
pushed full rows row table new e same = same ∙ map_push full rows row ∙ ap (λ t. t ++ full row ∷ []) (sym e)

pub written : {R : Type 0} (full : R → FracRow) (rows : List R) (place : ℕ) (row : R) (table new : List FracRow) → table ≡ map full rows → new ≡ map full (set rows place row) → new ≡ set table place (full row)
written full rows place row table new e same = same ∙ map-set full rows place row ∙ ap (λ t. set t place (full row)) (sym e)
