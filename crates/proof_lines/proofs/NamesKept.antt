-- The names that were read of a list of entries.
use Rattle.std.proofs.Common.{◌≡◌, ℕ, ◌<◌, List, length, map, Result, Ok, Err, sym, ap, subst, ◌∙◌}
use Rattle.std.specs.Prelude.{IfOk}
use Rattle.std.proofs.lemmas.List.{length-map}

module _ {Entry Error : Type 0} (name_of : Entry → List ℕ) (read entries : List Entry) (is : read ≡ entries) where
  pub names_same : (result : Result (List (List ℕ)) Error) → IfOk result (λ names. names ≡ map name_of read) → IfOk result (λ names. names ≡ map name_of entries)
  names_same result = subst (λ list. IfOk result (λ names. names ≡ map name_of list)) is

  pub names_many : (result : Result (List (List ℕ)) Error) → IfOk result (λ names. names ≡ map name_of read) → IfOk result (λ names. length names ≡ length entries)
  names_many (Ok names) told = ap length told ∙ length-map read name_of ∙ ap length is
  names_many (Err error) told = tt

  pub names_fit : (most : ℕ) → length entries < most → (result : Result (List (List ℕ)) Error) → IfOk result (λ names. names ≡ map name_of read) → IfOk result (λ names. length names < most)
  names_fit most few (Ok names) told = subst (λ n. n < most) (sym (ap length told ∙ length-map read name_of ∙ ap length is)) few
  names_fit most few (Err error) told = tt
