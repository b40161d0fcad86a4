-- The fields of a record, one after the other.
use Rattle.std.proofs.Common.{◌≡◌, ◌+◌, ◌++◌, ◌∷◌, [], List, ℕ, zero, suc, Some, None, ap, refl, take, add-one}
use Rattle.csv.specs.Records.{field_at}

one_more : (fields : List (List ℕ)) (place : ℕ) (field : List ℕ) → Some field ≡ field_at fields place → take (suc place) fields ≡ take place fields ++ field ∷ []
unfolding field_at
one_more [] place field found = cc found
one_more (first ∷ rest) zero field found = let same : first ≡ field = cc found in ap (λ f. f ∷ []) same
one_more (first ∷ rest) (suc place) field found = ap (λ fields. first ∷ fields) (one_more rest place field found)

-- one field more
pub take_one_more : (fields : List (List ℕ)) (place : ℕ) (field : List ℕ) → Some field ≡ field_at fields place → take (place + 1) fields ≡ take place fields ++ field ∷ []
take_one_more fields place field found = rw add-one (one_more fields place field found)

-- no field more
pub take_all : (fields : List (List ℕ)) (place : ℕ) → None ≡ field_at fields place → take place fields ≡ fields
unfolding field_at
take_all [] zero none = refl
take_all [] (suc place) none = refl
take_all (first ∷ rest) zero none = cc none
take_all (first ∷ rest) (suc place) none = ap (λ fields. first ∷ fields) (take_all rest place none)
