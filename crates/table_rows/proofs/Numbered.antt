-- Names that differ are numbered by their places.
use Rattle.std.proofs.Common.{◌≡◌, ◌≢◌, ℕ, suc, ◌+◌, ◌<◌, List, [], ◌∷◌, ◌++◌, length, take, map, slice_index_or, get_or, Bool, true, false, not, if◌then◌else◌, bytes_eq, AllPairs, refl, sym, ap, ◌∙◌, arith}
use Rattle.std.proofs.lemmas.List.{get_or-take, get_or_default, length-take-le, map_push, take_more}
use Rattle.std.proofs.lemmas.Slice.Eq.{bytes_eq-Decides}
use Rattle.table_rows.specs.Names.{is_among}

-- texts that differ are told apart
pub bytes_eq-differ : (a b : List ℕ) → a ≢ b → bytes_eq a b ≡ false
bytes_eq-differ a b differ = by_test (bytes_eq a b) refl
  where
    by_test : (t : Bool) → bytes_eq a b ≡ t → bytes_eq a b ≡ false
    by_test false e = e
    by_test true e = absurd (differ ((bytes_eq-Decides a b).0 e))

-- a name that none of a list is, isn't among them
pub none_among : {E : Type 0} (name_of : E → List ℕ) (entries : List E) (name : List ℕ) → ((k : ℕ) (d : E) → k < length entries → name_of (slice_index_or entries k d) ≢ name)
    → is_among name (map name_of entries) ≡ false
none_among name_of [] name none = refl
none_among name_of (entry ∷ entries) name none =
    rw (bytes_eq-differ name (name_of entry) (λ same. none 0 entry (omega arith) (sym same)))
    (none_among name_of entries name (λ k d within. none (suc k) d (omega arith)))

pub names_push : {E : Type 0} (name_of : E → List ℕ) (entries : List E) (place : ℕ) (entry : E) (name : List ℕ) (names new : List (List ℕ)) (added : Bool)
    → AllPairs (λ a b. name_of a ≢ name_of b) entries → place < length entries → entry ≡ get_or entries place entry → name ≡ name_of entry
    → names ≡ map name_of (take place entries) → added ≡ not (is_among name names) → new ≡ (if added then names ++ name ∷ [] else names)
    → new ≡ map name_of (take (place + 1) entries)
names_push name_of entries place entry name names new added differ within found is before fresh grown =
    let apart : is_among name names ≡ false = rw (before, is) (none_among name_of (take place entries) (name_of entry) (λ k d below same.
    let inside : k < place = omega (arith, length-take-le place entries (omega arith)) in
    differ k place entry inside within (ap name_of (get_or_default entries k entry d (omega arith)) ∙ ap name_of (sym (get_or-take place entries k d inside)) ∙ same ∙ ap name_of found))) in
    let new_one : added ≡ true = fresh ∙ ap not apart in
    let longer : new ≡ names ++ name ∷ [] = rw new_one at grown in
    longer ∙ ap (λ ns. ns ++ name ∷ []) before ∙ ap (λ n. map name_of (take place entries) ++ n ∷ []) (is ∙ ap name_of found)
    ∙ sym (map_push name_of (take place entries) (get_or entries place entry)) ∙ ap (map name_of) (sym (take_more entries place entry within))
