-- The marks of a path's legs, and the legs of a path.
use Rattle.std.proofs.Common.{◌≡◌, ◌≢◌, ℕ, ◌+◌, ◌<◌, Bool, true, false, ◌||◌, ◌==◌, List, [], ◌∷◌, ◌++◌, map, reverse, length, get_or, set, take, refl, sym, ◌∙◌, ap, arith}
use Rattle.std.proofs.lemmas.Bool.Decides.{nat_tests}
use Rattle.std.proofs.lemmas.List.{get_or-set_other, get_or-set_same, map-append, reverse-append, reverse-reverse, take_more}
use Rattle.std.proofs.lemmas.List.Folds.{list_any-append}
use Rattle.std.proofs.lemmas.Bool.{eqb-true}
use Rattle.sums.proofs.Tests.{by_test, or_false}
use Rattle.euler_rotation.specs.declared.path.Level.{Level}
use Rattle.euler_rotation.specs.Prefixes.{has_leg}
use Rattle.euler_rotation.specs.Walks.{legs_of_path}

-- a leg more
has_more : (legs : List ℕ) (l k : ℕ) → has_leg (legs ++ l ∷ []) k ≡ (has_leg legs k || (l == k))
has_more legs l k = list_any-append (λ j. j == k) legs (l ∷ []) ∙ ap (λ b. has_leg legs k || b) (or_false (l == k))

same_or_not : {X : Type 0} (l k : ℕ) → (l ≡ k → X) → (l ≢ k → X) → X
same_or_not l k yes_same not_same = by_test (l == k) (λ e. yes_same (eqb-true l k e)) (λ e. not_same (other l k e))
  where
    other : (l k : ℕ) → (l == k) ≡ false → l ≢ k
    other l k e = grind (arith, nat_tests)

module _ (used : List Bool) (legs : List ℕ) (l : ℕ) (within : l < length used) where
  pub marks_entered : ((k : ℕ) → k < length used → get_or used k false ≡ has_leg legs k) → (k : ℕ) → k < length used → get_or (set used l true) k false ≡ has_leg (legs ++ l ∷ []) k
  marks_entered marks k lt = same_or_not l k here there
    where
      here : l ≡ k → get_or (set used l true) k false ≡ has_leg (legs ++ l ∷ []) k
      here e = ap (λ j. get_or (set used l true) j false) (sym e) ∙ get_or-set_same used l true false within ∙ sym (has_more legs l k ∙ marked (has_leg legs k) l k e)
        where
          marked : (b : Bool) (l k : ℕ) → l ≡ k → (b || (l == k)) ≡ true
          marked b l k e = grind (arith, nat_tests)

      there : l ≢ k → get_or (set used l true) k false ≡ has_leg (legs ++ l ∷ []) k
      there differ = get_or-set_other used l k true false (λ e. differ (sym e)) ∙ marks k lt ∙ sym (has_more legs l k ∙ as_before (has_leg legs k) l k differ)
        where
          as_before : (b : Bool) (l k : ℕ) → l ≢ k → (b || (l == k)) ≡ b
          as_before b l k differ = grind (arith, nat_tests)

-- ---- the legs of levels that lie the first one first

unfoldable pub legs_in_order : List Level → List ℕ
legs_in_order levels = map (λ (x : Level). x.leg) levels

legs_reversed : (path : List Level) → legs_in_order (reverse path) ≡ legs_of_path path
unfolding legs_in_order
legs_reversed [] = refl
legs_reversed (x ∷ outer) =
    ap (map (λ (y : Level). y.leg)) (reverse-append (x ∷ []) outer) ∙ map-append (λ (y : Level). y.leg) (reverse outer) (x ∷ []) ∙ ap (λ xs. xs ++ x.leg ∷ []) (legs_reversed outer)

pub legs_listed : (levels : List Level) → legs_in_order levels ≡ legs_of_path (reverse levels)
legs_listed levels = ap legs_in_order (sym (reverse-reverse levels)) ∙ legs_reversed (reverse levels)

-- one level more
pub one_leg_more : (levels : List Level) (i : ℕ) (d : Level) (legs : List ℕ) (l : ℕ) → i < length levels → legs ≡ legs_in_order (take i levels) → l ≡ (get_or levels i d).leg → legs ++ l ∷ [] ≡ legs_in_order (take (i + 1) levels)
unfolding legs_in_order
one_leg_more levels i d legs l lt same is =
    ap (λ xs. xs ++ l ∷ []) same ∙ ap (λ k. map (λ (y : Level). y.leg) (take i levels) ++ k ∷ []) is
    ∙ sym (ap (map (λ (y : Level). y.leg)) (take_more levels i d lt) ∙ map-append (λ (y : Level). y.leg) (take i levels) (get_or levels i d ∷ []))
