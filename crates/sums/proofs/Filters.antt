-- Lists of what passes two tests.
use Rattle.std.proofs.Common.{◌≡◌, Bool, true, false, ◌&&◌, if◌then◌else◌, List, [], ◌∷◌, refl, sym, ◌∙◌, ap}
use Rattle.std.specs.List.{filter}

-- what passes two tests passes one and then the other
both_first : {X : Type 0} (h p q : X → Bool) (x : X) (xs : List X) → h x ≡ (p x && q x) → filter h xs ≡ filter q (filter p xs)
    → (b : Bool) → p x ≡ b → filter h (x ∷ xs) ≡ filter q (filter p (x ∷ xs))
both_first h p q x xs both rest true e =
    ap (λ c. if c then x ∷ filter h xs else filter h xs) (both ∙ ap (λ c. c && q x) e)
    ∙ ap (λ ys. if q x then x ∷ ys else ys) rest
    ∙ ap (λ c. filter q (if c then x ∷ filter p xs else filter p xs)) (sym e)
both_first h p q x xs both rest false e =
    ap (λ c. if c then x ∷ filter h xs else filter h xs) (both ∙ ap (λ c. c && q x) e)
    ∙ rest
    ∙ ap (λ c. filter q (if c then x ∷ filter p xs else filter p xs)) (sym e)

pub filter_both : {X : Type 0} (h p q : X → Bool) → ((x : X) → h x ≡ (p x && q x)) → (xs : List X) → filter h xs ≡ filter q (filter p xs)
filter_both h p q both [] = refl
filter_both h p q both (x ∷ xs) = both_first h p q x xs (both x) (filter_both h p q both xs) (p x) refl
