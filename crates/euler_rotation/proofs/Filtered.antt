-- What a loop keeps of a list, entry by entry.
use Rattle.std.proofs.Common.{◌≡◌, ℕ, ◌+◌, ◌<◌, Bool, true, false, List, [], ◌∷◌, ◌++◌, cond, length, get_or, take, sym, ◌∙◌, ap}
use Rattle.std.specs.List.{filter}
use Rattle.std.proofs.lemmas.List.{append-nil}
use Rattle.std.proofs.lemmas.List.Elements.{filter_more}

pub kept_more : {X : Type 0} (p : X → Bool) (xs now more : List X) (i : ℕ) (d : X) → i < length xs → now ≡ filter p (take i xs) → more ≡ now ++ get_or xs i d ∷ [] → p (get_or xs i d) ≡ true → more ≡ filter p (take (i + 1) xs)
kept_more p xs now more i d within is pushed passes =
    pushed ∙ ap (λ ys. ys ++ get_or xs i d ∷ []) is ∙ ap (λ b. filter p (take i xs) ++ cond b (get_or xs i d ∷ []) []) (sym passes) ∙ sym (filter_more p xs i d within)

pub kept_still : {X : Type 0} (p : X → Bool) (xs now : List X) (i : ℕ) (d : X) → i < length xs → now ≡ filter p (take i xs) → p (get_or xs i d) ≡ false → now ≡ filter p (take (i + 1) xs)
kept_still p xs now i d within is fails =
    is ∙ sym (append-nil (filter p (take i xs))) ∙ ap (λ b. filter p (take i xs) ++ cond b (get_or xs i d ∷ []) []) (sym fails) ∙ sym (filter_more p xs i d within)
