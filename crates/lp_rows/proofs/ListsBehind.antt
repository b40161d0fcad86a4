-- Steps and ends of loops that put lists or entries behind those so far.
use Rattle.std.proofs.Common.{◌≡◌, ℕ, suc, ◌+◌, ◌<◌, ◌≤◌, List, [], ◌∷◌, ◌++◌, length, get_or, map, take, refl, ap, ◌∙◌, append_assoc, arith}
use Rattle.std.proofs.lemmas.List.{map_more, take_all}
use Rattle.lp_rows.specs.Layout.{concat_below}
use Rattle.lp_rows.proofs.Built.{AreBuilt, none_built}

-- one list more
pub one_list_behind : {X : Type 0} (g : ℕ → List X) (n : ℕ) (old now more : List X) → now ≡ old ++ concat_below g n → more ≡ now ++ g n → more ≡ old ++ concat_below g (n + 1)
one_list_behind g n old now more is pushed =
    pushed ∙ ap (λ xs. xs ++ g n) is ∙ append_assoc old (concat_below g n) (g n) ∙ ap (λ m. old ++ concat_below g m) (next n)
  where
    next : (n : ℕ) → suc n ≡ n + 1
    next n = omega arith

-- where a loop over numbers ends
pub ends_at : (n end all : ℕ) → n ≤ end → end ≤ n → end ≡ all → n ≡ all
ends_at n end all before after is = omega arith

-- all lists
pub all_lists_behind : {X : Type 0} (g : ℕ → List X) (n all : ℕ) (old now : List X) → n ≡ all → now ≡ old ++ concat_below g n → now ≡ old ++ concat_below g all
all_lists_behind g n all old now end is = is ∙ ap (λ m. old ++ concat_below g m) end

-- no entry yet
pub none_so_far : {X : Type 0} (P : ℕ → X → Type 0) (d : X) (xs : List X) → xs ≡ [] → AreBuilt P d xs 0
none_so_far P d xs e = rw e (none_built P d)

-- one value more
pub one_value_more : {X Y : Type 0} (f : X → Y) (xs : List X) (d : X) (now more : List Y) (i : ℕ) (y : Y) → i < length xs → now ≡ map f (take i xs) → more ≡ now ++ y ∷ [] → y ≡ f (get_or xs i d) → more ≡ map f (take (i + 1) xs)
one_value_more f xs d now more i y within is pushed value =
    pushed ∙ ap (λ ys. ys ++ y ∷ []) is ∙ ap (λ z. map f (take i xs) ++ z ∷ []) value ∙ map_more_back f xs i d within
  where
    map_more_back : {X Y : Type 0} (f : X → Y) (xs : List X) (i : ℕ) (d : X) → i < length xs → map f (take i xs) ++ f (get_or xs i d) ∷ [] ≡ map f (take (i + 1) xs)
    map_more_back f xs i d within = rw (map_more f xs i d within)

-- all values
pub all_values : {X Y : Type 0} (f : X → Y) (xs : List X) (now : List Y) (i : ℕ) → length xs ≤ i → now ≡ map f (take i xs) → now ≡ map f xs
all_values f xs now i end is = is ∙ ap (map f) (take_all i xs end)

-- .. behind an old list
pub one_value_behind : {X Y : Type 0} (f : X → Y) (xs : List X) (d : X) (old now more : List Y) (i : ℕ) (y : Y) → i < length xs → now ≡ old ++ map f (take i xs) → more ≡ now ++ y ∷ [] → y ≡ f (get_or xs i d) → more ≡ old ++ map f (take (i + 1) xs)
one_value_behind f xs d old now more i y within is pushed value =
    pushed ∙ ap (λ ys. ys ++ y ∷ []) is ∙ append_assoc old (map f (take i xs)) (y ∷ []) ∙ ap (λ ys. old ++ ys) (one_value_more f xs d _ _ i y within refl refl value)

pub all_values_behind : {X Y : Type 0} (f : X → Y) (xs : List X) (old now : List Y) (i : ℕ) → length xs ≤ i → now ≡ old ++ map f (take i xs) → now ≡ old ++ map f xs
all_values_behind f xs old now i end is = is ∙ ap (λ ys. old ++ map f ys) (take_all i xs end)

-- one list more, and all, where none was before
pub one_list_next : {X : Type 0} (g : ℕ → List X) (n : ℕ) (now more : List X) → now ≡ concat_below g n → more ≡ now ++ g n → more ≡ concat_below g (n + 1)
one_list_next g n now more is pushed = one_list_behind g n [] now more is pushed
