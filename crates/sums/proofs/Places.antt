-- Lists that are filled place by place, and first places.
use Rattle.std.proofs.Common.{◌≡◌, ℕ, zero, suc, ◌+◌, ◌<◌, ◌≤◌, ◌≢◌, List, [], ◌∷◌, ◌++◌, length, get_or, set, Option, Some, None, refl, sym, ◌∙◌, ap, subst, arith, inl, inr, length-set, add-one, get_or-set_same, get_or-set_other}
use Rattle.std.proofs.lemmas.List.FromFn.{fill_by_all, length-map-range_with_len, get_or-map-range_with_len, map-range_with_len_more}
use Rattle.std.proofs.lemmas.Bool.{cases_lt}
use Rattle.sums.proofs.Naturals.{at_most_0, none_below_0}
use Rattle.sums.specs.Places.{list_below, first_below, or_else, IsFilledBelow}

pub length-list_below : {X : Type 0} (f : ℕ → X) (n : ℕ) → length (list_below f n) ≡ n
length-list_below f n = length-map-range_with_len f 0 n

pub get_or-list_below : {X : Type 0} (f : ℕ → X) (n k : ℕ) (d : X) → k < n → get_or (list_below f n) k d ≡ f k
get_or-list_below f n k d h = get_or-map-range_with_len f 0 n k k d h (omega arith)

pub filled_none : {X : Type 0} (d : X) (f : ℕ → X) (old : List X) → IsFilledBelow d f old old 0
filled_none d f old = record { same_length = refl; filled = λ k h. absurd (none_below_0 k h); kept = λ k h. refl }

pub filled_more : {X : Type 0} (d : X) (f : ℕ → X) (old new : List X) (n : ℕ) (x : X) → IsFilledBelow d f old new n → n < length old → x ≡ f n → IsFilledBelow d f old (set new n x) (n + 1)
filled_more {X} d f old new n x h lt e = record {
  same_length = length-set new n x ∙ h.same_length;
  filled = λ k below. elim (cases_lt k n) [
    | inl less ↦ get_or-set_other new n k x d (differs_below k less) ∙ h.filled k less
    | inr ge ↦ here k (equal k below ge)
  ];
  kept = λ k ge. get_or-set_other new n k x d (differs_above k ge) ∙ h.kept k (omega arith);
}
  where
    differs_below : (k : ℕ) → k < n → k ≢ n
    differs_below k less = omega arith

    differs_above : (k : ℕ) → n + 1 ≤ k → k ≢ n
    differs_above k ge = omega arith

    equal : (k : ℕ) → k < n + 1 → n ≤ k → k ≡ n
    equal k below ge = omega arith

    within : n < length new
    within = rw h.same_length lt

    here : (k : ℕ) → k ≡ n → get_or (set new n x) k d ≡ f k
    here k same = subst (λ i. get_or (set new n x) i d ≡ f i) (sym same) (get_or-set_same new n x d within ∙ e)

pub filled_all : {X : Type 0} (d : X) (f : ℕ → X) (old new : List X) (n : ℕ) → IsFilledBelow d f old new n → length old ≤ n → new ≡ list_below f (length old)
filled_all d f old new n h le = fill_by_all f new (length old) d h.same_length (λ k lt. h.filled k (omega arith))

or_else-some : {X : Type 0} (o other : Option X) (x : X) → o ≡ Some x → or_else o other ≡ Some x
or_else-some (Some y) other x e = e
or_else-some None other x e = cc

-- what is first below k is first below any greater bound
pub first_kept : {X : Type 0} (f : ℕ → Option X) (k n : ℕ) (x : X) → first_below f k ≡ Some x → k ≤ n → first_below f n ≡ Some x
first_kept f k zero x e le = subst (λ i. first_below f i ≡ Some x) (at_most_0 k le) e
first_kept f k (suc n) x e le =
    elim (cases_lt k (suc n)) [
      | inl lt ↦ or_else-some _ _ x (first_kept f k n x e (omega arith))
      | inr ge ↦ let same : k ≡ suc n = omega arith in subst (λ i. first_below f i ≡ Some x) same e
    ]

-- the first place that gives something decides
pub first_found : {X : Type 0} (f : ℕ → Option X) (k n : ℕ) (x : X) → first_below f k ≡ None → f k ≡ Some x → k < n → first_below f n ≡ Some x
first_found f k n x none e lt = first_kept f (suc k) n x (ap (λ o. or_else o (f k)) none ∙ e) (omega arith)

-- nothing is first where nothing is given
pub nothing_at : {X : Type 0} (f : ℕ → Option X) (n k : ℕ) → first_below f n ≡ None → k < n → f k ≡ None
nothing_at f zero k e lt = absurd (omega arith)
nothing_at f (suc n) k e lt =
    elim (cases_lt k n) [
      | inl less ↦ nothing_at f n k (left (first_below f n) (f n) e) less
      | inr ge ↦ let same : k ≡ n = omega arith in subst (λ i. f i ≡ None) (sym same) (right (first_below f n) (f n) e)
    ]
  where
    left : {X : Type 0} (o p : Option X) → or_else o p ≡ None → o ≡ None
    left None p e = refl
    left (Some x) p e = cc

    right : {X : Type 0} (o p : Option X) → or_else o p ≡ None → p ≡ None
    right None p e = e
    right (Some x) p e = cc

pub all_nothing : {X : Type 0} (f : ℕ → Option X) (n : ℕ) → ((k : ℕ) → k < n → f k ≡ None) → first_below f n ≡ None
all_nothing f zero h = refl
all_nothing f (suc n) h = ap (λ o. or_else o (f n)) (all_nothing f n (λ k lt. h k (omega arith))) ∙ h n (omega arith)

-- one place more
pub list_below-more : {X : Type 0} (f : ℕ → X) (n : ℕ) → list_below f (n + 1) ≡ list_below f n ++ f n ∷ []
list_below-more f n = map-range_with_len_more f 0 n n (omega arith)

pub list_below-push : {X : Type 0} (f : ℕ → X) (n : ℕ) (xs : List X) (x : X) → xs ≡ list_below f n → x ≡ f n → xs ++ x ∷ [] ≡ list_below f (n + 1)
list_below-push f n xs x e same = ap (λ ys. ys ++ x ∷ []) e ∙ ap (λ y. list_below f n ++ y ∷ []) same ∙ sym (list_below-more f n)

-- a place whose value is there already
pub filled_kept : {X : Type 0} (d : X) (f : ℕ → X) (old new : List X) (n : ℕ) → IsFilledBelow d f old new n → get_or old n d ≡ f n → IsFilledBelow d f old new (n + 1)
filled_kept {X} d f old new n h e = record {
  same_length = h.same_length;
  filled = λ k below. elim (cases_lt k n) [ inl less ↦ h.filled k less | inr ge ↦ here k (equal k below ge) ];
  kept = λ k ge. h.kept k (omega arith);
}
  where
    equal : (k : ℕ) → k < n + 1 → n ≤ k → k ≡ n
    equal k below ge = omega arith

    here : (k : ℕ) → k ≡ n → get_or new k d ≡ f k
    here k same = subst (λ i. get_or new i d ≡ f i) (sym same) (h.kept n (omega arith) ∙ e)

-- lists of equal entries are equal
pub list_below-agree : {X : Type 0} (f g : ℕ → X) (n : ℕ) → ((k : ℕ) → k < n → f k ≡ g k) → list_below f n ≡ list_below g n
list_below-agree f g zero same = refl
list_below-agree {X} f g (suc n) same =
    ap (list_below f) (sym (add-one n)) ∙ list_below-more f n
    ∙ ap (λ xs. xs ++ f n ∷ []) (list_below-agree f g n (λ k below. same k (omega arith)))
    ∙ ap (λ x. list_below g n ++ x ∷ []) (same n (omega arith))
    ∙ sym (list_below-more g n) ∙ ap (list_below g) (add-one n)
