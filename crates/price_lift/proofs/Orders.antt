-- Entries one behind another, each there or not: what each is to the one before it.
use Rattle.std.proofs.Common.{◌≡◌, ℕ, zero, suc, ◌+◌, ◌-◌, ◌<◌, ◌≤◌, Bool, true, false, if◌then◌else◌, List, [], ◌∷◌, ◌++◌, length, get_or, All, AllPairs, Option, Some, None, refl, sym, ◌∙◌, ap, subst, ◌⊎◌, inl, inr, append_assoc, append-nil, length-append, arith, zero-add}
use Rattle.std.specs.Prelude.{IsTrue, ⊤}
use Rattle.std.proofs.lemmas.Bool.{cases_lt}
use Rattle.std.proofs.lemmas.List.{get_or_append_left}
use Rattle.std.proofs.lemmas.List.Quantifiers.{all_pairs_push}
use Rattle.sums.proofs.Tests.{by_test}
use Rattle.sums.proofs.Naturals.{plus_0, suc_moved}
use Rattle.lp_rows.specs.Layout.{concat_below}
use Rattle.lp_rows.proofs.ListPlaces.{at_right}

-- each entry may follow the one before it
abbrev pub Follow : {X : Type 0} → (Option X → X → Bool) → Option X → List X → Type 0
Follow may before [] = ⊤
Follow may before (x ∷ xs) = IsTrue (may before x) × Follow may (Some x) xs

one_more : {X : Type 0} (b : Bool) (x : X) (xs ys : List X) → xs ++ (if b then x ∷ ys else ys) ≡ (xs ++ (if b then x ∷ [] else [])) ++ ys
one_more true x xs ys = sym (append_assoc xs (x ∷ []) ys)
one_more false x xs ys = ap (λ zs. zs ++ ys) (sym (append-nil xs))

module _ {X : Type 0} (there : ℕ → Bool) (entry : ℕ → X) where
  abbrev pub at_number : ℕ → List X
  at_number k = if there k then entry k ∷ [] else []

  -- those from a number on
  abbrev pub list_from : ℕ → ℕ → List X
  list_from m zero = []
  list_from m (suc d) = if there m then entry m ∷ list_from (suc m) d else list_from (suc m) d

  joined : (m d : ℕ) → concat_below at_number m ++ list_from m d ≡ concat_below at_number (m + d)
  joined m zero = append-nil (concat_below at_number m) ∙ ap (concat_below at_number) (sym (plus_0 m))
  joined m (suc d) = one_more (there m) (entry m) (concat_below at_number m) (list_from (suc m) d) ∙ joined (suc m) d ∙ ap (concat_below at_number) (suc_moved m d)

  pub from_first : (n : ℕ) → concat_below at_number n ≡ list_from 0 n
  from_first n = sym (joined 0 n ∙ ap (concat_below at_number) (zero-add n))

  -- the last entry before a number
  abbrev IsLast : ℕ → Option X → Type 0
  IsLast m before =
      ((before ≡ None) × ((i : ℕ) → i < m → there i ≡ false))
      ⊎ ((j : ℕ) × (j < m) × (there j ≡ true) × (before ≡ Some (entry j)) × ((i : ℕ) → j < i → i < m → there i ≡ false))

  -- the first entry, and each with the one before it
  pub record MayFollow (may : Option X → X → Bool) (end : ℕ) : Type 0 where
    pub first : (k : ℕ) → k < end → there k ≡ true → ((i : ℕ) → i < k → there i ≡ false) → may None (entry k) ≡ true
    pub next : (j k : ℕ) → j < k → k < end → there j ≡ true → there k ≡ true → ((i : ℕ) → j < i → i < k → there i ≡ false) → may (Some (entry j)) (entry k) ≡ true

  module _ (may : Option X → X → Bool) (end : ℕ) (each : MayFollow may end) where
    goes : (m : ℕ) (before : Option X) → m < end → there m ≡ true → IsLast m before → may before (entry m) ≡ true
    goes m before below here last = elim last [
      | inl none ↦ subst (λ o. may o (entry m) ≡ true) (sym none.0) (each.first m below here none.1)
      | inr some ↦ subst (λ o. may o (entry m) ≡ true) (sym some.3) (each.next some.0 m some.1 below some.2 here some.4)
    ]

    none_here : (m : ℕ) (before : Option X) → there m ≡ false → IsLast m before → IsLast (suc m) before
    none_here m before here last = elim last [
      | inl none ↦ inl (
        none.0,
        λ i below. elim (cases_lt i m) [
          | inl less ↦ none.1 i less
          | inr same ↦ let at : m ≡ i = omega arith in subst (λ k. there k ≡ false) at here
        ],
      )
      | inr some ↦ inr (
        some.0,
        omega (arith, some.1),
        some.2,
        some.3,
        λ i above below. elim (cases_lt i m) [
          | inl less ↦ some.4 i above less
          | inr same ↦ let at : m ≡ i = omega arith in subst (λ k. there k ≡ false) at here
        ],
      )
    ]

    follow_from : (m d : ℕ) (before : Option X) → m + d ≤ end → IsLast m before → Follow may before (list_from m d)
    follow_from m zero before within last = tt
    follow_from m (suc d) before within last = by_test (there m)
        (λ e. subst (λ c. Follow may before (if c then entry m ∷ list_from (suc m) d else list_from (suc m) d)) (sym e) (
          goes m before (omega arith) e last,
          follow_from (suc m) d (Some (entry m)) (omega arith) (inr (m, omega arith, e, refl, λ i above below. absurd (omega arith))),
        ))
        (λ e. subst (λ c. Follow may before (if c then entry m ∷ list_from (suc m) d else list_from (suc m) d)) (sym e)
        (follow_from (suc m) d before (omega arith) (none_here m before e last)))

    pub follow_all : Follow may None (concat_below at_number end)
    follow_all = subst (Follow may None) (sym (from_first end)) (follow_from 0 end None (omega arith) (inl (refl, λ i below. absurd (omega arith))))

-- ---- lists of the same entries
pub concat_same : {X : Type 0} (g h : ℕ → List X) (n : ℕ) → ((k : ℕ) → g k ≡ h k) → concat_below g n ≡ concat_below h n
concat_same g h zero same = refl
concat_same g h (suc n) same = ap (λ xs. xs ++ g n) (concat_same g h n same) ∙ ap (λ xs. concat_below h n ++ xs) (same n)

-- ---- what holds of any two entries, the earlier and the later
pub pairs_append : {X : Type 0} (R : X → X → Type 0) (xs ys : List X) → AllPairs R xs → AllPairs R ys
    → ((i j : ℕ) (d e : X) → i < length xs → j < length ys → R (get_or xs i d) (get_or ys j e)) → AllPairs R (xs ++ ys)
pairs_append R xs [] first second both = subst (AllPairs R) (sym (append-nil xs)) first
pairs_append R xs (y ∷ ys) first second both =
    subst (AllPairs R) (append_assoc xs (y ∷ []) ys)
    (pairs_append R (xs ++ y ∷ []) ys
    (all_pairs_push R xs y first (λ k d below. both k 0 d d below (omega arith)))
    (λ i j d order below. second (suc i) (suc j) d (omega arith) (omega arith))
    (λ i j d e here below. elim (cases_lt i (length xs)) [
      | inl before ↦ subst (λ z. R z (get_or ys j e)) (sym (get_or_append_left xs (y ∷ []) d i before)) (both i (suc j) d e before (omega arith))
      | inr last ↦
          let at : i ≡ length xs + 0 = omega (arith, long xs y) in
          subst (λ z. R z (get_or ys j e)) (sym (ap (λ k. get_or (xs ++ y ∷ []) k d) at ∙ at_right xs (y ∷ []) d 0)) (second 0 (suc j) e (omega arith) (omega arith))
    ]))
  where
    long : {X : Type 0} (xs : List X) (y : X) → length (xs ++ y ∷ []) ≡ length xs + 1
    long [] y = refl
    long (x ∷ xs) y = omega (arith, long xs y)

pub pairs_concat : {X : Type 0} (R : X → X → Type 0) (P : ℕ → X → Type 0) (g : ℕ → List X) (n : ℕ) → ((k : ℕ) → k < n → AllPairs R (g k)) → ((k : ℕ) → k < n → All (P k) (g k))
    → ((i k : ℕ) (x y : X) → i < k → P i x → P k y → R x y) → AllPairs R (concat_below g n)
pairs_concat R P g zero each kinds apart = λ i j d order below. absurd (omega arith)
pairs_concat R P g (suc n) each kinds apart =
    pairs_append R (concat_below g n) (g n) (pairs_concat R P g n (λ k below. each k (omega arith)) (λ k below. kinds k (omega arith)) apart) (each n (omega arith))
    (λ i j d e here below. let at = of_one g P n (λ k less. kinds k (omega arith)) i d here in apart at.0 n _ _ at.1 at.2 (kinds n (omega arith) j e below))
  where
    -- an entry is of one of the lists
    of_one : {X : Type 0} (g : ℕ → List X) (P : ℕ → X → Type 0) (n : ℕ) → ((k : ℕ) → k < n → All (P k) (g k)) → (i : ℕ) (d : X) → i < length (concat_below g n) → (k : ℕ) × (k < n) × P k (get_or (concat_below g n) i d)
    of_one g P zero kinds i d below = absurd (omega arith)
    of_one g P (suc n) kinds i d below = elim (cases_lt i (length (concat_below g n))) [
      | inl before ↦
          let at = of_one g P n (λ k less. kinds k (omega arith)) i d before in (
            at.0,
            omega (arith, at.1),
            subst (P at.0) (sym (get_or_append_left (concat_below g n) (g n) d i before)) at.2,
          )
      | inr last ↦
          let place : i ≡ length (concat_below g n) + (i - length (concat_below g n)) = omega arith in (
            n,
            omega arith,
            subst (P n) (sym (ap (λ k. get_or (concat_below g n ++ g n) k d) place ∙ at_right (concat_below g n) (g n) d (i - length (concat_below g n)))) (kinds n (omega arith) (i - length (concat_below g n)) d (omega (arith, length-append (concat_below g n) (g n)))),
          )
    ]
