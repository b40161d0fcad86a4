-- The minutes at whose end no aircraft stands at a station, as entries of their list.
use Rattle.std.proofs.Common.{◌≡◌, ℕ, zero, suc, ◌+◌, ◌<◌, ◌≤◌, Bool, true, false, if◌then◌else◌, List, [], ◌∷◌, ◌++◌, length, get_or, refl, sym, ◌∙◌, ap, subst, inl, inr, arith, length-append, add-one}
use Rattle.std.proofs.lemmas.Bool.{cases_lt}
use Rattle.std.proofs.Math.ListN.{get_or-append}
use Rattle.std.proofs.Math.Seq.{get_or-append_seam}
use Rattle.sums.proofs.Naturals.{at_end}
use Rattle.fleet_model.specs.declared.tables.Tables.{Tables}
use Rattle.fleet_model.specs.Counts.{Weights}
use Rattle.node_aggregate.specs.island_cut.Zeros.{none_stands, zeros_below}
use Rattle.node_aggregate.proofs.island_cut.Passing.{no_minute, one_minute_more}

-- an entry of a list
pub record StandsAt (xs : List ℕ) (x : ℕ) : Type 0 where
  pub place : ℕ
  pub within : place < length xs
  pub there : get_or xs place 0 ≡ x

-- a minute more where a test passes
grown_each : (b : Bool) (test : ℕ → Bool) (xs ys : List ℕ) (n : ℕ) → test n ≡ b → ys ≡ xs ++ (if b then n ∷ [] else [])
    → ((k : ℕ) → k < length xs → (get_or xs k 0 < n) × (test (get_or xs k 0) ≡ true))
    → (k : ℕ) → k < length ys → (get_or ys k 0 < suc n) × (test (get_or ys k 0) ≡ true)
grown_each b test xs ys n passes grown before k lt = elim (cases_lt k (length xs)) [
  | inl less ↦
      let same : get_or ys k 0 ≡ get_or xs k 0 = ap (λ zs. get_or zs k 0) grown ∙ get_or-append xs _ 0 k less in
      let was = before k less in
      (below _ _ _ same was.0, ap test same ∙ was.1)
  | inr ge ↦ last b passes grown lt ge
]
  where
    below : (x y n : ℕ) → x ≡ y → y < n → x < suc n
    below x y n e lt = omega arith

    last : (b : Bool) → test n ≡ b → ys ≡ xs ++ (if b then n ∷ [] else []) → k < length ys → length xs ≤ k → (get_or ys k 0 < suc n) × (test (get_or ys k 0) ≡ true)
    last true passes grown lt ge =
        let same : k ≡ length xs = at_end k (length xs) (length ys) lt ge (ap length grown ∙ length-append xs (n ∷ [])) in
        let there : get_or ys k 0 ≡ n = ap (λ zs. get_or zs k 0) grown ∙ ap (λ m. get_or (xs ++ n ∷ []) m 0) same ∙ get_or-append_seam xs n [] 0 in
        (new _ _ there, ap test there ∙ passes)
      where
        new : (x n : ℕ) → x ≡ n → x < suc n
        new x n e = omega arith
    last false passes grown lt ge = absurd (none (length ys) (length xs) k (ap length grown ∙ length-append xs []) lt ge)
      where
        none : (long short k : ℕ) → long ≡ short + 0 → k < long → short ≤ k → ⊥
        none long short k e lt ge = omega arith

pub each_stands : (t : Tables) (w : Weights) (f s n k : ℕ) → k < length (zeros_below t w f s n)
    → (get_or (zeros_below t w f s n) k 0 < n) × (none_stands t w f s (get_or (zeros_below t w f s n) k 0) ≡ true)
each_stands t w f s zero k lt = absurd (none (length (zeros_below t w f s 0)) k (ap length (no_minute t w f s)) lt)
  where
    none : (long k : ℕ) → long ≡ 0 → k < long → ⊥
    none long k e lt = omega arith
each_stands t w f s (suc n) k lt =
    grown_each (none_stands t w f s n) (none_stands t w f s) (zeros_below t w f s n) (zeros_below t w f s (suc n)) n refl
    (ap (zeros_below t w f s) (sym (add-one n)) ∙ one_minute_more t w f s n) (each_stands t w f s n) k lt

grown_has : (b : Bool) (test : ℕ → Bool) (xs ys : List ℕ) (n m : ℕ) → test n ≡ b → ys ≡ xs ++ (if b then n ∷ [] else [])
    → (m < n → StandsAt xs m) → m < suc n → test m ≡ true → StandsAt ys m
grown_has b test xs ys n m passes grown before lt holds = elim (cases_lt m n) [
  | inl less ↦ let was = before less in kept b grown was
  | inr ge ↦ let same : m ≡ n = omega arith in subst (StandsAt ys) (sym same) (last b grown (sym passes ∙ ap test (sym same) ∙ holds))
]
  where
    longer : (a b c : ℕ) → a < b → c ≡ b + 1 → a < c
    longer a b c lt e = omega arith

    as_long : (a b c : ℕ) → a < b → c ≡ b + 0 → a < c
    as_long a b c lt e = omega arith

    one_more : (b c : ℕ) → c ≡ b + 1 → b < c
    one_more b c e = omega arith

    kept : (b : Bool) → ys ≡ xs ++ (if b then n ∷ [] else []) → StandsAt xs m → StandsAt ys m
    kept true grown was = record {
      place = was.place;
      within = longer _ _ _ was.within (ap length grown ∙ length-append xs (n ∷ []));
      there = ap (λ zs. get_or zs was.place 0) grown ∙ get_or-append xs (n ∷ []) 0 was.place was.within ∙ was.there;
    }
    kept false grown was = record {
      place = was.place;
      within = as_long _ _ _ was.within (ap length grown ∙ length-append xs []);
      there = ap (λ zs. get_or zs was.place 0) grown ∙ get_or-append xs [] 0 was.place was.within ∙ was.there;
    }

    last : (b : Bool) → ys ≡ xs ++ (if b then n ∷ [] else []) → b ≡ true → StandsAt ys n
    last true grown e = record {
      place = length xs;
      within = one_more _ _ (ap length grown ∙ length-append xs (n ∷ []));
      there = ap (λ zs. get_or zs (length xs) 0) grown ∙ get_or-append_seam xs n [] 0;
    }
    last false grown e = cc

pub stands_in : (t : Tables) (w : Weights) (f s n m : ℕ) → m < n → none_stands t w f s m ≡ true → StandsAt (zeros_below t w f s n) m
stands_in t w f s zero m lt holds = absurd (omega arith)
stands_in t w f s (suc n) m lt holds =
    grown_has (none_stands t w f s n) (none_stands t w f s) (zeros_below t w f s n) (zeros_below t w f s (suc n)) n m refl
    (ap (zeros_below t w f s) (sym (add-one n)) ∙ one_minute_more t w f s n) (λ less. stands_in t w f s n m less holds) lt holds
