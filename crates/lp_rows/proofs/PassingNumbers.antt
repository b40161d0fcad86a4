-- The numbers below a bound that pass a test, and where each stands among them.
use Rattle.std.proofs.Common.{◌≡◌, ℕ, zero, suc, ◌+◌, ◌<◌, ◌≤◌, Bool, true, false, cond, if◌then◌else◌, List, [], ◌∷◌, ◌++◌, filter, map, take, length, get_or, Result, Ok, Err, MatchResult, Contains, refl, sym, ◌∙◌, ap, subst, inl, inr, arith, length-append}
use Rattle.std.proofs.lemmas.Bool.{cases_lt}
use Rattle.std.proofs.lemmas.List.{get_or_append_left, get_or_default, get_or_past, get_or_push, map-append, take_all}
use Rattle.std.specs.Ordering.{nat_cmp}
use Rattle.std.specs.List.Sorted.{IsBinarySearchResult}
use Rattle.std.proofs.lemmas.List.Elements.{filter_more}
use Rattle.std.proofs.lemmas.List.Sorted.{searched}
use Rattle.std.proofs.lemmas.List.FromFn.{filter_of_map_range_with_len_more}
use Rattle.std.proofs.Math.Numerals.{suc-eq-add-one}
use Rattle.sums.specs.Below.{count_below}
use Rattle.sums.specs.Places.{list_below}
use Rattle.sums.proofs.Tests.{by_test}
use Rattle.lp_rows.specs.Staying.{passing_below}

-- what passes a test is still among those that do
pub among_filter : {X : Type 0} (p : X → Bool) (xs : List X) (x : X) → Contains xs x → p x ≡ true → Contains (filter p xs) x
among_filter p [] x here passes = absurd (omega (arith, here.1))
among_filter {X} p (y ∷ xs) x (zero, below, there) passes = first (p y) (ap p there ∙ passes) there
  where
    first : (b : Bool) → b ≡ true → y ≡ x → Contains (cond b (y ∷ filter p xs) (filter p xs)) x
    first true e same = (0, omega arith, same)
    first false e same = cc
among_filter {X} p (y ∷ xs) x (suc k, below, there) passes = later (p y) (among_filter p xs x (k, omega (arith, below), there) passes)
  where
    later : (b : Bool) → Contains (filter p xs) x → Contains (cond b (y ∷ filter p xs) (filter p xs)) x
    later true rest = (suc rest.0, omega (arith, rest.1), rest.2)
    later false rest = rest

-- ---- the entries of a list by the numbers that pass
module _ {X Y : Type 0} (g : X → Y) (p : X → Bool) (q : ℕ → Bool) (xs : List X) (d : X) (same : (k : ℕ) → k < length xs → q k ≡ p (get_or xs k d)) where
  abbrev entry : ℕ → Y
  entry k = g (get_or xs k d)

  one : (b c : Bool) (k : ℕ) → b ≡ c → map entry (cond b (k ∷ []) []) ≡ map g (cond c (get_or xs k d ∷ []) [])
  one true true k e = refl
  one false false k e = refl
  one true false k e = cc
  one false true k e = cc

  first_numbers : (n : ℕ) → n ≤ length xs → map entry (filter q (list_below (λ k. k) n)) ≡ map g (filter p (take n xs))
  first_numbers zero within = refl
  first_numbers (suc n) within =
      ap (λ m. map entry (filter q (list_below (λ k. k) m))) (suc-eq-add-one n)
      ∙ ap (map entry) (filter_of_map_range_with_len_more q (λ k. k) 0 n n (omega arith))
      ∙ map-append entry (filter q (list_below (λ k. k) n)) (cond (q n) (n ∷ []) [])
      ∙ ap (λ ys. ys ++ map entry (cond (q n) (n ∷ []) [])) (first_numbers n (omega arith))
      ∙ ap (λ ys. map g (filter p (take n xs)) ++ ys) (one (q n) (p (get_or xs n d)) n (same n (omega arith)))
      ∙ sym (map-append g (filter p (take n xs)) (cond (p (get_or xs n d)) (get_or xs n d ∷ []) []))
      ∙ sym (ap (map g) (filter_more p xs n d (omega arith)))
      ∙ ap (λ m. map g (filter p (take m xs))) (sym (suc-eq-add-one n))

  all_numbers : map entry (filter q (list_below (λ k. k) (length xs))) ≡ map g (filter p xs)
  all_numbers = first_numbers (length xs) (omega arith) ∙ ap (λ ys. map g (filter p ys)) (take_all (length xs) xs (omega arith))

pub by_numbers : {X Y : Type 0} (g : X → Y) (p : X → Bool) (q : ℕ → Bool) (xs : List X) (d : X) → ((k : ℕ) → k < length xs → q k ≡ p (get_or xs k d))
    → map (λ k. g (get_or xs k d)) (passing_below q (length xs)) ≡ map g (filter p xs)
unfolding passing_below
by_numbers g p q xs d same = all_numbers g p q xs d same

-- ---- one number more
module _ (p : ℕ → Bool) where
  pub no_number : passing_below p 0 ≡ []
  unfolding passing_below
  no_number = refl

  pub one_number_more : (n : ℕ) → passing_below p (n + 1) ≡ passing_below p n ++ (if p n then n ∷ [] else [])
  unfolding passing_below
  one_number_more n = filter_of_map_range_with_len_more p (λ k. k) 0 n n (omega arith)

  one_long : (b : Bool) (n : ℕ) → length (if b then n ∷ [] else []) ≡ (if b then 1 else 0)
  one_long true n = refl
  one_long false n = refl

  pub passing_long : (n : ℕ) → length (passing_below p n) ≡ count_below p n
  passing_long zero = ap length no_number
  passing_long (suc n) =
      ap (λ m. length (passing_below p m)) (suc-eq-add-one n) ∙ ap length (one_number_more n)
      ∙ omega (arith, length-append (passing_below p n) (if p n then n ∷ [] else []), one_long (p n) n, passing_long n)

  pub few_pass : (n : ℕ) → count_below p n ≤ n
  few_pass zero = omega arith
  few_pass (suc n) = one_more (p n) (count_below p n) n (few_pass n)
    where
      one_more : (b : Bool) (c n : ℕ) → c ≤ n → c + (if b then 1 else 0) ≤ suc n
      one_more true c n le = omega arith
      one_more false c n le = omega arith

  -- a number below a bound that passes, with so many before it
  pub record IsPlaced (n place number : ℕ) : Type 0 where
    pub below : number < n
    pub passes : p number ≡ true
    pub place_is : place ≡ count_below p number

  in_step : (b : Bool) (xs : List ℕ) (n place : ℕ) → p n ≡ b → length xs ≡ count_below p n → (place < length xs → IsPlaced n place (get_or xs place 0))
      → place < length (xs ++ (if b then n ∷ [] else [])) → IsPlaced (suc n) place (get_or (xs ++ (if b then n ∷ [] else [])) place 0)
  in_step b xs n place is long before within = elim (cases_lt place (length xs)) [
    | inl less ↦
        let here = before less in
        rw (get_or_append_left xs (if b then n ∷ [] else []) 0 place less) (record { below = omega (arith, here.below); passes = here.passes; place_is = here.place_is })
    | inr more ↦ last b is within more
  ]
    where
      last : (b : Bool) → p n ≡ b → place < length (xs ++ (if b then n ∷ [] else [])) → length xs ≤ place → IsPlaced (suc n) place (get_or (xs ++ (if b then n ∷ [] else [])) place 0)
      last true is within more =
          let same : place ≡ length xs = omega (arith, within, length-append xs (n ∷ []), more) in
          rw (get_or_push xs n 0 place (sym same)) (record { below = omega arith; passes = is; place_is = same ∙ long })
      last false is within more = absurd (omega (arith, within, length-append xs [], more))

  pub placed : (n place : ℕ) → place < length (passing_below p n) → IsPlaced n place (get_or (passing_below p n) place 0)
  placed zero place within = absurd (omega (arith, within, ap length no_number))
  placed (suc n) place within =
      let e : passing_below p (suc n) ≡ passing_below p n ++ (if p n then n ∷ [] else []) = ap (passing_below p) (suc-eq-add-one n) ∙ one_number_more n in
      subst (λ xs. IsPlaced (suc n) place (get_or xs place 0)) (sym e)
      (in_step (p n) (passing_below p n) n place refl (passing_long n) (placed n place) (omega (arith, within, ap length e)))

  -- more pass below a later number
  no_fewer : (j k : ℕ) → j ≤ k → count_below p j ≤ count_below p k
  no_fewer j zero order = let same : j ≡ 0 = omega arith in rw same (omega arith)
  no_fewer j (suc k) order = elim (cases_lt j (suc k)) [
    | inl less ↦ let before = no_fewer j k (omega arith) in one_more (p k) (count_below p j) (count_below p k) before
    | inr more ↦ let same : j ≡ suc k = omega arith in rw same (omega arith)
  ]
    where
      one_more : (b : Bool) (c n : ℕ) → c ≤ n → c ≤ n + (if b then 1 else 0)
      one_more true c n le = omega arith
      one_more false c n le = omega arith

  pub more_pass : (j k : ℕ) → j < k → p j ≡ true → count_below p j < count_below p k
  more_pass j k order passes =
      let one : count_below p (suc j) ≡ count_below p j + 1 = ap (λ b. count_below p j + (if b then 1 else 0)) passes in
      omega (arith, one, no_fewer (suc j) k (omega arith))

  -- as many before one as before another that passes: the same
  same_number : (j k : ℕ) → p j ≡ true → p k ≡ true → count_below p j ≡ count_below p k → j ≡ k
  same_number j k passes_j passes_k same = elim (cases_lt j k) [
    | inl less ↦ absurd (omega (arith, same, more_pass j k less passes_j))
    | inr more ↦ elim (cases_lt k j) [
      | inl less ↦ absurd (omega (arith, same, more_pass k j less passes_k))
      | inr most ↦ omega arith
    ]
  ]

  -- the place of a number that passes
  pub record StandsIn (n place number : ℕ) : Type 0 where
    pub within : place < length (passing_below p n)
    pub there : get_or (passing_below p n) place 0 ≡ number

  pub stands_in : (n number : ℕ) → number < n → p number ≡ true → StandsIn n (count_below p number) number
  stands_in n number below passes =
      let within : count_below p number < length (passing_below p n) = omega (arith, more_pass number n below passes, passing_long n) in
      let here = placed n (count_below p number) within in
      record { within = within; there = same_number _ number here.passes passes (sym here.place_is) }

  -- they rise
  pub rises : (n i j : ℕ) → i < j → j < length (passing_below p n) → get_or (passing_below p n) i 0 < get_or (passing_below p n) j 0
  rises n i j order within =
      let first = placed n i (omega arith) in
      let second = placed n j within in
      elim (cases_lt (get_or (passing_below p n) i 0) (get_or (passing_below p n) j 0)) [
        | inl less ↦ less
        | inr more ↦ absurd (omega (arith, no_fewer (get_or (passing_below p n) j 0) (get_or (passing_below p n) i 0) more, first.place_is, second.place_is))
      ]

  pub rising : (n i j : ℕ) → i ≤ j → j < length (passing_below p n) → get_or (passing_below p n) i 0 ≤ get_or (passing_below p n) j 0
  rising n i j order within = elim (cases_lt i j) [
    | inl less ↦ let rise = rises n i j less within in omega (arith, rise)
    | inr more ↦ let same : i ≡ j = omega arith in rw same (omega arith)
  ]

  -- the one at a place, and behind the last one the bound
  abbrev pub from_place : ℕ → ℕ → ℕ
  from_place n place = get_or (passing_below p n) place n

  pub at_place : (n place : ℕ) → place < length (passing_below p n) → from_place n place ≡ get_or (passing_below p n) place 0
  at_place n place within = get_or_default (passing_below p n) place n 0 within

  pub no_more : (n place : ℕ) → from_place n place ≤ n
  no_more n place = elim (cases_lt place (length (passing_below p n))) [
    | inl within ↦ let here = placed n place within in omega (arith, at_place n place within, here.below)
    | inr past ↦ let same = get_or_past (passing_below p n) place n past in omega (arith, same)
  ]

  -- none passes between two that follow one another
  pub none_between : (n place k : ℕ) → place ≤ count_below p k → k < from_place n place → p k ≡ false
  none_between n place k order before = by_test (p k) (λ passes. absurd (too_late passes)) (λ fails. fails)
    where
      too_late : p k ≡ true → ⊥
      too_late passes =
          let here = stands_in n k (omega (arith, before, no_more n place)) passes in
          let rise = rising n place (count_below p k) order here.within in
          omega (arith, before, at_place n place (omega (arith, order, here.within)), rise, here.there)

  pub behind : (n place k : ℕ) → place < length (passing_below p n) → from_place n place + 1 ≤ k → place + 1 ≤ count_below p k
  behind n place k within order =
      let here = placed n place within in
      let more = more_pass (get_or (passing_below p n) place 0) k (omega (arith, order, at_place n place within)) here.passes in
      omega (arith, more, here.place_is)

  pub next_behind : (n place : ℕ) → place < length (passing_below p n) → from_place n place + 1 ≤ from_place n (place + 1)
  next_behind n place within = elim (cases_lt (place + 1) (length (passing_below p n))) [
    | inl more ↦ let rise = rises n place (place + 1) (omega arith) more in omega (arith, rise, at_place n place within, at_place n (place + 1) more)
    | inr past ↦ let here = placed n place within in omega (arith, here.below, at_place n place within, get_or_past (passing_below p n) (place + 1) n past)
  ]

  -- what bisection finds among them: the place of a number that passes, or that it doesn't pass
  abbrev pub IsFound : ℕ → List ℕ → ℕ → Type 0
  IsFound number xs place = (p number ≡ true) × (place ≡ count_below p number) × (place < length xs) × (get_or xs place 0 ≡ number)

  pub bisected : (n number : ℕ) (xs : List ℕ) (r : Result ℕ ℕ) → xs ≡ passing_below p n → number < n → IsBinarySearchResult (λ y. nat_cmp y number) xs r
      → MatchResult r (IsFound number xs) (λ place. p number ≡ false)
  bisected n number xs r are below found =
      subst (λ ys. IsBinarySearchResult (λ y. nat_cmp y number) ys r → MatchResult r (IsFound number ys) (λ place. p number ≡ false)) (sym are) (decide r) found
    where
      missing : (place : ℕ) → ((k : ℕ) → k < place → get_or (passing_below p n) k 0 < number) → ((k : ℕ) → place ≤ k → k < length (passing_below p n) → number < get_or (passing_below p n) k 0)
          → p number ≡ true → ⊥
      missing place before after passes =
          let here = stands_in n number below passes in
          elim (cases_lt (count_below p number) place) [
            | inl less ↦ let small = before (count_below p number) less in omega (arith, small, here.there)
            | inr more ↦ let great = after (count_below p number) more here.within in omega (arith, great, here.there)
          ]

      decide : (r : Result ℕ ℕ) → IsBinarySearchResult (λ y. nat_cmp y number) (passing_below p n) r → MatchResult r (IsFound number (passing_below p n)) (λ place. p number ≡ false)
      decide (Ok place) found =
          let s = searched (passing_below p n) number (Ok place) found (rising n) in
          let here = placed n place s.0 in
          (subst (λ k. p k ≡ true) s.1 here.passes, here.place_is ∙ ap (count_below p) s.1, s.0, s.1)
      decide (Err place) found =
          let s = searched (passing_below p n) number (Err place) found (rising n) in
          by_test (p number) (λ passes. absurd (missing place s.1 s.2 passes)) (λ fails. fails)
