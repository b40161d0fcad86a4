-- A map from keys to numbers, as the list of its keys by their numbers.
use Rattle.std.proofs.Common.{◌≡◌, ◌==◌, ◌||◌, ◌∙◌, ◌<◌, ◌≢◌, ◌+◌, ◌++◌, ℕ, suc, Bool, true, false, not, nat_lt, if◌then◌else◌, List, [], ◌∷◌, length, get_or, bytes_eq, Option, Some, None, refl, sym, ap, subst, arith, inl, inr}
use Rattle.std.specs.BTreeMap.{insert_entry, is_at}
use Rattle.std.specs.List.{list_any, position, prefix_len}
use Rattle.std.specs.Map.{lookup}
use Rattle.std.specs.Option.{is_some, unwrap_or}
use Rattle.std.specs.Ordering.{is_eq, match_ordering}
use Rattle.std.specs.declared.cmp.Ordering.{Ordering}
use Rattle.std.specs.declared.cmp.Ordering.TheVariants.{Less, Equal, Greater}
use Rattle.std.proofs.lemmas.Bool.{cases_Bool, cases_lt, eq-eqb, eqb-true, le-ltb, lt-ltb, true≢false}
use Rattle.std.proofs.lemmas.Bool.Decides.{nat_tests}
use Rattle.std.proofs.lemmas.List.Sums.{prefix_len_passes, prefix_len_stops}
use Rattle.std.proofs.lemmas.Slice.Eq.{bytes_eq-Decides}
use Rattle.sums.specs.Places.{list_below}
use Rattle.sums.proofs.Places.{get_or-list_below, length-list_below, list_below-agree, list_below-more}
use Rattle.table_rows.specs.ByNumber.{AreNumbered, by_number, key_at, number_of_key}
use Rattle.table_rows.specs.Names.{is_among, number_of_name}

both_ways : (b : Bool) → b ≡ true → not b ≡ true → ⊥
both_ways true is isnt = true≢false (sym isnt)
both_ways false is isnt = true≢false (sym is)

neither : (b : Bool) → b ≡ false → not b ≡ false → ⊥
neither true is isnt = true≢false is
neither false is isnt = true≢false isnt

-- the place before which a test fails, and where it doesn't
position_at : {X : Type 0} (p : X → Bool) (xs : List X) (n : ℕ) (d : X) → n < length xs → p (get_or xs n d) ≡ true → ((k : ℕ) → k < n → p (get_or xs k d) ≡ false)
    → position p xs ≡ Some n
position_at {X} p xs n d within here before = rw (place, lt-ltb n (length xs) within) refl
  where
    fails : X → Bool
    fails x = not (p x)

    place : prefix_len (λ x. not (p x)) xs ≡ n
    place = elim (cases_lt (prefix_len (λ x. not (p x)) xs) n) [
      | inl less ↦ absurd (neither (p (get_or xs (prefix_len (λ x. not (p x)) xs) d)) (before _ less) (prefix_len_stops (λ x. not (p x)) xs d (omega arith)))
      | inr most ↦ elim (cases_lt n (prefix_len (λ x. not (p x)) xs)) [
        | inl more ↦ absurd (both_ways (p (get_or xs n d)) here (prefix_len_passes (λ x. not (p x)) xs n d more))
        | inr least ↦ omega arith
      ]
    ]

-- no place, where a test fails at each
position_none : {X : Type 0} (p : X → Bool) (xs : List X) (d : X) → ((k : ℕ) → k < length xs → p (get_or xs k d) ≡ false) → position p xs ≡ None
position_none p xs d none = elim (cases_lt (prefix_len (λ x. not (p x)) xs) (length xs)) [
  | inl less ↦ absurd (neither (p (get_or xs (prefix_len (λ x. not (p x)) xs) d)) (none _ less) (prefix_len_stops (λ x. not (p x)) xs d less))
  | inr all ↦ rw (le-ltb (prefix_len (λ x. not (p x)) xs) (length xs) all) refl
]

any_step : (t : Bool) (n m : ℕ) (any : Bool) → any ≡ nat_lt n m → (t || any) ≡ nat_lt (if not t then 1 + n else 0) (suc m)
any_step true n m any e = sym (lt-ltb 0 (suc m) (omega arith))
any_step false n m any e = grind (arith, nat_tests)

any_is : {X : Type 0} (p : X → Bool) (xs : List X) → list_any p xs ≡ nat_lt (prefix_len (λ x. not (p x)) xs) (length xs)
any_is p [] = refl
any_is p (x ∷ xs) = any_step (p x) (prefix_len (λ x. not (p x)) xs) (length xs) (list_any p xs) (any_is p xs)

-- there is a place exactly where some entry passes
is_some-position : {X : Type 0} (p : X → Bool) (xs : List X) → is_some (position p xs) ≡ list_any p xs
is_some-position p xs = by_test (nat_lt (prefix_len (λ x. not (p x)) xs) (length xs)) (prefix_len (λ x. not (p x)) xs) (list_any p xs) (any_is p xs)
  where
    by_test : (t : Bool) (n : ℕ) (any : Bool) → any ≡ t → is_some (if t then Some n else None) ≡ any
    by_test true n any e = sym e
    by_test false n any e = sym e

then_is : {X : Type 0} (t : Bool) (x y : X) → t ≡ true → (if t then x else y) ≡ x
then_is true x y e = refl
then_is false x y e = absurd (true≢false (sym e))

else_is : {X : Type 0} (t : Bool) (x y : X) → t ≡ false → (if t then x else y) ≡ y
else_is true x y e = absurd (true≢false e)
else_is false x y e = refl

-- a look-up by a test that tells the keys by their lists
pub lookup_by_list : {K : Type 0} (list_of : K → List ℕ) (test : K → Bool) (list : List ℕ) → ((key : K) → test key ≡ bytes_eq list (list_of key)) → (entries : List (K × ℕ))
    → lookup test entries ≡ number_of_key list_of entries list
lookup_by_list list_of test list same [] = refl
lookup_by_list list_of test list same (entry ∷ entries) = rw (same entry.0, lookup_by_list list_of test list same entries) refl

-- the number of a key is its place among the keys by number
pub number_is_place : {K : Type 0} (list_of : K → List ℕ) (entries : List (K × ℕ)) → AreNumbered list_of entries → (list : List ℕ)
    → number_of_key list_of entries list ≡ number_of_name list (by_number list_of entries)
number_is_place list_of entries are list = by_number_of (number_of_key list_of entries list) refl
  where
    key : ℕ → List ℕ
    key n = unwrap_or (key_at list_of entries n) []

    long : length (by_number list_of entries) ≡ length entries
    long = length-list_below (λ n. unwrap_or (key_at list_of entries n) []) (length entries)

    at : (k : ℕ) → k < length entries → get_or (by_number list_of entries) k [] ≡ unwrap_or (key_at list_of entries k) []
    at k within = get_or-list_below (λ n. unwrap_or (key_at list_of entries n) []) (length entries) k [] within

    -- what has another number is another list
    other : (k : ℕ) → k < length entries → number_of_key list_of entries list ≢ Some k → bytes_eq list (unwrap_or (key_at list_of entries k) []) ≡ false
    other k within differs = by_key (key_at list_of entries k) refl
      where
        by_key : (found : Option (List ℕ)) → key_at list_of entries k ≡ found → bytes_eq list (unwrap_or found []) ≡ false
        by_key None e = absurd (true≢false (sym (lt-ltb k (length entries) within) ∙ sym (are.below_count k) ∙ ap is_some e))
        by_key (Some name) e = elim (cases_Bool (bytes_eq list name)) [
          | inl same ↦ absurd (differs (subst (λ l. number_of_key list_of entries l ≡ Some k) (sym ((bytes_eq-Decides list name).0 same)) (are.numbered k name e)))
          | inr apart ↦ apart
        ]

    by_number_of : (number : Option ℕ) → number_of_key list_of entries list ≡ number → number ≡ number_of_name list (by_number list_of entries)
    by_number_of None e = sym (position_none (bytes_eq list) (by_number list_of entries) [] (λ k within.
        let inside : k < length entries = omega (arith, long) in
        ap (bytes_eq list) (at k inside) ∙ other k inside (λ is. (let never : None ≡ Some k = sym e ∙ is in cc))))
    by_number_of (Some n) e =
        let kept = are.kept n list e in
        let inside : n < length entries = below n (nat_lt n (length entries)) refl (sym (are.below_count n) ∙ ap is_some kept) in
        sym (position_at (bytes_eq list) (by_number list_of entries) n [] (omega (arith, long))
        (ap (bytes_eq list) (at n inside ∙ ap (λ o. unwrap_or o []) kept) ∙ (bytes_eq-Decides list list).1 refl)
        (λ k less. (let within : k < length entries = omega arith in
        ap (bytes_eq list) (at k within) ∙ other k within (λ is. (let same : Some n ≡ Some k = sym e ∙ is in let equal : n ≡ k = cc in omega arith)))))
      where
        below : (k : ℕ) (t : Bool) → nat_lt k (length entries) ≡ t → nat_lt k (length entries) ≡ true → k < length entries
        below k t e is = grind (arith, nat_tests)

-- a key has a number exactly where it is among the keys
pub numbered_among : {K : Type 0} (list_of : K → List ℕ) (entries : List (K × ℕ)) → AreNumbered list_of entries → (list : List ℕ)
    → is_some (number_of_key list_of entries list) ≡ is_among list (by_number list_of entries)
numbered_among list_of entries are list =
    ap is_some (number_is_place list_of entries are list) ∙ is_some-position (bytes_eq list) (by_number list_of entries)

-- where the first of two entries that pass decides, one that is put between others is found if none of the others is looked for
found : {X : Type 0} (new here : Bool) (x y : X) (rest found : Option X) → (new ≡ true → (if here then Some y else rest) ≡ None)
    → found ≡ (if new then Some x else rest) → (if here then Some y else found) ≡ (if new then Some x else (if here then Some y else rest))
found true true x y rest _ none e = (let never : Some y ≡ None = none refl in cc)
found true false x y rest _ none e = e
found false true x y rest _ none e = refl
found false false x y rest _ none e = e

no_rest : {X : Type 0} (new here : Bool) (y : X) (rest : Option X) → (new ≡ true → (if here then Some y else rest) ≡ None) → new ≡ true → rest ≡ None
no_rest new true y rest none is = (let never : Some y ≡ None = none is in cc)
no_rest new false y rest none is = none is

head_absent : {X : Type 0} (here : Bool) (x : X) (rest : Option X) → (if here then Some x else rest) ≡ None → (here ≡ false) × (rest ≡ None)
head_absent true x rest e = (let never : Some x ≡ None = e in cc)
head_absent false x rest e = (refl, e)

module _ {K : Type 0} (list_of : K → List ℕ) (cmp : K → K → Ordering) (key : K) (number : ℕ) where
  number_inserted : (entries : List (K × ℕ)) → lookup (is_at (cmp key)) entries ≡ None → (list : List ℕ) → (bytes_eq list (list_of key) ≡ true → number_of_key list_of entries list ≡ None)
      → number_of_key list_of (insert_entry cmp entries key number) list ≡ (if bytes_eq list (list_of key) then Some number else number_of_key list_of entries list)
  number_inserted [] absent list alone = refl
  number_inserted (entry ∷ entries) absent list alone =
      by_order (number_inserted entries (head_absent _ _ _ absent).1 list (no_rest _ _ _ _ alone)) (cmp key entry.0) (head_absent _ _ _ absent).0
    where
      by_order : number_of_key list_of (insert_entry cmp entries key number) list ≡ (if bytes_eq list (list_of key) then Some number else number_of_key list_of entries list)
          → (order : Ordering) → is_eq order ≡ false
          → number_of_key list_of (match_ordering order ((key, number) ∷ entry ∷ entries) ((entry.0, number) ∷ entries) (entry ∷ insert_entry cmp entries key number)) list
          ≡ (if bytes_eq list (list_of key) then Some number else number_of_key list_of (entry ∷ entries) list)
      by_order rest Less apart = refl
      by_order rest Equal apart = absurd (true≢false apart)
      by_order rest Greater apart = found (bytes_eq list (list_of key)) (bytes_eq list (list_of entry.0)) number entry.1 (number_of_key list_of entries list) _ alone rest

  key_inserted : (entries : List (K × ℕ)) → lookup (is_at (cmp key)) entries ≡ None → (n : ℕ) → ((n == number) ≡ true → key_at list_of entries n ≡ None)
      → key_at list_of (insert_entry cmp entries key number) n ≡ (if n == number then Some (list_of key) else key_at list_of entries n)
  key_inserted [] absent n alone = refl
  key_inserted (entry ∷ entries) absent n alone =
      by_order (key_inserted entries (head_absent _ _ _ absent).1 n (no_rest _ _ _ _ alone)) (cmp key entry.0) (head_absent _ _ _ absent).0
    where
      by_order : key_at list_of (insert_entry cmp entries key number) n ≡ (if n == number then Some (list_of key) else key_at list_of entries n)
          → (order : Ordering) → is_eq order ≡ false
          → key_at list_of (match_ordering order ((key, number) ∷ entry ∷ entries) ((entry.0, number) ∷ entries) (entry ∷ insert_entry cmp entries key number)) n
          ≡ (if n == number then Some (list_of key) else key_at list_of (entry ∷ entries) n)
      by_order rest Less apart = refl
      by_order rest Equal apart = absurd (true≢false apart)
      by_order rest Greater apart = found (n == number) (n == entry.1) (list_of key) (list_of entry.0) (key_at list_of entries n) _ alone rest

-- a key that wasn't there, with the next number
pub record IsNextKey {K : Type 0} (list_of : K → List ℕ) (cmp : K → K → Ordering) (old new : List (K × ℕ)) (key : K) : Type 0 where
  pub are : AreNumbered list_of old
  pub absent : lookup (is_at (cmp key)) old ≡ None
  pub unnumbered : number_of_key list_of old (list_of key) ≡ None
  pub entries : new ≡ insert_entry cmp old key (length old)
  pub longer : length new ≡ length old + 1

length_inserted : {K : Type 0} (cmp : K → K → Ordering) (key : K) (number : ℕ) (entries : List (K × ℕ)) → lookup (is_at (cmp key)) entries ≡ None
    → length (insert_entry cmp entries key number) ≡ length entries + 1
length_inserted cmp key number [] absent = refl
length_inserted cmp key number (entry ∷ entries) absent =
    by_order (length_inserted cmp key number entries (head_absent _ _ _ absent).1) (cmp key entry.0) (head_absent _ _ _ absent).0
  where
    by_order : length (insert_entry cmp entries key number) ≡ length entries + 1 → (order : Ordering) → is_eq order ≡ false
        → length (match_ordering order ((key, number) ∷ entry ∷ entries) ((entry.0, number) ∷ entries) (entry ∷ insert_entry cmp entries key number)) ≡ length (entry ∷ entries) + 1
    by_order rest Less apart = omega arith
    by_order rest Equal apart = absurd (true≢false apart)
    by_order rest Greater apart = omega arith

-- what a map tells of a key is whether it is among the keys
pub among_is : {K : Type 0} (list_of : K → List ℕ) (entries : List (K × ℕ)) (list : List ℕ) (test : K → Bool) (lists : List (List ℕ)) (told : Bool) → AreNumbered list_of entries
    → ((key : K) → test key ≡ bytes_eq list (list_of key)) → by_number list_of entries ≡ lists → told ≡ is_some (lookup test entries) → is_among list lists ≡ told
among_is list_of entries list test lists told are same view is =
    rw (← view) (sym (is ∙ ap is_some (lookup_by_list list_of test list same entries) ∙ numbered_among list_of entries are list))

-- what it tells of a key that isn't there is that its next number is free
pub next_key : {K : Type 0} (list_of : K → List ℕ) (cmp : K → K → Ordering) (old new : List (K × ℕ)) (key : K) (lists : List (List ℕ)) (number : ℕ) → AreNumbered list_of old
    → ((a b : K) → is_eq (cmp a b) ≡ bytes_eq (list_of a) (list_of b)) → by_number list_of old ≡ lists → is_among (list_of key) lists ≡ false → number ≡ length old
    → new ≡ insert_entry cmp old key number → IsNextKey list_of cmp old new key
next_key list_of cmp old new key lists number are same view apart last grown = record {
  are = are;
  absent = absent;
  unnumbered = unnumbered;
  entries = grown ∙ ap (insert_entry cmp old key) last;
  longer = ap length grown ∙ length_inserted cmp key number old absent;
}
  where
    none : (o : Option ℕ) → is_some o ≡ false → o ≡ None
    none None e = refl
    none (Some n) e = absurd (true≢false e)

    unnumbered : number_of_key list_of old (list_of key) ≡ None
    unnumbered = none _ (numbered_among list_of old are (list_of key) ∙ ap (is_among (list_of key)) view ∙ apart)

    absent : lookup (is_at (cmp key)) old ≡ None
    absent = lookup_by_list list_of (is_at (cmp key)) (list_of key) (same key) old ∙ unnumbered

module _ {K : Type 0} (list_of : K → List ℕ) (cmp : K → K → Ordering) (old new : List (K × ℕ)) (key : K) (next : IsNextKey list_of cmp old new key) where
  past : (n : ℕ) → (n == length old) ≡ true → key_at list_of old n ≡ None
  past n same = none (key_at list_of old n) (next.are.below_count n ∙ le-ltb n (length old) (omega (arith, eqb-true n (length old) same)))
    where
      none : (o : Option (List ℕ)) → is_some o ≡ false → o ≡ None
      none None e = refl
      none (Some x) e = absurd (true≢false e)

  alone : (list : List ℕ) → bytes_eq list (list_of key) ≡ true → number_of_key list_of old list ≡ None
  alone list same = subst (λ l. number_of_key list_of old l ≡ None) (sym ((bytes_eq-Decides list (list_of key)).0 same)) next.unnumbered

  numbers : (list : List ℕ) → number_of_key list_of new list ≡ (if bytes_eq list (list_of key) then Some (length old) else number_of_key list_of old list)
  numbers list = ap (λ entries. number_of_key list_of entries list) next.entries ∙ number_inserted list_of cmp key (length old) old next.absent list (alone list)

  keys : (n : ℕ) → key_at list_of new n ≡ (if n == length old then Some (list_of key) else key_at list_of old n)
  keys n = ap (λ entries. key_at list_of entries n) next.entries ∙ key_inserted list_of cmp key (length old) old next.absent n (past n)

  -- the keys are numbered with it
  pub numbered_with : AreNumbered list_of new
  numbered_with = record {
    below_count = λ n. elim (cases_Bool (n == length old)) [
      | inl same ↦
          let equal : n ≡ length old = eqb-true n (length old) same in
          ap is_some (keys n ∙ then_is (n == length old) _ _ same) ∙ sym (lt-ltb n (length new) (omega (arith, next.longer)))
      | inr apart ↦ ap is_some (keys n ∙ else_is (n == length old) _ _ apart) ∙ next.are.below_count n ∙ more n apart
    ];
    numbered = λ n list e. elim (cases_Bool (n == length old)) [
      | inl same ↦
          let told : Some (list_of key) ≡ Some list = sym (keys n ∙ then_is (n == length old) _ _ same) ∙ e in
          let is : list ≡ list_of key = cc in
          let equal : n ≡ length old = eqb-true n (length old) same in
          numbers list ∙ then_is (bytes_eq list (list_of key)) _ _ ((bytes_eq-Decides list (list_of key)).1 is) ∙ ap Some (sym equal)
      | inr apart ↦ older n list (next.are.numbered n list (sym (keys n ∙ else_is (n == length old) _ _ apart) ∙ e))
    ];
    kept = λ n list e. elim (cases_Bool (bytes_eq list (list_of key))) [
      | inl same ↦
          let told : Some (length old) ≡ Some n = sym (numbers list ∙ then_is (bytes_eq list (list_of key)) _ _ same) ∙ e in
          let equal : n ≡ length old = cc in
          keys n ∙ then_is (n == length old) _ _ (eq-eqb n (length old) equal) ∙ ap Some (sym ((bytes_eq-Decides list (list_of key)).0 same))
      | inr apart ↦ older_key n list (next.are.kept n list (sym (numbers list ∙ else_is (bytes_eq list (list_of key)) _ _ apart) ∙ e))
    ];
  }
    where
      more : (n : ℕ) → (n == length old) ≡ false → nat_lt n (length old) ≡ nat_lt n (length new)
      more n apart = (let long = next.longer in grind (arith, nat_tests))

      older : (n : ℕ) (list : List ℕ) → number_of_key list_of old list ≡ Some n → number_of_key list_of new list ≡ Some n
      older n list is = elim (cases_Bool (bytes_eq list (list_of key))) [
        | inl same ↦ (let never : None ≡ Some n = sym (alone list same) ∙ is in cc)
        | inr apart ↦ numbers list ∙ else_is (bytes_eq list (list_of key)) _ _ apart ∙ is
      ]

      older_key : (n : ℕ) (list : List ℕ) → key_at list_of old n ≡ Some list → key_at list_of new n ≡ Some list
      older_key n list is = elim (cases_Bool (n == length old)) [
        | inl same ↦ (let never : None ≡ Some list = sym (past n same) ∙ is in cc)
        | inr apart ↦ keys n ∙ else_is (n == length old) _ _ apart ∙ is
      ]

  -- it comes last
  pub by_number_with : by_number list_of new ≡ by_number list_of old ++ list_of key ∷ []
  by_number_with =
      ap (list_below (λ n. unwrap_or (key_at list_of new n) [])) next.longer
      ∙ list_below-more (λ n. unwrap_or (key_at list_of new n) []) (length old)
      ∙ ap (λ xs. xs ++ unwrap_or (key_at list_of new (length old)) [] ∷ []) (list_below-agree (λ n. unwrap_or (key_at list_of new n) []) (λ n. unwrap_or (key_at list_of old n) []) (length old)
      (λ k less. ap (λ o. unwrap_or o []) (keys k ∙ else_is (k == length old) _ _ (before k less))))
      ∙ ap (λ o. by_number list_of old ++ unwrap_or o [] ∷ []) (keys (length old) ∙ then_is (length old == length old) _ _ (eq-eqb (length old) (length old) refl))
    where
      before : (k : ℕ) → k < length old → (k == length old) ≡ false
      before k less = grind (arith, nat_tests)
