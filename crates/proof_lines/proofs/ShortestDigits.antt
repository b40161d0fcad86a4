-- The shortest digits of a number are its decimal form.
use Rattle.std.proofs.Common.{◌≡◌, ℕ, zero, suc, ◌+◌, ◌*◌, ◌/◌, ◌%◌, ◌^◌, ◌<◌, ◌≤◌, ◌==◌, Bool, true, false, cond, List, [], ◌∷◌, ◌++◌, length, slice_index_or, refl, sym, ap, subst, ◌∙◌, append_assoc, Result, Ok, arith}
use Rattle.std.specs.Char.{digit_value}
use Rattle.std.specs.Fmt.{decimal, digits}
use Rattle.std.specs.Str.Parse.{AllDigits, IsNumeral, digits_value, ParsesUnsigned, digits_value_after, without_leading_plus}
use Rattle.std.proofs.lemmas.Bool.Decides.{nat_tests}
use Rattle.std.proofs.lemmas.Fmt.{decimal_by_steps_wide, decimal_digit, decimal_step_wide}
use Rattle.std.proofs.lemmas.List.{append-nil, get_or_append_left, length-append}
use Rattle.std.proofs.lemmas.Str.{digit_value_digit}
use Rattle.std.proofs.lemmas.Str.Parse.{digit_from_value}
use Rattle.dual_bound.specs.declared.prices.TheConstants.{MAX_SIZE}
use Rattle.proof_lines.specs.Figures.{is_shortest}

-- digits behind a number that isn't 0, and digits of which no zero is the first but a lone one

no_less_after : (n : ℕ) (ds : List ℕ) → n ≤ digits_value_after 10 n ds
no_less_after n [] = omega arith
no_less_after n (c ∷ cs) = omega (arith, no_less_after (n * 10 + digit_value c) cs)

digits_behind : (n : ℕ) (ds : List ℕ) → 0 < n → AllDigits 10 ds → digits_value_after 10 n ds < 10 ^ 64 → decimal (digits_value_after 10 n ds) ≡ decimal n ++ ds
digits_behind n [] some d small = sym (append-nil (decimal n))
digits_behind n (c ∷ cs) some d small =
    let m : ℕ = n * 10 + digit_value c in
    let k = digit_value_digit c (digit_from_value c d.0) in
    let front : m / 10 ≡ n = omega (arith, d.0) in
    let end : 48 + m % 10 ≡ c = omega (arith, d.0) in
    digits_behind m cs (omega arith) d.1 small
    ∙ ap (λ x. x ++ cs) (decimal_step_wide m (omega arith) (omega (arith, no_less_after m cs)) ∙ (λ i. decimal (front i) ++ (end i ∷ [])))
    ∙ append_assoc (decimal n) (c ∷ []) cs

digits_are : (ds : List ℕ) → AllDigits 10 ds → 0 < length ds → (slice_index_or ds 0 0 ≡ 48 → length ds ≡ 1) → digits_value 10 ds < 10 ^ 64 → decimal (digits_value 10 ds) ≡ ds
digits_are [] d some lead small = absurd (omega arith)
digits_are (c ∷ []) d some lead small =
    let k = digit_value_digit c (digit_from_value c d.0) in
    decimal_digit (0 * 10 + digit_value c) (omega (arith, d.0)) ∙ ap (λ x. x ∷ []) (omega arith)
digits_are (c ∷ e ∷ cs) d some lead small =
    let k = digit_value_digit c (digit_from_value c d.0) in
    let no : c ≡ 48 → ⊥ = λ z. omega (arith, lead z) in
    let is : 48 + (0 * 10 + digit_value c) ≡ c = omega arith in
    digits_behind (0 * 10 + digit_value c) (e ∷ cs) (omega arith) d.1 small
    ∙ ap (λ x. x ++ (e ∷ cs)) (decimal_digit (0 * 10 + digit_value c) (omega (arith, d.0)) ∙ ap (λ x. x ∷ []) is)

-- what the test of the first byte says

no_plus : (b c : Bool) (rest : Bool) → cond b rest (cond c false true) ≡ true → b ≡ false → c ≡ false
no_plus b true rest e is = absurd (by_test b is e)
  where
    by_test : (b : Bool) → b ≡ false → cond b rest false ≡ true → ⊥
    by_test true is e = absurd (cc is)
    by_test false is e = absurd (cc e)
no_plus b false rest e is = refl

alone : (b c : Bool) (rest : Bool) → cond b rest (cond c false true) ≡ true → b ≡ true → rest ≡ true
alone true c rest e is = e
alone false c rest e is = absurd (cc is)

plus_is_false : (byte : ℕ) (bytes : List ℕ) → is_shortest (byte ∷ bytes) ≡ true → (byte == 43) ≡ false
plus_is_false byte bytes e = by_test (byte == 48) refl
  where
    by_test : (b : Bool) → (byte == 48) ≡ b → (byte == 43) ≡ false
    by_test true is = grind (arith, nat_tests, is)
    by_test false other = no_plus (byte == 48) (byte == 43) (length bytes == 0) e other

same_without : (byte : ℕ) (bytes : List ℕ) (b : Bool) → b ≡ false → (byte == 43) ≡ b → without_leading_plus (byte ∷ bytes) ≡ byte ∷ bytes
same_without byte bytes b is e = rw (e ∙ is) refl

lone : (byte : ℕ) (bytes : List ℕ) → is_shortest (byte ∷ bytes) ≡ true → byte ≡ 48 → length (byte ∷ bytes) ≡ 1
lone byte bytes e zeros =
    let is_zero : (byte == 48) ≡ true = grind (arith, nat_tests, zeros) in
    let none : (length bytes == 0) ≡ true = alone (byte == 48) (byte == 43) (length bytes == 0) e is_zero in
    let none_is : length bytes ≡ 0 = grind (arith, nat_tests, none) in
    omega (arith, none_is)

-- the shortest digits of a number are what it is written as
pub shortest_is : (most n : ℕ) (word : List ℕ) → most ≤ MAX_SIZE → n ≤ most → IsNumeral 10 (without_leading_plus word) → n ≡ digits_value 10 (without_leading_plus word) → is_shortest word ≡ true
    → word ≡ decimal n
shortest_is most n [] within le numeral value shortest = absurd (omega (arith, numeral.0))
shortest_is most n (byte ∷ bytes) within le numeral value shortest =
    let same = same_without byte bytes (byte == 43) (plus_is_false byte bytes shortest) refl in
    let digits : IsNumeral 10 (byte ∷ bytes) = subst (IsNumeral 10) same numeral in
    let is : n ≡ digits_value 10 (byte ∷ bytes) = value ∙ ap (digits_value 10) same in
    let small : digits_value 10 (byte ∷ bytes) < 10 ^ 64 = omega (arith, is, le, within) in
    sym (digits_are (byte ∷ bytes) digits.1 (omega arith) (lone byte bytes shortest) small) ∙ ap (λ k. decimal k) (sym is)

-- what a number is written as is the shortest

begins_apart : (n : ℕ) → n < 10 ^ 64 → (0 < length (decimal n)) × (0 < n → 48 < slice_index_or (decimal n) 0 0)
begins_apart n small =
    decimal_by_steps_wide (λ m ds. (0 < length ds) × (0 < m → 48 < slice_index_or ds 0 0)) (λ m l. (omega arith, λ a. omega arith))
    (λ m ds l h. (omega (arith, length-append ds ((48 + m % 10) ∷ [])), λ a. omega (arith, get_or_append_left ds ((48 + m % 10) ∷ []) 0 0 h.0, h.1 (omega arith)))) n small

great_first : (word : List ℕ) → 0 < length word → 48 < slice_index_or word 0 0 → is_shortest word ≡ true
great_first [] some great = absurd (omega (arith, some))
great_first (byte ∷ bytes) some great = by_tests (byte == 48) (byte == 43) (grind (arith, nat_tests, great)) (grind (arith, nat_tests, great))
  where
    by_tests : (b c : Bool) → b ≡ false → c ≡ false → cond b (length bytes == 0) (cond c false true) ≡ true
    by_tests true c p q = absurd (cc p)
    by_tests false true p q = absurd (cc q)
    by_tests false false p q = refl

pub written_shortest : (n : ℕ) → n < 10 ^ 64 → is_shortest (decimal n) ≡ true
unfolding digits
written_shortest zero small = refl
written_shortest (suc n) small = let begins = begins_apart (suc n) small in great_first (decimal (suc n)) begins.0 (begins.1 (omega arith))

-- what was parsed, as the test of the shortest form says

pub parsed_shortest : {E : Type 0} (most n : ℕ) (word text : List ℕ) (r : Result ℕ E) → most ≤ MAX_SIZE → text ≡ word → ParsesUnsigned 128 10 text r → r ≡ Ok n → n ≤ most → is_shortest word ≡ true
    → word ≡ decimal n
parsed_shortest {E} most n word text r within is parses read le shortest =
    let of_word : ParsesUnsigned 128 10 word r = subst (λ w. ParsesUnsigned 128 10 w r) is parses in
    let of_number : ParsesUnsigned {E = E} 128 10 word (Ok n) = subst (λ r. ParsesUnsigned 128 10 word r) read of_word in
    shortest_is most n word within le of_number.0.0 of_number.1 shortest

pub not_shortest : (most n : ℕ) (word : List ℕ) → most ≤ MAX_SIZE → is_shortest word ≡ false → n ≤ most → word ≡ decimal n → ⊥
not_shortest most n word within longer le e =
    let both = sym longer ∙ ap (λ w. is_shortest w) e ∙ written_shortest n (omega (arith, within, le)) in absurd (cc both)
