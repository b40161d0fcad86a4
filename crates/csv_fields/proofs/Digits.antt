-- The digits of a field, and the numbers that they write.
use Rattle.std.proofs.Common.{◌≡◌, ◌<◌, ◌≤◌, ◌+◌, ◌-◌, ◌*◌, ◌^◌, ℕ, List, [], ◌∷◌, true, cond, length, drop, get_or, take, refl, arith, rules}
use Rattle.std.specs.Prelude.{count_by}
use Rattle.std.specs.Char.{is_ascii_digit}
use Rattle.std.specs.Int.{IsInRange}
use Rattle.std.specs.List.{list_all}
use Rattle.std.specs.Str.Parse.{digits_value}
use Rattle.std.proofs.lemmas.Bool.{and_parts}
use Rattle.std.proofs.lemmas.Int.Digits.{digits_value_more}
use Rattle.std.proofs.lemmas.List.Sums.{sum_by-cons}
use Rattle.std.proofs.lemmas.Str.{digit_value_digit}
use Rattle.std.proofs.lemmas.Str.Parse.{IsDigitsTest, IsNumeralModel, numerals_by_value, digit_at, digits_value_short, digits_value-take-le}

are_digits : IsDigitsTest (λ ds. list_all is_ascii_digit ds ≡ true)
are_digits = search rules

pub decimals : IsNumeralModel (λ ds. list_all is_ascii_digit ds ≡ true) (digits_value 10)
decimals = numerals_by_value _ are_digits

-- a byte among digits is one
pub digit_fits : (digits : List ℕ) (i : ℕ) → i < length digits → list_all is_ascii_digit digits ≡ true → 48 ≤ get_or digits i 0
digit_fits digits i below decimal = (digit_at digits i (decimals.to digits decimal) below).0

-- the first of at most 20 digits write a number below 10 ^ 20
pub prefix_small : (digits : List ℕ) (i : ℕ) → length digits ≤ 20 → list_all is_ascii_digit digits ≡ true → digits_value 10 (take i digits) < 10 ^ 20
prefix_small digits i few decimal = omega (arith, digits_value-take-le 10 digits i (omega arith), digits_value_short decimals digits 20 decimal few)

-- one digit more
pub prefix_more : (digits : List ℕ) (i : ℕ) → i < length digits → list_all is_ascii_digit digits ≡ true → digits_value 10 (take (i + 1) digits) ≡ digits_value 10 (take i digits) * 10 + (get_or digits i 0 - 48)
prefix_more digits i below decimal =
    let digit : IsInRange 48 57 (get_or digits i 0) = digit_at digits i (decimals.to digits decimal) below in
    omega (arith, digits_value_more 10 digits i below, digit_value_digit (get_or digits i 0) digit)

-- the number that at most 20 digits write
pub value_small : (digits : List ℕ) → length digits ≤ 20 → list_all is_ascii_digit digits ≡ true → digits_value 10 digits < 10 ^ 20
value_small digits few decimal = digits_value_short decimals digits 20 decimal few

-- one byte more is counted or is not
pub count-cons : (byte : ℕ) (rest : List ℕ) → count_by is_ascii_digit (byte ∷ rest) ≡ cond (is_ascii_digit byte) 1 0 + count_by is_ascii_digit rest
count-cons byte rest = sum_by-cons (λ b. cond (is_ascii_digit b) 1 0) byte rest

-- digits are all counted
pub count_all : (digits : List ℕ) → list_all is_ascii_digit digits ≡ true → count_by is_ascii_digit digits ≡ length digits
count_all [] decimal = refl
count_all (byte ∷ rest) decimal =
    let parts : (is_ascii_digit byte ≡ true) × (list_all is_ascii_digit rest ≡ true) = and_parts _ _ decimal in
    let here = parts.0 in
    rw (count-cons byte rest, here, count_all rest parts.1) (omega arith)

-- a field without its first byte has no more digits
pub count_drop : (field : List ℕ) → count_by is_ascii_digit (drop 1 field) ≤ count_by is_ascii_digit field
count_drop [] = omega arith
count_drop (byte ∷ rest) = omega (arith, count-cons byte rest)
