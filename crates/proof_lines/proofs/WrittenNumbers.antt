-- The numbers that words write, and the words that numbers are written as.
use Rattle.std.proofs.Common.{◌≡◌, ℕ, zero, suc, ◌≤◌, ◌/◌, ◌%◌, ◌==◌, ◌&&◌, Bool, true, false, cond, List, [], ◌∷◌, ℤ, pos, negsuc, Option, Some, None, nat_le, refl, sym, ap, subst, ◌∙◌, arith}
use Rattle.std.specs.Prelude.{bytes_eq, option_map}
use Rattle.std.specs.Fmt.{decimal, digit_glyph, digits, digits_onto, signed_decimal}
use Rattle.std.specs.Str.Parse.{digits_value}
use Rattle.std.proofs.lemmas.Bool.Decides.{nat_tests}
use Rattle.std.proofs.lemmas.Int.{ints}
use Rattle.proof_lines.specs.Figures.{natural_in, negative, signed_in}
use Rattle.dual_bound.specs.WrittenOrder.{IsFigure}
use Rattle.dual_bound.specs.declared.prices.TheConstants.{MAX_SIZE}
use Rattle.proof_lines.proofs.FigureWords.{one_written, same_bytes}

-- the first byte of a number without a minus

record BeginsWithDigit (word : List ℕ) : Type 0 where
  first : ℕ
  rest : List ℕ
  is : word ≡ first ∷ rest
  digit : 48 ≤ first

before_digit : (n : ℕ) (rest : List ℕ) → BeginsWithDigit (digit_glyph false (n % 10) ∷ rest)
before_digit n rest = record { first = digit_glyph false (n % 10); rest = rest; is = refl; digit = grind (arith, nat_tests) }

either_word : (b : Bool) (xs ys : List ℕ) → BeginsWithDigit xs → BeginsWithDigit ys → BeginsWithDigit (cond b xs ys)
either_word true xs ys left right = left
either_word false xs ys left right = right

onto_digit : (k n : ℕ) (word : List ℕ) → BeginsWithDigit word → BeginsWithDigit (digits_onto k 10 false n word)
onto_digit zero n word is = is
onto_digit (suc k) n word is =
    let more = before_digit n word in
    either_word (n / 10 == 0) _ _ more (onto_digit k (n / 10) (digit_glyph false (n % 10) ∷ word) more)

digit_first : (n : ℕ) → BeginsWithDigit (decimal n)
unfolding digits
digit_first n =
    let last = before_digit n [] in
    either_word (n / 10 == 0) _ _ last (onto_digit 63 (n / 10) (digit_glyph false (n % 10) ∷ []) last)

no_minus : (word : List ℕ) → BeginsWithDigit word → signed_in word ≡ option_map pos (natural_in MAX_SIZE word)
unfolding signed_in
no_minus word is = rw (is.is) (by_test (is.first == 45) _ _ (grind (arith, nat_tests, is.digit)))
  where
    by_test : (b : Bool) (x y : Option ℤ) → b ≡ false → cond b x y ≡ y
    by_test true x y e = absurd (cc e)
    by_test false x y e = refl

-- a number is what its word reads as

pub natural_written : (most n : ℕ) → most ≤ MAX_SIZE → n ≤ most → natural_in most (decimal n) ≡ Some n
natural_written most n within le = one_written most n (decimal n) within le refl

pub number_written : (z : ℤ) → IsFigure z → signed_in (signed_decimal z) ≡ Some z
unfolding signed_in
number_written (pos n) is =
    no_minus (decimal n) (digit_first n) ∙ ap (λ m. option_map pos m) (natural_written MAX_SIZE n (omega arith) (omega (arith, ints, is.no_more)))
number_written (negsuc n) is =
    ap (λ m. negative m) (natural_written MAX_SIZE (suc n) (omega arith) (omega (arith, ints, is.no_less)))

-- a word that reads as a number is what the number is written as

pub record IsWritten (most n : ℕ) (word : List ℕ) : Type 0 where
  pub within : n ≤ most
  pub word_is : word ≡ decimal n

read_by : (a b : Bool) (d n : ℕ) → cond (a && b) (Some d) None ≡ Some n → (a ≡ true) × (b ≡ true) × (d ≡ n)
read_by true true d n e = (refl, refl, cc e)
read_by true false d n e = absurd (cc e)
read_by false b d n e = absurd (cc e)

pub natural_read : (most n : ℕ) (word : List ℕ) → natural_in most word ≡ Some n → IsWritten most n word
unfolding natural_in
natural_read most n word e =
    let d = digits_value 10 word in
    let parts = read_by (nat_le d most) (bytes_eq (decimal d) word) d n e in
    let is : d ≡ n = parts.2 in
    record {
      within = subst (λ k. k ≤ most) is (grind (arith, nat_tests, parts.0));
      word_is = sym (same_bytes (decimal d) word parts.1) ∙ ap (λ k. decimal k) is;
    }

pub record IsNumberWritten (z : ℤ) (word : List ℕ) : Type 0 where
  pub figure : IsFigure z
  pub word_is : word ≡ signed_decimal z

positive_read : (word : List ℕ) (o : Option ℕ) (z : ℤ) → natural_in MAX_SIZE word ≡ o → option_map pos o ≡ Some z → IsNumberWritten z word
positive_read word None z is e = absurd (cc e)
positive_read word (Some n) z is e =
    let read = natural_read MAX_SIZE n word is in
    let same : pos n ≡ z = cc e in
    subst (λ z. IsNumberWritten z word) same
    (record { figure = record { no_less = omega (arith, ints, read.within); no_more = omega (arith, ints, read.within) }; word_is = read.word_is })

negative_read : (word : List ℕ) (o : Option ℕ) (z : ℤ) → natural_in MAX_SIZE word ≡ o → negative o ≡ Some z → IsNumberWritten z (45 ∷ word)
negative_read word None z is e = absurd (cc e)
negative_read word (Some zero) z is e = absurd (cc e)
negative_read word (Some (suc n)) z is e =
    let read = natural_read MAX_SIZE (suc n) word is in
    let same : negsuc n ≡ z = cc e in
    subst (λ z. IsNumberWritten z (45 ∷ word)) same
    (record { figure = record { no_less = omega (arith, ints, read.within); no_more = omega (arith, ints, read.within) }; word_is = ap (λ w. 45 ∷ w) read.word_is })

pub number_read : (z : ℤ) (word : List ℕ) → signed_in word ≡ Some z → IsNumberWritten z word
unfolding signed_in
number_read z [] e = positive_read [] (natural_in MAX_SIZE []) z refl e
number_read z (byte ∷ bytes) e = by_test (byte == 45) refl e
  where
    by_test : (b : Bool) → (byte == 45) ≡ b → cond b (negative (natural_in MAX_SIZE bytes)) (option_map pos (natural_in MAX_SIZE (byte ∷ bytes))) ≡ Some z → IsNumberWritten z (byte ∷ bytes)
    by_test true is e =
        let minus : byte ≡ 45 = grind (arith, nat_tests, is) in
        subst (λ b. IsNumberWritten z (b ∷ bytes)) (sym minus) (negative_read bytes (natural_in MAX_SIZE bytes) z refl e)
    by_test false is e = positive_read (byte ∷ bytes) (natural_in MAX_SIZE (byte ∷ bytes)) z refl e
