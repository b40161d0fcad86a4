-- Words by their places, where it is known how many there are.
use Rattle.std.proofs.Common.{◌≡◌, ◌+◌, Bool, true, false, List, [], ◌∷◌, ◌++◌, length, refl, arith}
use Rattle.proof_lines.specs.Forms.{pair_end}
use Rattle.proof_lines.specs.LineText.{shift_words}
use Rattle.proof_lines.specs.Words.{Word, word_at}

pub one_word : (words : List Word) → length words ≡ 1 → words ≡ word_at words 0 ∷ []
one_word (a ∷ []) e = refl
one_word [] e = absurd (omega (arith, e))
one_word (a ∷ b ∷ words) e = absurd (omega (arith, e))

pub two_words : (words : List Word) → length words ≡ 2 → words ≡ word_at words 0 ∷ word_at words 1 ∷ []
two_words (a ∷ b ∷ []) e = refl
two_words [] e = absurd (omega (arith, e))
two_words (a ∷ []) e = absurd (omega (arith, e))
two_words (a ∷ b ∷ c ∷ words) e = absurd (omega (arith, e))

pub three_words : (words : List Word) → length words ≡ 3 → words ≡ word_at words 0 ∷ word_at words 1 ∷ word_at words 2 ∷ []
three_words (a ∷ b ∷ c ∷ []) e = refl
three_words [] e = absurd (omega (arith, e))
three_words (a ∷ []) e = absurd (omega (arith, e))
three_words (a ∷ b ∷ []) e = absurd (omega (arith, e))
three_words (a ∷ b ∷ c ∷ d ∷ words) e = absurd (omega (arith, e))

pub four_words : (words : List Word) → length words ≡ 4 → words ≡ word_at words 0 ∷ word_at words 1 ∷ word_at words 2 ∷ word_at words 3 ∷ []
four_words (a ∷ b ∷ c ∷ d ∷ []) e = refl
four_words [] e = absurd (omega (arith, e))
four_words (a ∷ []) e = absurd (omega (arith, e))
four_words (a ∷ b ∷ []) e = absurd (omega (arith, e))
four_words (a ∷ b ∷ c ∷ []) e = absurd (omega (arith, e))
four_words (a ∷ b ∷ c ∷ d ∷ f ∷ words) e = absurd (omega (arith, e))

pub five_words : (words : List Word) → length words ≡ 5 → words ≡ word_at words 0 ∷ word_at words 1 ∷ word_at words 2 ∷ word_at words 3 ∷ word_at words 4 ∷ []
five_words (a ∷ b ∷ c ∷ d ∷ f ∷ []) e = refl
five_words [] e = absurd (omega (arith, e))
five_words (a ∷ []) e = absurd (omega (arith, e))
five_words (a ∷ b ∷ []) e = absurd (omega (arith, e))
five_words (a ∷ b ∷ c ∷ []) e = absurd (omega (arith, e))
five_words (a ∷ b ∷ c ∷ d ∷ []) e = absurd (omega (arith, e))
five_words (a ∷ b ∷ c ∷ d ∷ f ∷ g ∷ words) e = absurd (omega (arith, e))

-- a pair, with its shift where there is one, and alone or before one word more
pub pair_alone : (b : Bool) (words : List Word) → length words ≡ pair_end b → words ≡ word_at words 0 ∷ word_at words 1 ∷ word_at words 2 ∷ (shift_words b (word_at words 3) ++ [])
pair_alone true words e = four_words words e
pair_alone false words e = three_words words e

pub pair_before : (b : Bool) (words : List Word) → length words ≡ pair_end b + 1
    → words ≡ word_at words 0 ∷ word_at words 1 ∷ word_at words 2 ∷ (shift_words b (word_at words 3) ++ word_at words (pair_end b) ∷ [])
pair_before true words e = five_words words e
pair_before false words e = four_words words e
