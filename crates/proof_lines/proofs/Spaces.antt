-- Words with a space between each two, cut again, and a line that is cut, joined again.
use Rattle.std.proofs.Common.{◌≡◌, ℕ, ◌≤◌, ◌==◌, ◌&&◌, Bool, true, false, cond, List, [], ◌∷◌, length, nat_le, refl, sym, ap, ◌∙◌, eqb, arith}
use Rattle.std.specs.Prelude.{All, filter}
use Rattle.std.specs.List.{join_with_byte, slice_split}
use Rattle.std.proofs.lemmas.Bool.Decides.{nat_tests}
use Rattle.std.proofs.lemmas.List.Elements.{All-append, All-cons, All-head, All-nil, All-tail, All-weaker}
use Rattle.std.proofs.lemmas.List.Splits.{join_with_byte-slice_split, slice_split_at, slice_split_none}
use Rattle.sums.proofs.Tests.{both_true}
use Rattle.proof_lines.specs.Words.{IsOfWords, IsPlainByte, IsVisible, IsWord, Word, is_plain, is_word, joined, parts_of, space, words_of}
use Rattle.proof_lines.proofs.Choosing.{chosen}

-- plain text

plain_word : (word : Word) → All IsVisible word → All IsPlainByte word
plain_word word is = All-weaker IsVisible IsPlainByte (λ byte visible. record { no_less = omega (arith, visible.no_less); no_more = visible.no_more }) word is

pub joined_plain : (words : List Word) → All IsWord words → All IsPlainByte (joined words)
joined_plain [] is = All-nil IsPlainByte
joined_plain (word ∷ []) is = plain_word word (All-head IsWord word [] is).visible
joined_plain (word ∷ other ∷ others) is =
    All-append IsPlainByte word _ (plain_word word (All-head IsWord word (other ∷ others) is).visible)
    (All-cons IsPlainByte space _ (record { no_less = omega arith; no_more = omega arith }) (joined_plain (other ∷ others) (All-tail IsWord word (other ∷ others) is)))

plain_byte : (byte : ℕ) → IsPlainByte byte → (nat_le 32 byte && nat_le byte 126) ≡ true
plain_byte byte is = both_true (nat_le 32 byte) (nat_le byte 126) (grind (arith, nat_tests, is.no_less)) (grind (arith, nat_tests, is.no_more))

pub plain_all : (bytes : List ℕ) → All IsPlainByte bytes → is_plain bytes ≡ true
plain_all [] are = refl
plain_all (byte ∷ bytes) are =
    both_true (nat_le 32 byte && nat_le byte 126) (is_plain bytes) (plain_byte byte (All-head IsPlainByte byte bytes are)) (plain_all bytes (All-tail IsPlainByte byte bytes are))

-- words come back from their line

abbrev is_space : ℕ → Bool
is_space byte = eqb byte space

no_space : (word : Word) → IsWord word → All (λ byte. is_space byte ≡ false) word
no_space word is = All-weaker IsVisible (λ byte. is_space byte ≡ false) (λ byte visible. grind (arith, nat_tests, visible.no_less)) word is.visible

cut_back : (word : Word) (others : List Word) → All IsWord (word ∷ others) → slice_split is_space (join_with_byte space (word ∷ others)) ≡ word ∷ others
cut_back word [] are = slice_split_none is_space word (no_space word (All-head IsWord word [] are))
cut_back word (other ∷ others) are =
    slice_split_at is_space word space (join_with_byte space (other ∷ others)) (no_space word (All-head IsWord word (other ∷ others) are)) refl
    ∙ ap (λ rest. word ∷ rest) (cut_back other others (All-tail IsWord word (other ∷ others) are))

pub parts_back : (words : List Word) → IsOfWords words → parts_of (joined words) ≡ words
parts_back [] is = absurd (omega (arith, is.some))
parts_back (word ∷ others) is = cut_back word others is.words

filter_all : (words : List Word) → All IsWord words → filter is_word words ≡ words
filter_all [] are = refl
filter_all (word ∷ words) are =
    let some : is_word word ≡ true = grind (arith, nat_tests, (All-head IsWord word words are).some) in
    chosen (is_word word) (word ∷ filter is_word words) (filter is_word words) some ∙ ap (λ rest. word ∷ rest) (filter_all words (All-tail IsWord word words are))

pub words_back : (words : List Word) → IsOfWords words → words_of (joined words) ≡ words
words_back words is = ap (filter is_word) (parts_back words is) ∙ filter_all words is.words

-- a line comes back from its words, where they are as many as its parts

keeps_few : (parts : List Word) → length (filter is_word parts) ≤ length parts
keeps_few [] = omega arith
keeps_few (part ∷ parts) = by_test (is_word part) (keeps_few parts)
  where
    by_test : (b : Bool) → length (filter is_word parts) ≤ length parts → length (cond b (part ∷ filter is_word parts) (filter is_word parts)) ≤ length (part ∷ parts)
    by_test true le = omega (arith, le)
    by_test false le = omega (arith, le)

keeps_all : (parts : List Word) → length (filter is_word parts) ≡ length parts → filter is_word parts ≡ parts
keeps_all [] e = refl
keeps_all (part ∷ parts) e = by_test (is_word part) (keeps_all parts) e
  where
    by_test : (b : Bool) → (length (filter is_word parts) ≡ length parts → filter is_word parts ≡ parts) → length (cond b (part ∷ filter is_word parts) (filter is_word parts)) ≡ length (part ∷ parts)
        → cond b (part ∷ filter is_word parts) (filter is_word parts) ≡ part ∷ parts
    by_test true on e = ap (λ ps. part ∷ ps) (on (omega (arith, e)))
    by_test false on e = absurd (omega (arith, e, keeps_few parts))

pub line_back : (line : List ℕ) → (length (words_of line) == length (parts_of line)) ≡ true → line ≡ joined (words_of line)
line_back line e =
    sym (join_with_byte-slice_split space line)
    ∙ ap (λ words. join_with_byte space words) (sym (keeps_all (parts_of line) (grind (arith, nat_tests, e))))
