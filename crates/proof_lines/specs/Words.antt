-- The words of a line.
use Rattle.std.specs.Prelude.{ℕ, ◌==◌, ◌&&◌, ◌≤◌, nat_le, Bool, not, List, [], ◌∷◌, length, bytes_eq, map, filter, slice_index_or, All}
use Rattle.std.specs.Borrow.{Bor}
use Rattle.std.specs.List.{flat_map, join_with_byte, list_all, slice_split}

-- a word, as its bytes
abbrev pub Word : Type 0
Word = List ℕ

-- the byte between two words
abbrev pub space : ℕ
space = 32

-- the byte that ends a line
abbrev pub line_feed : ℕ
line_feed = 10

-- words with a space between each two
abbrev pub joined : List Word → List ℕ
joined words = join_with_byte space words

-- a space and a word, and words each behind a space
abbrev pub spaced : Word → List ℕ
spaced word = space ∷ word

abbrev pub spaced_words : List Word → List ℕ
spaced_words words = flat_map spaced words

-- the bytes that slices show
abbrev pub seen : List (Bor (List ℕ)) → List Word
seen slices = map (λ (slice : Bor (List ℕ)). slice.now) slices

-- the parts of a line between its spaces
abbrev pub parts_of : List ℕ → List Word
parts_of line = slice_split (λ byte. byte == space) line

-- the part has a byte
abbrev pub is_word : List ℕ → Bool
is_word part = not (length part == 0)

-- the words of a line: its unbroken runs of bytes other than the space
abbrev pub words_of : List ℕ → List Word
words_of line = filter is_word (parts_of line)

-- all bytes of the line are plain text
abbrev pub is_plain : List ℕ → Bool
is_plain line = list_all (λ byte. nat_le 32 byte && nat_le byte 126) line

-- a word of a line, and none behind the last
abbrev pub word_at : List Word → ℕ → Word
word_at words k = slice_index_or words k []

-- this word stands at a place of the line
abbrev pub stands : List Word → ℕ → Word → Bool
stands words k word = bytes_eq (word_at words k) word

-- a visible byte of ASCII, which a space is not
pub record IsVisible (byte : ℕ) : Type 0 where
  pub no_less : 33 ≤ byte
  pub no_more : byte ≤ 126

-- a word: one byte or more, each visible
pub record IsWord (word : Word) : Type 0 where
  pub some : 1 ≤ length word
  pub visible : All IsVisible word

-- a line of words: one or more
pub record IsOfWords (line : List Word) : Type 0 where
  pub some : 1 ≤ length line
  pub words : All IsWord line

-- a visible byte or a space
pub record IsPlainByte (byte : ℕ) : Type 0 where
  pub no_less : 32 ≤ byte
  pub no_more : byte ≤ 126
