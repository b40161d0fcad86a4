-- What is a word that no space breaks: words of the definitions, numbers, names.
use Rattle.std.proofs.Common.{◌≡◌, ℕ, zero, suc, ◌<◌, ◌/◌, ◌%◌, ◌&&◌, ◌==◌, Bool, true, false, cond, List, [], ◌∷◌, ℤ, pos, negsuc, nat_le, codes, refl, arith}
use Rattle.std.specs.Prelude.{All}
use Rattle.std.specs.Char.{IsAsciiUppercase}
use Rattle.std.specs.Fmt.{decimal, digit_glyph, digits, digits_onto, signed_decimal}
use Rattle.std.specs.List.{list_all}
use Rattle.std.proofs.lemmas.Bool.Decides.{nat_tests}
use Rattle.std.proofs.lemmas.List.Elements.{All-cons, All-nil, All-weaker}
use Rattle.sums.proofs.Tests.{first_true, second_true}
use Rattle.entries.specs.Names.{IsName, IsNameByte, IsStationCode}
use Rattle.fleet_model.specs.Schedule.{fleet_by, fleets_in, leg_on, legs_in, no_fleet, no_leg, no_station, stations_in}
use Rattle.fleet_model.specs.declared.tables.Tables.{Tables}
use Rattle.proof_lines.specs.LineText.{fleet_word, flier_word, is_flown, leg_word, shift_words, station_word}
use Rattle.proof_lines.specs.Words.{IsVisible, IsWord}

-- words that stand in the definitions

abbrev visible : ℕ → Bool
visible byte = nat_le 33 byte && nat_le byte 126

visible_is : (byte : ℕ) → visible byte ≡ true → IsVisible byte
visible_is byte is = record { no_less = grind (arith, nat_tests); no_more = grind (arith, nat_tests) }

all_visible : (word : List ℕ) → list_all visible word ≡ true → All IsVisible word
all_visible [] passes = All-nil IsVisible
all_visible (byte ∷ bytes) passes =
    All-cons IsVisible byte bytes (visible_is byte (first_true (visible byte) (list_all visible bytes) passes))
    (all_visible bytes (second_true (visible byte) (list_all visible bytes) passes))

pub written : (byte : ℕ) (bytes : List ℕ) → list_all visible (byte ∷ bytes) ≡ true → IsWord (byte ∷ bytes)
written byte bytes passes = record { some = omega arith; visible = all_visible (byte ∷ bytes) passes }

-- numbers

glyph : (n : ℕ) → IsVisible (digit_glyph false (n % 10))
glyph n = record { no_less = grind (arith, nat_tests); no_more = grind (arith, nat_tests) }

either_word : (b : Bool) (xs ys : List ℕ) → IsWord xs → IsWord ys → IsWord (cond b xs ys)
either_word true xs ys left right = left
either_word false xs ys left right = right

before_word : (byte : ℕ) (bytes : List ℕ) → IsVisible byte → All IsVisible bytes → IsWord (byte ∷ bytes)
before_word byte bytes one others = record { some = omega arith; visible = All-cons IsVisible byte bytes one others }

onto_word : (k n : ℕ) (word : List ℕ) → IsWord word → IsWord (digits_onto k 10 false n word)
onto_word zero n word is = is
onto_word (suc k) n word is =
    let more = before_word (digit_glyph false (n % 10)) word (glyph n) is.visible in
    either_word (n / 10 == 0) _ _ more (onto_word k (n / 10) (digit_glyph false (n % 10) ∷ word) more)

pub number_word : (n : ℕ) → IsWord (decimal n)
unfolding digits
number_word n =
    let last = before_word (digit_glyph false (n % 10)) [] (glyph n) (All-nil IsVisible) in
    either_word (n / 10 == 0) _ _ last (onto_word 63 (n / 10) (digit_glyph false (n % 10) ∷ []) last)

pub signed_word : (z : ℤ) → IsWord (signed_decimal z)
signed_word (pos n) = number_word n
signed_word (negsuc n) = before_word 45 (decimal (suc n)) (record { no_less = omega arith; no_more = omega arith }) (number_word (suc n)).visible

-- names

visible_name : (byte : ℕ) → IsNameByte byte → IsVisible byte
visible_name byte is = record { no_less = grind (arith, nat_tests); no_more = grind (arith, nat_tests) }

visible_letter : (byte : ℕ) → IsAsciiUppercase byte → IsVisible byte
visible_letter byte is = record { no_less = grind (arith, nat_tests); no_more = grind (arith, nat_tests) }

name_word : (name : List ℕ) → IsName name → IsWord name
name_word name is = record { some = is.0; visible = All-weaker IsNameByte IsVisible visible_name name is.2 }

code_word : (code : List ℕ) → IsStationCode code → IsWord code
code_word code is = record { some = omega (arith, is.0); visible = All-weaker IsAsciiUppercase IsVisible visible_letter code is.1 }

pub leg_is : (t : Tables) (l : ℕ) → l < legs_in t → IsWord (leg_word t l)
leg_is t l leg = name_word (leg_word t l) (t.in_range.legs_fit.each l no_leg leg).flight

pub fleet_is : (t : Tables) (f : ℕ) → f < fleets_in t → IsWord (fleet_word t f)
fleet_is t f fleet = name_word (fleet_word t f) (t.in_range.fleets_fit.each f no_fleet fleet).name

-- `-` is a word, so what flies a leg is one
pub flier_is : (t : Tables) (l c : ℕ) → IsWord (flier_word t l c)
flier_is t l c = by_flown (is_flown t l c) refl
  where
    by_flown : (b : Bool) → is_flown t l c ≡ b → IsWord (cond b (fleet_word t (fleet_by t (leg_on l c))) (codes "-"))
    by_flown true is = fleet_is t (fleet_by t (leg_on l c)) (grind (arith, nat_tests, is))
    by_flown false is = written _ _ refl

pub shift_is : (b : Bool) (z : ℤ) → All IsWord (shift_words b (signed_decimal z))
shift_is true z = All-cons IsWord (signed_decimal z) [] (signed_word z) (All-nil IsWord)
shift_is false z = All-nil IsWord

pub station_is : (t : Tables) (s : ℕ) → s < stations_in t → IsWord (station_word t s)
station_is t s station = code_word (station_word t s) (t.in_range.stations_fit.each s no_station station).code
