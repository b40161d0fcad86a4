-- The fields of made records have the forms of names, numbers and times, and read as what they were made of.
use Rattle.std.proofs.Common.{◌≡◌, ℕ, ◌+◌, ◌*◌, ◌/◌, ◌%◌, ◌<◌, ◌≤◌, ◌^◌, ℤ, pos, Bool, true, false, List, ◌∷◌, ◌++◌, length, codes, slice_index_or, Ok, refl, sym, ap, ◌∙◌, inl, arith}
use Rattle.std.specs.Prelude.{◌≤ℤ◌, All}
use Rattle.std.specs.Char.{IsAsciiDigit, IsAsciiUppercase, is_ascii_uppercase}
use Rattle.std.specs.Fmt.{decimal}
use Rattle.std.specs.List.{list_all}
use Rattle.std.specs.Str.{is_utf8}
use Rattle.std.proofs.lemmas.Bool.Decides.{Decides-by_and, nat_tests}
use Rattle.std.proofs.lemmas.Fmt.{decimal_is_IsNumeral, length-decimal-le}
use Rattle.std.proofs.lemmas.Int.{ints}
use Rattle.std.proofs.lemmas.List.{get_or_default}
use Rattle.std.proofs.lemmas.List.Elements.{All-from_recursion}
use Rattle.std.proofs.lemmas.Str.{IsUtf8-from_ascii, is_utf8-from_IsUtf8}
use Rattle.std.proofs.lemmas.Str.Ascii.{IsAscii-from_all}
use Rattle.std.proofs.lemmas.Str.Parse.{digit_at}
use Rattle.csv.specs.Writing.{default_writer, needs_byte}
use Rattle.csv_fields.specs.Flag.{flag_text, yes_no_of}
use Rattle.csv_fields.specs.Name.{name_of, station_code_of}
use Rattle.csv_fields.specs.Number.{WritesWhole, whole_of}
use Rattle.csv_fields.specs.Time.{clock_time_of, colon, two_digits_of}
use Rattle.csv_fields.proofs.WholeForm.{answer_form}
use Rattle.entries.specs.Names.{IsName, IsNameByte, IsStationCode, is_name_byte}
use Rattle.fleet_model.specs.Period.{minute_of_day}
use Rattle.plan_text.proofs.NameText.{name_is_plain, name_is_text}
use Rattle.table_rows.specs.Fields.{as_natural, natural_of}
use Rattle.table_rows.proofs.ReadParts.{uppercase_decides}
use Rattle.table_maker.specs.Fields.{clock_text}
use Rattle.table_maker.proofs.PlainRows.{IsPlain}

-- a field that reads back from its line, and is text
pub record IsKept (field : List ℕ) : Type 0 where
  pub plain : IsPlain field
  pub text : is_utf8 field ≡ true

pub name_kept : (field : List ℕ) → IsName field → IsKept field
name_kept field form = record { plain = name_is_plain field form; text = name_is_text field form }

-- what has the form of a name or a code reads as one
pub name_reads : (field : List ℕ) → IsName field → name_of field ≡ Ok tt
unfolding name_of
name_reads field form =
    let all = Decides-by_and is_name_byte IsNameByte (list_all is_name_byte) (λ byte. grind (arith, nat_tests)) refl (λ _ _. refl) field in
    grind (arith, nat_tests)

pub code_reads : (field : List ℕ) → IsStationCode field → station_code_of field ≡ Ok tt
unfolding station_code_of
code_reads field form =
    let all = Decides-by_and is_ascii_uppercase IsAsciiUppercase (list_all is_ascii_uppercase) uppercase_decides refl (λ _ _. refl) field in
    grind (arith, nat_tests)

-- the digits of a number
digit_there : (n : ℕ) → n < 2 ^ 64 → (k d : ℕ) → k < length (decimal n) → IsAsciiDigit (slice_index_or (decimal n) k d)
digit_there n small k d within =
    let numeral = (decimal_is_IsNumeral n small).0 in
    rw (get_or_default (decimal n) k d 0 within) (digit_at (decimal n) k numeral.1 within)

name_byte : (byte : ℕ) → IsAsciiDigit byte → IsNameByte byte
name_byte byte digit = grind (arith, nat_tests)

-- a number of at most four digits has the form of a name
pub number_is_name : (n : ℕ) → n < 10000 → IsName (decimal n)
number_is_name n small =
    let small' : n < 2 ^ 64 = omega arith in
    let short : length (decimal n) ≤ 4 = length-decimal-le 4 n (omega arith) (omega arith) small' in
    ((decimal_is_IsNumeral n small').0.0, omega (arith, short), λ k d within. name_byte (slice_index_or (decimal n) k d) (digit_there n small' k d within))

written : (n : ℕ) → n < 10000 → WritesWhole (decimal n) (pos n)
written n small =
    let small' : n < 2 ^ 64 = omega arith in
    let numeral = decimal_is_IsNumeral n small' in
    let short : length (decimal n) ≤ 4 = length-decimal-le 4 n (omega arith) (omega arith) small' in
    record {
      digits = decimal n;
      decimal = record { some = numeral.0.0; few = omega (arith, short); each = λ k d within. digit_there n small' k d within };
      value = inl (refl, ap pos (sym numeral.1));
    }

pub whole_reads : (n : ℕ) (least greatest : ℤ) → n < 10000 → least ≤ℤ pos n → pos n ≤ℤ greatest → whole_of (decimal n) least greatest ≡ Ok (pos n)
whole_reads n least greatest small low high = (answer_form (whole_of (decimal n) least greatest) (decimal n) least greatest refl (pos n)).1 (written n small, low, high)

pub natural_reads : (n greatest : ℕ) → n < 10000 → n ≤ greatest → natural_of (decimal n) greatest ≡ Ok n
natural_reads n greatest small within = ap as_natural (whole_reads n (pos 0) (pos greatest) small (omega (arith, ints)) (omega (arith, ints)))

-- bytes below 128 are text
IsLow : ℕ → Type 0
IsLow byte = byte < 128

low_is_text : (field : List ℕ) → All IsLow field → is_utf8 field ≡ true
unfolding IsLow
low_is_text field low = is_utf8-from_IsUtf8 field (IsUtf8-from_ascii field (IsAscii-from_all field low))

-- flags
pub flag_kept : (flag : Bool) → IsKept (flag_text flag)
unfolding IsLow
flag_kept true = record { plain = refl; text = low_is_text (codes "yes") (All-from_recursion IsLow (codes "yes") (omega arith, (omega arith, (omega arith, tt)))) }
flag_kept false = record { plain = refl; text = low_is_text (codes "no") (All-from_recursion IsLow (codes "no") (omega arith, (omega arith, tt))) }

-- what stands for a limit of parking where there is none
pub hyphen_is_text : is_utf8 (codes "-") ≡ true
unfolding IsLow
hyphen_is_text = low_is_text (codes "-") (All-from_recursion IsLow (codes "-") (omega arith, tt))

pub flag_reads : (flag : Bool) → yes_no_of (flag_text flag) ≡ Ok flag
unfolding yes_no_of
flag_reads true = refl
flag_reads false = refl

-- times
digit_plain : (d : ℕ) → d < 10 → needs_byte default_writer (48 + d) ≡ false
digit_plain d small = grind (arith, nat_tests)

two_plain : (h m : ℕ) → h < 100 → m < 100 → IsPlain (two_digits_of h ++ colon ∷ two_digits_of m)
two_plain h m few less =
    rw (digit_plain (h / 10) (omega arith), digit_plain (h % 10) (omega arith), digit_plain (m / 10) (omega arith), digit_plain (m % 10) (omega arith)) refl

clock_reads_parts : (h m : ℕ) → h < 24 → m < 60 → clock_time_of (two_digits_of h ++ colon ∷ two_digits_of m) ≡ Ok (60 * h + m)
unfolding clock_time_of
clock_reads_parts h m few less = grind (arith, nat_tests)

pub clock_reads : (minute : ℕ) → clock_time_of (clock_text minute) ≡ Ok (minute_of_day minute)
clock_reads minute =
    let of_day = minute_of_day minute in
    clock_reads_parts (of_day / 60) (of_day % 60) (omega arith) (omega arith) ∙ ap Ok (omega arith)

two_text : (h m : ℕ) → h < 24 → m < 60 → is_utf8 (two_digits_of h ++ colon ∷ two_digits_of m) ≡ true
unfolding IsLow
two_text h m few less =
    let shown = two_digits_of h ++ colon ∷ two_digits_of m in
    low_is_text shown (All-from_recursion IsLow shown (omega arith, (omega arith, (omega arith, (omega arith, (omega arith, tt))))))

pub clock_kept : (minute : ℕ) → IsKept (clock_text minute)
clock_kept minute =
    let of_day = minute_of_day minute in
    record {
      plain = two_plain (of_day / 60) (of_day % 60) (omega arith) (omega arith);
      text = two_text (of_day / 60) (of_day % 60) (omega arith) (omega arith);
    }
