-- Names of flights and fleets are text in which nothing calls for quotes.
use Rattle.std.proofs.Common.{◌≡◌, ℕ, ◌<◌, List, true, false, slice_index_or, arith}
use Rattle.std.specs.List.{list_any}
use Rattle.std.specs.Str.{is_utf8}
use Rattle.std.proofs.lemmas.Bool.Decides.{nat_tests}
use Rattle.std.proofs.lemmas.List.Folds.{list_any_none}
use Rattle.std.proofs.lemmas.Str.{IsUtf8-from_ascii, is_utf8-from_IsUtf8}
use Rattle.std.proofs.lemmas.Str.Ascii.{IsAscii-from_all}
use Rattle.csv.specs.Writing.{default_writer, needs_byte}
use Rattle.entries.specs.Names.{IsName, IsNameByte}

small_byte : (byte : ℕ) → IsNameByte byte → byte < 128
small_byte byte is = grind (arith, nat_tests)

plain_byte : (byte : ℕ) → IsNameByte byte → needs_byte default_writer byte ≡ false
plain_byte byte is = grind (arith, nat_tests)

pub name_is_text : (name : List ℕ) → IsName name → is_utf8 name ≡ true
name_is_text name form = is_utf8-from_IsUtf8 name (IsUtf8-from_ascii name (IsAscii-from_all name (λ k d within. small_byte (slice_index_or name k d) (form.2 k d within))))

pub name_is_plain : (name : List ℕ) → IsName name → list_any (needs_byte default_writer) name ≡ false
name_is_plain name form = list_any_none (needs_byte default_writer) name (λ k d within. plain_byte (slice_index_or name k d) (form.2 k d within))
