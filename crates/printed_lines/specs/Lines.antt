-- Lines of text, put together from pieces.
use Rattle.std.specs.Prelude.{List, [], ◌∷◌, ◌++◌, ℕ}
use Rattle.std.specs.List.{concat}
use Rattle.std.specs.Fmt.{decimal, signed_decimal}
use Rattle.printed_lines.specs.declared.pieces.Piece.{Piece}
use Rattle.printed_lines.specs.declared.pieces.Piece.TheVariants as piece

-- a piece as it is printed
abbrev pub piece_text : Piece → List ℕ
piece_text (piece.Text bytes) = bytes.now
piece_text (piece.Count count) = decimal count
piece_text (piece.Number number) = signed_decimal number

-- pieces of a line, joined, and a line feed
abbrev pub line_of : List (List ℕ) → List ℕ
line_of pieces = concat pieces ++ 10 ∷ []
