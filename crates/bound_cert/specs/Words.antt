-- The bytes of lines: words that no space breaks, and plain text in a line.
use Rattle.std.specs.Prelude.{List, All}
pub use Rattle.proof_lines.specs.Words.{IsOfWords, IsPlainByte, IsVisible, IsWord}
use Rattle.proof_lines.specs.Words.{Word, joined}

-- a line whose bytes up to its line feed are visible or spaces
abbrev pub IsPlainLine : List Word → Type 0
IsPlainLine line = All IsPlainByte (joined line)
