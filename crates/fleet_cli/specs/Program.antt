-- The words that the system gives to a call.
use Rattle.std.specs.Prelude.{ℕ, List, [], map, take, Bool, true, false, if◌then◌else◌, Option, Some, None, Result, Ok, Err, String, string_bytes}
use Rattle.std.specs.IoError.{error_kind}
use Rattle.std.specs.Vec.Iter.{into_iter_items, into_iter_len}
use Rattle.std.specs.declared.alloc.Global.{Global}
use Rattle.std.specs.declared.io.Error.{Error}
use Rattle.std.specs.declared.io.ErrorKind.{ErrorKind}
use Rattle.std.specs.declared.io.ErrorKind.TheVariants.{InvalidData}
use Rattle.std.specs.declared.vec.IntoIter.{IntoIter}

-- some words are no text
abbrev pub is_no_text : ErrorKind → Bool
is_no_text InvalidData = true
is_no_text _ = false

-- the words, all that are still to come
abbrev pub words_in : IntoIter (String Global) Global → List (List ℕ)
words_in args = map string_bytes (take (into_iter_len args) (into_iter_items args))

-- the words of a call: none where some are no text, and nothing is known of them where memory is wanted
abbrev pub given_words : Result (IntoIter (String Global) Global) Error → Option (List (List ℕ))
given_words (Ok args) = Some (words_in args)
given_words (Err error) = if is_no_text (error_kind error) then Some [] else None
