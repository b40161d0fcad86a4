-- The files that a run writes, and what stands after them.
use Rattle.std.specs.Prelude.{◌≡◌, ◌⊎◌, ℕ, ◌<◌, ◌≤◌, List, [], ◌∷◌, length, take, slice_index_or, Option, Some, option_and_then, option_map}
use Rattle.plan_desk.specs.Desk.{ChangesOnly, Files, with_file}
use Rattle.plan_desk.specs.DeskFile.{path_of}
use Rattle.plan_desk.specs.declared.file.DeskFile.{DeskFile}
use Rattle.plan_desk.specs.declared.file.DeskFile.TheVariants as desk_file
use Rattle.plan_desk.specs.declared.file.TheConstants.{PROOF_LIMIT}
use Rattle.folder_answers.specs.declared.answer.FileText.{FileText}

-- the files after texts were written into a folder, one after another
abbrev pub with_texts : Files → List ℕ → List FileText → Files
with_texts held dir [] = held
with_texts held dir (text ∷ texts) = with_texts (with_file held (path_of dir text.file) (Some text.bytes)) dir texts

-- the same of what a desk holds, where it tells
abbrev pub held_with_texts : Option Files → List ℕ → List FileText → Option Files
held_with_texts told dir texts = option_map (λ held. with_texts held dir texts) told

-- what stands past the last text
abbrev pub no_text : FileText
no_text = record { file = desk_file.Stations; bytes = [] }

-- the name of the text at a place
abbrev pub text_name : List ℕ → List FileText → ℕ → List ℕ
text_name dir texts k = path_of dir (slice_index_or texts k no_text).file

-- some first texts were written; the name of the next may hold anything, and all other names are as they were
pub record WritesPart (dir : List ℕ) (texts : List FileText) (told stands : Option Files) : Type 0 where
  pub written : ℕ
  pub place : written < length texts
  pub part : ChangesOnly (text_name dir texts written) (held_with_texts told dir (take written texts)) stands

-- some first texts were written, all of them at most, and nothing else changed
pub record WritesFirst (dir : List ℕ) (texts : List FileText) (told stands : Option Files) : Type 0 where
  pub written : ℕ
  pub within : written ≤ length texts
  pub first : stands ≡ held_with_texts told dir (take written texts)

-- some first texts were written and a part of the next, whose file is blamed
pub record WriteFails (dir : List ℕ) (texts : List FileText) (told stands : Option Files) (blamed : Option DeskFile) : Type 0 where
  pub stopped : WritesPart dir texts told stands
  pub blame : blamed ≡ Some (slice_index_or texts stopped.written no_text).file

-- no text is longer than a list of bytes can be
pub record HaveLengths (texts : List FileText) : Type 0 where
  pub each : (k : ℕ) (d : FileText) → k < length texts → length (slice_index_or texts k d).bytes ≤ PROOF_LIMIT

-- all texts were written, or some first ones and a part of the next
abbrev pub StandsAfter : List ℕ → List FileText → Option Files → Option Files → Type 0
StandsAfter dir texts told stands = (stands ≡ held_with_texts told dir texts) ⊎ WritesPart dir texts told stands

-- what stands under a name, where the desk tells
abbrev pub under : Option Files → List ℕ → Option (List ℕ)
under told name = option_and_then (λ held. held name) told
