-- What stands under the name of a file after texts were written into its folder: the last text of that file.
use Rattle.std.proofs.Common.{◌≡◌, ◌==◌, ℕ, ◌*◌, ◌+◌, false, true≢false, if◌then◌else◌, List, [], ◌∷◌, ◌++◌, length, codes, Option, Some, refl, sym, ap, subst, ◌∙◌, inl, inr}
use Rattle.std.specs.Str.{bytes_eq}
use Rattle.std.proofs.lemmas.Bool.{cases_Bool}
use Rattle.std.proofs.lemmas.List.{append_cancel_left}
use Rattle.std.proofs.lemmas.Map.{update_other, update_same}
use Rattle.table_rows.proofs.FrontReading.{bytes_eq-self}
use Rattle.table_rows.proofs.Numbered.{bytes_eq-differ}
use Rattle.plan_desk.specs.Desk.{Files, with_file}
use Rattle.plan_desk.specs.DeskFile.{file_name, path_of}
use Rattle.plan_desk.specs.declared.file.DeskFile.{DeskFile}
use Rattle.plan_desk.specs.declared.file.DeskFile.TheVariants as file
use Rattle.folder_answers.proofs.FileNames.{one_file, self_file}
use Rattle.folder_answers.specs.Contents.{same_file}
use Rattle.folder_answers.specs.Written.{with_texts}
use Rattle.folder_answers.specs.declared.answer.FileText.{FileText}

-- ---- files have names of their own

-- the first byte of a name, and how many follow it
name_key : List ℕ → ℕ
name_key [] = 0
name_key (first ∷ rest) = first * 100 + length rest

-- the file whose name has this key
file_of_key : ℕ → DeskFile
file_of_key n =
    if n == 11511 then file.Stations
    else if n == 10209 then file.Fleets
    else if n == 10807 then file.Legs
    else if n == 9908 then file.Costs
    else if n == 11611 then file.Throughs
    else if n == 11910 then file.Windows
    else if n == 11111 then file.Optional
    else if n == 11608 then file.Tails
    else if n == 11207 then file.Plan
    else if n == 11208 then file.Proof
    else file.Rotation

by_key : (f : DeskFile) → file_of_key (name_key (file_name f)) ≡ f
unfolding name_key file_of_key
by_key file.Stations = refl
by_key file.Fleets = refl
by_key file.Legs = refl
by_key file.Costs = refl
by_key file.Throughs = refl
by_key file.Windows = refl
by_key file.Optional = refl
by_key file.Tails = refl
by_key file.Plan = refl
by_key file.Proof = refl
by_key file.Rotation = refl

-- files of one name in a folder are one
one_path : (dir : List ℕ) (f g : DeskFile) → path_of dir f ≡ path_of dir g → f ≡ g
one_path dir f g same =
    sym (by_key f) ∙ ap (λ name. file_of_key (name_key name)) (append_cancel_left (dir ++ codes "/") (file_name f) (file_name g) same) ∙ by_key g

-- .. so other files have other names
pub other_path : (dir : List ℕ) (f g : DeskFile) → same_file f g ≡ false → path_of dir f ≡ path_of dir g → ⊥
other_path dir f g differs same = true≢false (sym (self_file f) ∙ ap (same_file f) (one_path dir f g same) ∙ differs)

-- ---- texts of a folder

-- the last of these texts that is of a file, and where there is none what there was before
abbrev pub last_text : List FileText → DeskFile → Option (List ℕ) → Option (List ℕ)
last_text [] f before = before
last_text (text ∷ texts) f before = last_text texts f (if same_file f text.file then Some text.bytes else before)

-- one text was written
one_text : (held : Files) (dir : List ℕ) (text : FileText) (f : DeskFile)
    → with_file held (path_of dir text.file) (Some text.bytes) (path_of dir f) ≡ (if same_file f text.file then Some text.bytes else held (path_of dir f))
one_text held dir text f = elim (cases_Bool (same_file f text.file)) [
  | inl same ↦ rw same (subst (λ g. with_file held (path_of dir text.file) (Some text.bytes) (path_of dir g) ≡ Some text.bytes) (sym (one_file f text.file same))
      (update_same bytes_eq held (path_of dir text.file) (Some text.bytes) (path_of dir text.file) (bytes_eq-self (path_of dir text.file))))
  | inr differs ↦ rw differs (update_other bytes_eq held (path_of dir text.file) (Some text.bytes) (path_of dir f) (bytes_eq-differ (path_of dir text.file) (path_of dir f) (λ same. other_path dir f text.file differs (sym same))))
]

pub stands_last : (held : Files) (dir : List ℕ) (texts : List FileText) (f : DeskFile) → with_texts held dir texts (path_of dir f) ≡ last_text texts f (held (path_of dir f))
stands_last held dir [] f = refl
stands_last held dir (text ∷ texts) f = stands_last (with_file held (path_of dir text.file) (Some text.bytes)) dir texts f ∙ ap (last_text texts f) (one_text held dir text f)

-- texts after others
pub with_more : (held : Files) (dir : List ℕ) (first rest : List FileText) → with_texts held dir (first ++ rest) ≡ with_texts (with_texts held dir first) dir rest
with_more held dir [] rest = refl
with_more held dir (text ∷ first) rest = with_more (with_file held (path_of dir text.file) (Some text.bytes)) dir first rest
