-- Files by number, and what was read of each.
use Rattle.std.proofs.Common.{◌≡◌, ℕ, true, List, [], ◌∷◌, if◌then◌else◌, slice_index_or, refl, sym, ap, ◌∙◌}
use Rattle.std.proofs.lemmas.Bool.{eq-eqb, eqb-true}
use Rattle.plan_desk.specs.declared.file.DeskFile.{DeskFile}
use Rattle.plan_desk.specs.declared.file.DeskFile.TheVariants as file
use Rattle.folder_answers.specs.Contents.{file_content, file_number, same_file, with_content}
use Rattle.folder_answers.specs.declared.contents.Contents.{Contents}

-- the file of a number
file_at : ℕ → DeskFile
file_at n = slice_index_or (file.Stations ∷ file.Fleets ∷ file.Legs ∷ file.Costs ∷ file.Throughs ∷ file.Windows ∷ file.Optional ∷ file.Tails ∷ file.Plan ∷ file.Proof ∷ []) n file.Rotation

at_number : (f : DeskFile) → file_at (file_number f) ≡ f
unfolding file_at
at_number file.Stations = refl
at_number file.Fleets = refl
at_number file.Legs = refl
at_number file.Costs = refl
at_number file.Throughs = refl
at_number file.Windows = refl
at_number file.Optional = refl
at_number file.Tails = refl
at_number file.Plan = refl
at_number file.Proof = refl
at_number file.Rotation = refl

-- files of one number are one
pub one_file : (f g : DeskFile) → same_file f g ≡ true → f ≡ g
one_file f g same = sym (at_number f) ∙ ap file_at (eqb-true (file_number f) (file_number g) same) ∙ at_number g

pub self_file : (f : DeskFile) → same_file f f ≡ true
self_file f = eq-eqb (file_number f) (file_number f) refl

-- what is read of a file, after one was put
pub looked_up : (c : Contents) (f : DeskFile) (bytes : List ℕ) (g : DeskFile) → file_content (with_content c f bytes) g ≡ (if same_file g f then bytes else file_content c g)
looked_up c f bytes file.Stations = refl
looked_up c f bytes file.Fleets = refl
looked_up c f bytes file.Legs = refl
looked_up c f bytes file.Costs = refl
looked_up c f bytes file.Throughs = refl
looked_up c f bytes file.Windows = refl
looked_up c f bytes file.Optional = refl
looked_up c f bytes file.Tails = refl
looked_up c f bytes file.Plan = refl
looked_up c f bytes file.Proof = refl
looked_up c f bytes file.Rotation = refl
