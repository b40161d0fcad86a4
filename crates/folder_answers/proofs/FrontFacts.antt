-- Reading one file more of a list.
use Rattle.std.proofs.Common.{◌≡◌, ◌⊎◌, ℕ, ◌+◌, ◌<◌, ◌≤◌, Bool, true, false, if◌then◌else◌, List, length, get_or, Option, Some, None, IfSome, refl, sym, subst, ◌∙◌, inl, inr, arith}
use Rattle.std.proofs.lemmas.Bool.{cases_Bool, cases_lt}
use Rattle.std.proofs.lemmas.List.{get_or_default}
use Rattle.plan_desk.specs.Desk.{Files}
use Rattle.plan_desk.specs.DeskFile.{path_of}
use Rattle.plan_desk.specs.declared.file.DeskFile.{DeskFile}
use Rattle.folder_answers.proofs.FileNames.{looked_up, one_file, self_file}
use Rattle.folder_answers.specs.Contents.{FileBytes, bytes_in, file_content, same_file, with_content}
use Rattle.folder_answers.specs.Gathered.{ComesTo, FrontHeld, IsAmong, IsHeldWithin, limit_of}
use Rattle.folder_answers.specs.declared.contents.Contents.{Contents}

-- the file at a place is one of them
pub at_place : (names : List DeskFile) (place : ℕ) (d : DeskFile) → place < length names → IsAmong names (get_or names place d)
at_place names place d within = record { place = place; within = within; is = λ e. get_or_default names place d e within }

module _ (held : Files) (dir : List ℕ) where
  -- bytes that stand in a file are those of the folder
  pub stands_in : (f : DeskFile) (bytes : List ℕ) → held (path_of dir f) ≡ Some bytes → bytes ≡ bytes_in held dir f
  stands_in f bytes there = rw there refl

  pub held_in : (f : DeskFile) (bytes : List ℕ) → IsHeldWithin held dir f bytes → IsHeldWithin held dir f (bytes_in held dir f)
  held_in f bytes is = subst (λ b. IsHeldWithin held dir f b) (stands_in f bytes is.stands) is

  -- of one file the new bytes, of others the old ones
  pub picked : (g f : DeskFile) (bytes old : List ℕ) → IsHeldWithin held dir f bytes → (same_file g f ≡ false → IsHeldWithin held dir g old) → IsHeldWithin held dir g (if same_file g f then bytes else old)
  picked g f bytes old is others = elim (cases_Bool (same_file g f)) [
    | inl same ↦ rw same (subst (λ h. IsHeldWithin held dir h bytes) (sym (one_file g f same)) is)
    | inr differs ↦ rw differs (others differs)
  ]

  module _ (names : List DeskFile) where
    pub front_in : (n : ℕ) (bytes : FileBytes) → FrontHeld held dir names n bytes → FrontHeld held dir names n (bytes_in held dir)
    front_in n bytes front = record { each = λ k d below. held_in (get_or names k d) (bytes (get_or names k d)) (front.each k d below) }

    -- reading comes to the file behind the first
    pub comes_to : (n : ℕ) (d : DeskFile) (bytes : FileBytes) → FrontHeld held dir names n bytes → n < length names → ComesTo held dir names (get_or names n d)
    comes_to n d bytes front within = record { place = n; within = within; is = λ e. get_or_default names n d e within; front = front_in n bytes front }

    -- the bytes of one file more
    pub front_put : (c : Contents) (n : ℕ) (d : DeskFile) (bytes : List ℕ) → FrontHeld held dir names n (file_content c) → n < length names → IsHeldWithin held dir (get_or names n d) bytes
        → FrontHeld held dir names (n + 1) (file_content (with_content c (get_or names n d) bytes))
    front_put c n d bytes front within is = record {
      each = λ k e below. rw (looked_up c (get_or names n d) bytes (get_or names k e)) (picked (get_or names k e) (get_or names n d) bytes (file_content c (get_or names k e)) is (λ differs. by_place k e below differs (cases_lt k n)));
    }
      where
        by_place : (k : ℕ) (e : DeskFile) → k < n + 1 → same_file (get_or names k e) (get_or names n d) ≡ false → (k < n) ⊎ (n ≤ k) → IsHeldWithin held dir (get_or names k e) (file_content c (get_or names k e))
        by_place k e below differs (inl before) = front.each k e before
        by_place k e below differs (inr past) =
            let last : n ≡ k = omega arith in
            let same : same_file (get_or names k e) (get_or names n d) ≡ true = rw (← last) (rw (get_or_default names n e d within) (self_file (get_or names n d))) in
            absurd (let never : ◌≡◌ {A = Bool} true false = sym same ∙ differs in cc)

-- the same of a desk that may not tell
pub front_put_if : (told : Option Files) (dir : List ℕ) (names : List DeskFile) (c : Contents) (n : ℕ) (d : DeskFile) (bytes : List ℕ) → IfSome told (λ held. FrontHeld held dir names n (file_content c)) → n < length names
    → IfSome told (λ held. held (path_of dir (get_or names n d)) ≡ Some bytes) → length bytes ≤ limit_of (get_or names n d)
    → IfSome told (λ held. FrontHeld held dir names (n + 1) (file_content (with_content c (get_or names n d) bytes)))
front_put_if None dir names c n d bytes front within there short = tt
front_put_if (Some held) dir names c n d bytes front within there short = front_put held dir names c n d bytes front within (record { stands = there; within = short })

pub comes_to_if : (told : Option Files) (dir : List ℕ) (names : List DeskFile) (n : ℕ) (d : DeskFile) (bytes : FileBytes) → IfSome told (λ held. FrontHeld held dir names n bytes) → n < length names
    → IfSome told (λ held. ComesTo held dir names (get_or names n d))
comes_to_if None dir names n d bytes front within = tt
comes_to_if (Some held) dir names n d bytes front within = comes_to held dir names n d bytes front within

pub held_if : (told : Option Files) (dir : List ℕ) (f : DeskFile) (bytes : List ℕ) → IfSome told (λ held. held (path_of dir f) ≡ Some bytes) → length bytes ≤ limit_of f → IfSome told (λ held. IsHeldWithin held dir f bytes)
held_if None dir f bytes there short = tt
held_if (Some held) dir f bytes there short = record { stands = there; within = short }
