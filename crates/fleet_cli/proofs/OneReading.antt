-- All files that are read are within their limits, or one first of them is too long, and not both.
use Rattle.std.proofs.Common.{◌≡◌, ℕ, ◌<◌, List, length, get_or, Option, IsSomeAnd, sym, ap, subst, ◌∙◌, inl, inr, arith}
use Rattle.std.proofs.lemmas.Bool.{cases_order}
use Rattle.command_words.specs.Words.{Asked}
use Rattle.plan_desk.specs.Desk.{Files}
use Rattle.plan_desk.specs.DeskFile.{path_of}
use Rattle.plan_desk.specs.declared.file.DeskFile.{DeskFile}
use Rattle.fleet_cli.proofs.SameBytes.{follows_plan}
use Rattle.folder_answers.specs.Contents.{bytes_in}
use Rattle.folder_answers.specs.Gathered.{ComesTo, FrontHeld, IsHeldWithin, limit_of}
use Rattle.fleet_cli.specs.Reading.{AllWithin, IsFileReached, IsTooLong, first_files, folder_of}

-- a file within its limit isn't too long
not_longer : (held : Files) (dir : List ℕ) (f : DeskFile) (bytes : List ℕ) → IsHeldWithin held dir f bytes → IsSomeAnd (held (path_of dir f)) (λ b. limit_of f < length b) → ⊥
not_longer held dir f bytes is longer =
    let past : limit_of f < length bytes = subst (λ o. IsSomeAnd o (λ b. limit_of f < length b)) is.stands longer in
    let short = is.within in
    omega arith

module _ (asked : Option Asked) (held : Files) where
  -- a file that reading comes to, within a front of files that stand there
  in_front : (f : DeskFile) (n : ℕ) (x : ComesTo held (folder_of asked) (first_files asked) f) → IsSomeAnd (held (path_of (folder_of asked) f)) (λ b. limit_of f < length b)
      → FrontHeld held (folder_of asked) (first_files asked) n (bytes_in held (folder_of asked)) → ¬ (x.place < n)
  in_front f n x longer front below =
      not_longer held (folder_of asked) f _ (subst (λ g. IsHeldWithin held (folder_of asked) g (bytes_in held (folder_of asked) g)) (sym (x.is f)) (front.each x.place f below)) longer

  within : (f : DeskFile) → AllWithin asked held → IsFileReached asked held f → IsHeldWithin held (folder_of asked) f (bytes_in held (folder_of asked) f)
  within f x (inl comes) = subst (λ g. IsHeldWithin held (folder_of asked) g (bytes_in held (folder_of asked) g)) (sym (comes.is f)) (x.first.each comes.place f comes.within)
  within f x (inr follows) = x.further f follows.1

  pub within_or_long : (f : DeskFile) → AllWithin asked held → IsTooLong asked held f → ⊥
  within_or_long f x long = not_longer held (folder_of asked) f _ (within f x long.reached) long.longer

  by_reach : (a b : DeskFile) → IsFileReached asked held a → IsFileReached asked held b → IsSomeAnd (held (path_of (folder_of asked) a)) (λ bytes. limit_of a < length bytes)
      → IsSomeAnd (held (path_of (folder_of asked) b)) (λ bytes. limit_of b < length bytes) → a ≡ b
  by_reach a b (inl x) (inl y) long other = elim (cases_order x.place y.place) [
    | inl same ↦ x.is a ∙ ap (λ k. get_or (first_files asked) k a) same ∙ sym (y.is a)
    | inr differs ↦ elim differs [
      | inl before ↦ absurd (in_front a y.place x long y.front before)
      | inr after ↦ absurd (in_front b x.place y other x.front after)
    ]
  ]
  by_reach a b (inl x) (inr y) long other = absurd (in_front a (length (first_files asked)) x long y.0 x.within)
  by_reach a b (inr x) (inl y) long other = absurd (in_front b (length (first_files asked)) y other x.0 y.within)
  by_reach a b (inr x) (inr y) long other = follows_plan asked _ a x.1 ∙ sym (follows_plan asked _ b y.1)

  pub one_too_long : (a b : DeskFile) → IsTooLong asked held a → IsTooLong asked held b → a ≡ b
  one_too_long a b x y = by_reach a b x.reached y.reached x.longer y.longer
