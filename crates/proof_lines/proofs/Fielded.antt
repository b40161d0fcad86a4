-- What is read part by part, and the line that it makes.
use Rattle.std.proofs.Common.{◌≡◌, ℕ, ℤ, Option, Result, sym, ap, ◌∙◌}
use Rattle.proof_lines.specs.Flaws.{both}
use Rattle.proof_lines.specs.Known.{Naming, pair_of}
use Rattle.proof_lines.specs.Reading.{made}
use Rattle.proof_lines.specs.declared.flaws.Flaw.{Flaw}
use Rattle.proof_lines.specs.declared.line.Line.{Line}

pub both_as : {A B : Type 0} (r : Result (A × B) Flaw) (a x : Result A Flaw) (b y : Result B Flaw) → r ≡ both a b → a ≡ x → b ≡ y → r ≡ both x y
both_as r a x b y is first second = is ∙ ap (λ a. both a b) first ∙ ap (both x) second

pub made_as : {A : Type 0} (f : A → Line) (r x wanted : Result A Flaw) → r ≡ x → r ≡ wanted → made f x ≡ made f wanted
made_as f r x wanted is reads = ap (made f) (sym is ∙ reads)

pub pair_as : (n : Naming) (r x wanted : Result ((ℕ × Option ℕ) × ℤ) Flaw) → r ≡ x → r ≡ wanted → pair_of n x ≡ pair_of n wanted
pair_as n r x wanted is reads = ap (pair_of n) (sym is ∙ reads)
