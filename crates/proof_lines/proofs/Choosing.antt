-- Tests that hold and don't, and readings that went well.
use Rattle.std.proofs.Common.{◌≡◌, ℕ, Bool, true, false, cond, Option, Some, None, Result, Ok, Err, refl}
use Rattle.proof_lines.specs.Figures.{figure}
use Rattle.proof_lines.specs.Known.{named}
use Rattle.proof_lines.specs.Flaws.{both}
use Rattle.proof_lines.specs.Reading.{made}
use Rattle.proof_lines.specs.declared.flaws.Flaw.{Flaw}
use Rattle.proof_lines.specs.declared.line.Line.{Line}

pub chosen : {A : Type 0} (b : Bool) (x y : A) → b ≡ true → cond b x y ≡ x
chosen true x y is = refl
chosen false x y is = absurd (cc is)

pub refused : {A : Type 0} (b : Bool) (x y : A) → b ≡ false → cond b x y ≡ y
refused true x y is = absurd (cc is)
refused false x y is = refl

-- one of two ways went well, where the other is a flaw
pub record Chose {A : Type 0} (b : Bool) (x : Result A Flaw) (z : A) : Type 0 where
  pub test : b ≡ true
  pub is : x ≡ Ok z

pub chose : {A : Type 0} (b : Bool) (x : Result A Flaw) (flaw : Flaw) (z : A) → cond b x (Err flaw) ≡ Ok z → Chose b x z
chose true x flaw z e = record { test = refl; is = e }
chose false x flaw z e = absurd (cc e)

pub named_some : (o : Option ℕ) (n : ℕ) → named o ≡ Ok n → o ≡ Some n
named_some (Some m) n e = cc e
named_some None n e = absurd (cc e)

pub figure_some : {A : Type 0} (o : Option A) (n : A) → figure o ≡ Ok n → o ≡ Some n
figure_some (Some m) n e = cc e
figure_some None n e = absurd (cc e)

-- what was read made the line
pub record Made {A : Type 0} (f : A → Line) (r : Result A Flaw) (line : Line) : Type 0 where
  pub value : A
  pub is : r ≡ Ok value
  pub line_is : f value ≡ line

pub made_by : {A : Type 0} (f : A → Line) (r : Result A Flaw) (line : Line) → made f r ≡ Ok line → Made f r line
made_by f (Ok a) line e = record { value = a; is = refl; line_is = cc e }
made_by f (Err flaw) line e = absurd (cc e)

-- both readings went well
pub record Both {A B : Type 0} (a : Result A Flaw) (b : Result B Flaw) (pair : A × B) : Type 0 where
  pub first : a ≡ Ok pair.0
  pub second : b ≡ Ok pair.1

pub both_read : {A B : Type 0} (a : Result A Flaw) (b : Result B Flaw) (pair : A × B) → both a b ≡ Ok pair → Both a b pair
both_read (Ok a) (Ok b) pair e = let same : (a, b) ≡ pair = cc e in record { first = λ i. Ok (same i).0; second = λ i. Ok (same i).1 }
both_read (Ok a) (Err flaw) pair e = absurd (cc e)
both_read (Err flaw) (Ok b) pair e = absurd (cc e)
both_read (Err flaw) (Err other) pair e = absurd (cc e)
