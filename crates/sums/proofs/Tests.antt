-- Tests that pass or don't, for the crates above.
use Rattle.std.proofs.Common.{◌≡◌, ◌≤◌, Bool, true, false, cond, if◌then◌else◌, not, ◌&&◌, ◌||◌, Some, None, refl, sym, ◌∙◌, arith}
use mathlib.Core.Bool.{false≢true}

-- by whether a test passes
pub by_test : {X : Type 0} (b : Bool) → (b ≡ true → X) → (b ≡ false → X) → X
by_test true p q = p refl
by_test false p q = q refl

pub unlike : {X : Type 0} → true ≡ false → X
unlike e = absurd (false≢true (sym e))

pub no_both : {b : Bool} → b ≡ false → b ≡ true → ⊥
no_both p q = false≢true (sym p ∙ q)

-- what never passes fails
pub never_passes : (b : Bool) → (b ≡ true → ⊥) → b ≡ false
never_passes true never = absurd (never refl)
never_passes false never = refl

-- two tests that pass together
pub same_tests : (a b : Bool) → (a ≡ true → b ≡ true) → (b ≡ true → a ≡ true) → a ≡ b
same_tests true b p q = sym (p refl)
same_tests false true p q = q refl
same_tests false false p q = refl

-- two tests in one
pub both_true : (a b : Bool) → a ≡ true → b ≡ true → (a && b) ≡ true
both_true true b p q = q
both_true false b p q = absurd (false≢true p)

pub first_true : (a b : Bool) → (a && b) ≡ true → a ≡ true
first_true true b e = refl
first_true false b e = e

pub second_true : (a b : Bool) → (a && b) ≡ true → b ≡ true
second_true true b e = e
second_true false b e = absurd (false≢true e)

pub parts_true : (a b : Bool) → (a && b) ≡ true → (a ≡ true) × (b ≡ true)
parts_true true b e = (refl, e)
parts_true false b e = absurd (false≢true e)

-- one of two tests
pub by_either : {X : Type 0} (b c : Bool) → (b || c) ≡ true → (b ≡ true → X) → (c ≡ true → X) → X
by_either true c e p q = p refl
by_either false c e p q = q e

pub or_false : (b : Bool) → (b || false) ≡ b
or_false true = refl
or_false false = refl

pub other_true : (a b : Bool) → (a || b) ≡ true → a ≡ false → b ≡ true
other_true true b e off = unlike off
other_true false b e off = e

-- the opposite of a test
pub not_true : (b : Bool) → not b ≡ true → b ≡ false
not_true false e = refl
not_true true e = absurd (false≢true e)

pub not_false : (b : Bool) → not b ≡ false → b ≡ true
not_false true e = refl
not_false false e = unlike e

-- what a test picks
pub picked : {X : Type 0} (b : Bool) (x y : X) → b ≡ true → x ≡ cond b x y
picked true x y e = refl
picked false x y e = absurd (false≢true e)

pub passed_over : {X : Type 0} (b : Bool) (x y : X) → b ≡ false → y ≡ cond b x y
passed_over false x y e = refl
passed_over true x y e = unlike e

pub first_fails : {X : Type 0} (a b : Bool) (x y : X) → a ≡ false → cond (a && b) x y ≡ y
first_fails false b x y e = refl
first_fails true b x y e = unlike e

pub by_choice : {X : Type 0} (P : X → Type 0) (b : Bool) (x y : X) → (b ≡ true → P x) → (b ≡ false → P y) → P (cond b x y)
by_choice P true x y p q = p refl
by_choice P false x y p q = q refl

-- what may be there
pub some_is : {X : Type 0} (x y : X) → Some x ≡ Some y → x ≡ y
some_is x y e = cc

pub none_some : {X : Type 0} {x : X} → None ≡ Some x → ⊥
none_some e = cc

-- what a test counts
pub at_most_one : (b : Bool) → (if b then 1 else 0) ≤ 1
at_most_one true = omega arith
at_most_one false = omega arith
