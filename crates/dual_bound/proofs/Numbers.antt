-- What arithmetic on signed numbers of 128 bits gives on the way to a worth, where sizes are known, for the crates above.
use Rattle.std.proofs.Common.{◌≡◌, ℕ, ◌+◌, ◌≤◌, ℤ, pos, negsuc, ◌+ℤ◌, ◌-ℤ◌, ◌*ℤ◌, to_z, of_z, add-one, refl, sym, ◌∙◌, ap, subst, arith}
use Rattle.std.proofs.lemmas.Int.{ints, to_z-of_z}
use mir.Syntax.{w128}
use mir.Val.{SFits}
use Rattle.sums.specs.Below.{sum_below_ℤ}
use Rattle.dual_bound.specs.Sizes.{IsUpTo}
use Rattle.dual_bound.proofs.Sizes.{up_to_times}

-- so many prices in one sum 128 bits hold: those of all rises and rounds are fewer
abbrev pub many : ℕ
many = 100000000

-- a number as 128 bits hold it
abbrev pub held : ℤ → ℤ
held z = to_z w128 (of_z w128 z)

-- what is small enough is held
pub fits : (n : ℕ) (z : ℤ) → IsUpTo n z → n ≤ many → SFits w128 z
fits n (pos z) small few = record { sfits = omega (arith, ints, small.no_more) }
fits n (negsuc z) small few = record { sfits = omega (arith, ints, small.no_less) }

pub is_held : (n : ℕ) (z : ℤ) → IsUpTo n z → n ≤ many → held z ≡ z
is_held n z small few = to_z-of_z w128 z (fits n z small few)

up_to_sum : (m n : ℕ) (a b : ℤ) → IsUpTo m a → IsUpTo n b → IsUpTo (m + n) (a +ℤ b)
up_to_sum m n a b p q = record { no_less = omega (arith, ints); no_more = omega (arith, ints) }

-- a sum, a difference, a difference of three, and a sum of three
pub added : (m n : ℕ) (a b x y : ℤ) → IsUpTo m a → IsUpTo n b → m + n ≤ many → a ≡ x → b ≡ y → held (a +ℤ held b) ≡ x +ℤ y
added m n a b x y small_a small_b few p q =
    ap (λ z. held (a +ℤ z)) (is_held n b small_b (omega arith)) ∙ is_held (m + n) (a +ℤ b) (up_to_sum m n a b small_a small_b) few
    ∙ ap (λ z. z +ℤ b) p ∙ ap (λ z. x +ℤ z) q

pub taken : (m n : ℕ) (a b x y : ℤ) → IsUpTo m a → IsUpTo n b → m + n ≤ many → a ≡ x → b ≡ y → held (held a -ℤ held b) ≡ x -ℤ y
taken m n a b x y small_a small_b few p q =
    ap (λ z. held (z -ℤ held b)) (is_held m a small_a (omega arith)) ∙ ap (λ z. held (a -ℤ z)) (is_held n b small_b (omega arith))
    ∙ is_held (m + n) (a -ℤ b) (record { no_less = omega (arith, ints); no_more = omega (arith, ints) }) few
    ∙ ap (λ z. z -ℤ b) p ∙ ap (λ z. x -ℤ z) q

pub two_taken : (l m n : ℕ) (a b c x y z : ℤ) → IsUpTo l a → IsUpTo m b → IsUpTo n c → l + m + n ≤ many → a ≡ x → b ≡ y → c ≡ z
    → held (held (held a -ℤ held b) -ℤ held c) ≡ x -ℤ y -ℤ z
two_taken l m n a b c x y z small_a small_b small_c few p q r =
    ap (λ u. held (u -ℤ held c)) (taken l m a b x y small_a small_b (omega arith) p q ∙ sym (is_held (l + m) (x -ℤ y) small (omega arith)))
    ∙ taken (l + m) n (x -ℤ y) c (x -ℤ y) z small small_c few refl r
  where
    less : IsUpTo l x → IsUpTo m y → IsUpTo (l + m) (x -ℤ y)
    less small_x small_y = record { no_less = omega (arith, ints); no_more = omega (arith, ints) }

    small : IsUpTo (l + m) (x -ℤ y)
    small = less (subst (IsUpTo l) p small_a) (subst (IsUpTo m) q small_b)

pub three_added : (l m n : ℕ) (a b c x y z : ℤ) → IsUpTo l a → IsUpTo m b → IsUpTo n c → l + m + n ≤ many → a ≡ x → b ≡ y → c ≡ z
    → held (held (held a +ℤ held b) +ℤ held c) ≡ x +ℤ y +ℤ z
three_added l m n a b c x y z small_a small_b small_c few p q r =
    ap (λ u. held (held (u +ℤ held b) +ℤ held c)) (is_held l a small_a (omega arith))
    ∙ ap (λ u. held (u +ℤ held c)) (added l m a b x y small_a small_b (omega arith) p q)
    ∙ added (l + m) n (x +ℤ y) c (x +ℤ y) z (subst (λ u. IsUpTo (l + m) (x +ℤ u)) q (subst (λ u. IsUpTo (l + m) (u +ℤ b)) p (up_to_sum l m a b small_a small_b))) small_c few refl r

-- so many times a number
pub multiplied : (most n : ℕ) (a b x : ℤ) → IsUpTo 1 a → a ≡ x → b ≡ pos n → n ≤ most → most ≤ many → held (held a *ℤ held b) ≡ x *ℤ pos n
multiplied most n a b x small p q le few =
    ap (λ z. held (z *ℤ held b)) (is_held 1 a small (omega arith)) ∙ ap (λ z. held (a *ℤ held z)) q
    ∙ ap (λ z. held (a *ℤ z)) (to_z-of_z w128 (pos n) (record { sfits = omega arith }))
    ∙ is_held most (a *ℤ pos n) (up_to_times a n most small le) few ∙ ap (λ z. z *ℤ pos n) p

-- a sum of one term more
pub one_more : (f : ℕ → ℤ) (n : ℕ) → sum_below_ℤ f n +ℤ f n ≡ sum_below_ℤ f (n + 1)
one_more f n = rw (add-one n) refl
