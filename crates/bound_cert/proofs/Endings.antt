-- What is read of the lines before an end: it stays, or goes on to a whole.
use Rattle.bound_cert.proofs.LineTwins.{Alike, Twin, alike_first}
use Rattle.bound_cert.proofs.ReadOn.{bound}
use Rattle.bound_cert.proofs.Shrinking.{Shrinks, shrinks_bind}
use Rattle.bound_cert.proofs.WrittenPrices.{IsBehind}
use Rattle.bound_cert.specs.Lines.{◌>>=◌, Left, Reading, Stopped}
use Rattle.std.proofs.Common.{[], ◌++◌, ◌<◌, ◌∙◌, ◌∷◌, ◌≡◌, ◌≤◌, ◌⊎◌, Bool, Err, List, Ok, ap, append_assoc, arith, cond, false, inl, inr, length, length-append, refl, subst, sym, true, ℕ}
use Rattle.std.specs.Prelude.{⊤}

-- where nothing of the lines before is left, these may stand
abbrev pub MayAt : (Left → Type 0) → Left → Left → Type 0
MayAt May [] m = May m
MayAt May (x ∷ p) m = ⊤

pub any_at : (p m : Left) → MayAt (λ m. ⊤) p m
any_at [] m = tt
any_at (x ∷ p) m = tt

-- what was read stays as it is with any other lines behind it that may follow
pub record Stays {A : Type 0} (May : Left → Type 0) (end : Left) (f : Left → Reading (A × Left)) (p : Left) (read : A × Left) : Type 0 where
  pub rest : Left
  pub left_is : read.1 ≡ rest ++ end
  pub stays : (m : Left) → 0 < length m → MayAt May rest m → f (p ++ m) ≡ Ok (read.0, rest ++ m)

-- lines go on to such that read, whatever of another kind stands behind them
pub record Completes {A : Type 0} (Need : Left → Type 0) (f : Left → Reading (A × Left)) (p : Left) : Type 0 where
  pub more : Left
  pub value : A
  pub reads : (z : Left) → IsBehind z → f (p ++ (more ++ z)) ≡ Ok (value, z)
  pub need : (z : Left) → IsBehind z → MayAt Need p (more ++ z)

-- what is read of lines before an end stays, or reading went beyond its first line; and what stops at the end goes on
abbrev pub EndsBy : {A : Type 0} → (Left → Type 0) → (Left → Type 0) → Left → (Left → Reading (A × Left)) → Left → Reading (A × Left) → Type 0
EndsBy May Need end f p (Ok read) = Stays May end f p read ⊎ (length read.1 < length end)
EndsBy May Need end f p (Err e) = e.left ≡ length end → Completes Need f p

pub some_more : (more z : Left) → 0 < length z → 0 < length (more ++ z)
some_more more z some = omega (arith, some, length-append more z)

alike_behind : (x : List ℕ) (a b : Left) → 0 < length a → 0 < length b → Alike (x ∷ a) (x ∷ b)
alike_behind x [] b some other = absurd (omega (arith, some))
alike_behind x (y ∷ a) [] some other = absurd (omega (arith, other))
alike_behind x (y ∷ a) (z ∷ b) some other = alike_first x y z a b

pub alike_after : (x line : List ℕ) (p after m : Left) → 0 < length m → Alike (x ∷ (p ++ line ∷ after)) (x ∷ (p ++ m))
alike_after x line p after m some = alike_behind x (p ++ line ∷ after) (p ++ m) (some_more p (line ∷ after) (omega arith)) (some_more p m some)

pub value_of : {A : Type 0} (a b : Left) (r s : Reading A) (x : A) → Twin a b r s → r ≡ Ok x → s ≡ Ok x
value_of a b (Ok y) s x twin is = twin ∙ is
value_of a b (Err e) s x twin is = absurd (cc is)

-- a line before the end that fails doesn't fail at the end
pub not_there : {A P : Type 0} (x : List ℕ) (p end : Left) (r : Reading A) (e : Stopped) → Twin (x ∷ (p ++ end)) (x ∷ (p ++ end)) r r → r ≡ Err e → e.left ≡ length end → P
not_there x p end (Ok y) e twin is there = absurd (cc is)
not_there x p end (Err d) e twin is there =
    let one : d ≡ e = cc is in
    let same : d.left ≡ e.left = ap (λ s. s.left) one in
    absurd (omega (arith, twin.0, same, there, length-append p end))

module _ {A : Type 0} (May Need : Left → Type 0) (end : Left) (f : Left → Reading (A × Left)) (p : Left) where
  pub ends_if : (c : Bool) (x y : Reading (A × Left)) → (c ≡ true → EndsBy May Need end f p x) → (c ≡ false → EndsBy May Need end f p y) → EndsBy May Need end f p (cond c x y)
  ends_if true x y first second = first refl
  ends_if false x y first second = second refl

  pub ends_read : {B : Type 0} (r : Reading B) (g : B → Reading (A × Left)) → ((e : Stopped) → r ≡ Err e → e.left ≡ length end → Completes Need f p) → ((x : B) → r ≡ Ok x → EndsBy May Need end f p (g x))
      → EndsBy May Need end f p (r >>= g)
  ends_read (Ok x) g stops on = on x refl
  ends_read (Err e) g stops on = λ there. stops e refl there

  pub beyond : (n : ℕ) (r : Reading (A × Left)) → Shrinks n r → n < length end → EndsBy May Need end f p r
  beyond n (Ok read) is short = inr (omega (arith, is, short))
  beyond n (Err e) is short = λ there. absurd (omega (arith, is, short, there))

  -- the same of what is read in another way of other lines
  pub ends_lift : (h : Left → Reading (A × Left)) (q : Left) (r : Reading (A × Left)) → ((m : Left) → MayAt Need q m → MayAt Need p m) → ((m : Left) → 0 < length m → f (p ++ m) ≡ h (q ++ m)) → EndsBy May Need end h q r
      → EndsBy May Need end f p r
  ends_lift h q (Ok read) wider onward (inl is) = inl (record { rest = is.rest; left_is = is.left_is; stays = λ m some may. onward m some ∙ is.stays m some may })
  ends_lift h q (Ok read) wider onward (inr short) = inr short
  ends_lift h q (Err e) wider onward is = λ there.
      let done = is there in
      record {
        more = done.more;
        value = done.value;
        reads = λ z ends. onward (done.more ++ z) (some_more done.more z ends.some) ∙ done.reads z ends;
        need = λ z ends. wider (done.more ++ z) (done.need z ends);
      }

-- what is read and then put into another form
pub ends_map : {A C : Type 0} (May Need : Left → Type 0) (end : Left) (f : Left → Reading (A × Left)) (h : A → C) (g : Left → Reading (C × Left)) (p q : Left) (r : Reading (A × Left)) → ((m : Left) → MayAt Need q m → MayAt Need p m)
    → ((m : Left) → 0 < length m → g (p ++ m) ≡ (f (q ++ m) >>= λ x. Ok (h x.0, x.1))) → EndsBy May Need end f q r → EndsBy May Need end g p (r >>= λ x. Ok (h x.0, x.1))
ends_map May Need end f h g p q (Ok read) wider onward (inl is) =
    inl (record { rest = is.rest; left_is = is.left_is; stays = λ m some may. onward m some ∙ ap (λ r. r >>= λ x. Ok (h x.0, x.1)) (is.stays m some may) })
ends_map May Need end f h g p q (Ok read) wider onward (inr short) = inr short
ends_map May Need end f h g p q (Err e) wider onward is = λ there.
    let done = is there in
    record {
      more = done.more;
      value = h done.value;
      reads = λ z ends. onward (done.more ++ z) (some_more done.more z ends.some) ∙ ap (λ r. r >>= λ x. Ok (h x.0, x.1)) (done.reads z ends);
      need = λ z ends. wider (done.more ++ z) (done.need z ends);
    }

-- one part read behind another, and behind both what may stand there
module _ {A B C : Type 0} (MayFirst NeedFirst May Last : Left → Type 0) (end : Left) (f : Left → Reading (A × Left)) (g : A → Left → Reading (B × Left)) (h : A → B → C) (whole : Left → Reading (C × Left)) (p q : Left)
    (weaker : (m : Left) → Last m → MayFirst m) (last : (m : Left) → Last m → May m)
    (onward : (m : Left) → 0 < length m → whole (p ++ m) ≡ (f (q ++ m) >>= λ x. g x.0 x.1 >>= λ y. Ok (h x.0 y.0, y.1)))
    (empty : (a : A) → Completes IsBehind (g a) [])
    (shrinks : (a : A) (b : Left) → Shrinks (length b) (g a b)) where
  -- what may follow the second part may follow the first
  may_first : (rest left m : Left) (read : Left) → read ≡ left ++ end → length read ≤ length (rest ++ end) → MayAt Last left m → MayAt MayFirst rest m
  may_first [] [] m read is less may = weaker m may
  may_first [] (x ∷ left) m read is less may = absurd (omega (arith, ap length is, less, length-append left end))
  may_first (x ∷ rest) left m read is less may = tt

  may_last : (left m : Left) → MayAt Last left m → MayAt May left m
  may_last [] m may = last m may
  may_last (x ∷ left) m may = tt

  second_ends : (a : A) (rest : Left) → ((m : Left) → 0 < length m → MayAt MayFirst rest m → f (q ++ m) ≡ Ok (a, rest ++ m)) → (r : Reading (B × Left)) → Shrinks (length (rest ++ end)) r
      → EndsBy May MayFirst end (g a) rest r → EndsBy Last (λ m. ⊤) end whole p (r >>= λ y. Ok (h a y.0, y.1))
  second_ends a rest stays (Ok read) less (inl is) = inl (record {
    rest = is.rest;
    left_is = is.left_is;
    stays = λ m some may.
        onward m some ∙ bound (f (q ++ m)) (a, rest ++ m) _ (stays m some (may_first rest is.rest m read.1 is.left_is less may))
        ∙ bound (g a (rest ++ m)) (read.0, is.rest ++ m) _ (is.stays m some (may_last is.rest m may));
  })
  second_ends a rest stays (Ok read) less (inr short) = inr short
  second_ends a rest stays (Err e) less is = λ there.
      let done = is there in
      record {
        more = done.more;
        value = h a done.value;
        reads = λ z ends.
            let some = some_more done.more z ends.some in
            onward (done.more ++ z) some
            ∙ bound (f (q ++ (done.more ++ z))) (a, rest ++ (done.more ++ z)) _ (stays (done.more ++ z) some (done.need z ends))
            ∙ bound (g a (rest ++ (done.more ++ z))) (done.value, z) _ (done.reads z ends);
        need = λ z ends. any_at p (done.more ++ z);
      }

  pub ends_then : ((a : A) (rest : Left) → EndsBy May MayFirst end (g a) rest (g a (rest ++ end))) → (r : Reading (A × Left)) → EndsBy MayFirst NeedFirst end f q r
      → EndsBy Last (λ m. ⊤) end whole p (r >>= λ x. g x.0 x.1 >>= λ y. Ok (h x.0 y.0, y.1))
  ends_then second (Ok read) (inl is) =
      subst (λ b. EndsBy Last (λ m. ⊤) end whole p (g read.0 b >>= λ y. Ok (h read.0 y.0, y.1))) (sym is.left_is)
      (second_ends read.0 is.rest is.stays (g read.0 (is.rest ++ end)) (shrinks read.0 (is.rest ++ end)) (second read.0 is.rest))
  ends_then second (Ok read) (inr short) =
      beyond Last (λ m. ⊤) end whole p (length read.1) _ (shrinks_bind (length read.1) (g read.0 read.1) _ (shrinks read.0 read.1) (λ b rest. omega arith)) short
  ends_then second (Err e) is = λ there.
      let done = is there in
      let behind = (empty done.value) in
      record {
        more = done.more ++ behind.more;
        value = h done.value behind.value;
        reads = λ z ends.
            let lines : (done.more ++ behind.more) ++ z ≡ done.more ++ (behind.more ++ z) = append_assoc done.more behind.more z in
            ap (λ m. whole (p ++ m)) lines
            ∙ onward (done.more ++ (behind.more ++ z)) (some_more done.more (behind.more ++ z) (some_more behind.more z ends.some))
            ∙ bound (f (q ++ (done.more ++ (behind.more ++ z)))) (done.value, behind.more ++ z) _ (done.reads (behind.more ++ z) (behind.need z ends))
            ∙ bound (g done.value (behind.more ++ z)) (behind.value, z) _ (behind.reads z ends);
        need = λ z ends. any_at p ((done.more ++ behind.more) ++ z);
      }
