-- The number that a word writes, from what std's parser says of it.
use Rattle.std.proofs.Common.{◌≡◌, ℕ, ◌≤◌, ◌&&◌, Bool, true, false, cond, List, Some, None, Result, Ok, Err, nat_le, refl, sym, ◌∙◌, ap, subst, arith}
use Rattle.std.specs.Prelude.{bytes_eq}
use Rattle.std.specs.Fmt.{decimal}
use Rattle.std.specs.Str.{IsAscii, IsUtf8}
use Rattle.std.specs.Str.Parse.{ParsesUnsigned, digits_value}
use Rattle.std.proofs.lemmas.Bool.Decides.{nat_tests}
use Rattle.std.proofs.lemmas.Fmt.{IsAscii-decimal_wide, decimal_is_IsNumeral_wide, parse-decimal_wide}
use Rattle.std.proofs.lemmas.Str.{IsUtf8-from_ascii}
use Rattle.std.proofs.lemmas.Slice.Eq.{bytes_eq-Decides}
use Rattle.sums.proofs.Tests.{parts_true}
use Rattle.proof_lines.specs.Figures.{natural_in}
use Rattle.dual_bound.specs.declared.prices.TheConstants.{MAX_SIZE}

-- no number up to this one has the word as its decimal form
abbrev pub IsNone : ℕ → List ℕ → Type 0
IsNone most word = (n : ℕ) → n ≤ most → word ≡ decimal n → ⊥

pub same_bytes : (a b : List ℕ) → bytes_eq a b ≡ true → a ≡ b
same_bytes a b e = (bytes_eq-Decides a b).0 e

pub bytes_same : (a b : List ℕ) → a ≡ b → bytes_eq a b ≡ true
bytes_same a b e = (bytes_eq-Decides a b).1 e

chosen : (b : Bool) (n : ℕ) → (b ≡ true → ⊥) → cond b (Some n) None ≡ None
chosen true n no_test = absurd (no_test refl)
chosen false n no_test = refl

passes : (b c : Bool) (d n : ℕ) → b ≡ true → c ≡ true → d ≡ n → cond (b && c) (Some d) None ≡ Some n
passes true true d n p q e = ap (λ k. Some k) e
passes true false d n p q e = absurd (cc q)
passes false c d n p q e = absurd (cc p)

pub none_written : (most : ℕ) (word : List ℕ) → IsNone most word → natural_in most word ≡ None
unfolding natural_in
none_written most word none =
    let d = digits_value 10 word in
    chosen (nat_le d most && bytes_eq (decimal d) word) d
    (λ e. let parts = parts_true (nat_le d most) (bytes_eq (decimal d) word) e in none d (grind (arith, nat_tests, parts.0)) (sym (same_bytes (decimal d) word parts.1)))

pub one_written : (most n : ℕ) (word : List ℕ) → most ≤ MAX_SIZE → n ≤ most → word ≡ decimal n → natural_in most word ≡ Some n
unfolding natural_in
one_written most n word within le e =
    let read = decimal_is_IsNumeral_wide n (omega arith) in
    let value : digits_value 10 word ≡ n = ap (λ w. digits_value 10 w) e ∙ read.1 in
    passes (nat_le (digits_value 10 word) most) (bytes_eq (decimal (digits_value 10 word)) word) (digits_value 10 word) n
    (grind (arith, nat_tests, value)) (bytes_same (decimal (digits_value 10 word)) word (ap (λ k. decimal k) value ∙ sym e)) value

ok_same : {E : Type 0} (m n : ℕ) → ◌≡◌ {A = Result ℕ E} (Ok m) (Ok n) → m ≡ n
ok_same m n e = cc e

-- a word that is no text, and one that is not parsed
pub not_text : (most : ℕ) (word : List ℕ) → most ≤ MAX_SIZE → ¬ (IsUtf8 word) → IsNone most word
not_text most word within not n le e = not (IsUtf8-from_ascii word (subst (λ w. IsAscii w) (sym e) (IsAscii-decimal_wide n (omega arith))))

pub parsed : {E : Type 0} (most n : ℕ) (word : List ℕ) (r : Result ℕ E) → most ≤ MAX_SIZE → ParsesUnsigned 128 10 word r → n ≤ most → word ≡ decimal n → r ≡ Ok n
parsed most n word r within parses le e = parse-decimal_wide 128 n word r (omega arith) (omega arith) e parses

-- a word that is parsed as nothing, and one that is parsed as a number that is too great or is written otherwise
pub not_parsed : {E : Type 0} (most : ℕ) (word text : List ℕ) (r : Result ℕ E) (error : E) → most ≤ MAX_SIZE → text ≡ word → ParsesUnsigned 128 10 text r → r ≡ Err error → IsNone most word
not_parsed most word text r error within is parses failed n le e =
    let one = sym (parsed most n text r within parses le (is ∙ e)) ∙ failed in absurd (cc one)

pub otherwise : {E : Type 0} (most m : ℕ) (word text : List ℕ) (r : Result ℕ E) → most ≤ MAX_SIZE → text ≡ word → ParsesUnsigned 128 10 text r → r ≡ Ok m → ((m ≤ most) → word ≡ decimal m → ⊥) → IsNone most word
otherwise most m word text r within is parses read not n le e =
    let one : n ≡ m = ok_same n m (sym (parsed most n text r within parses le (is ∙ e)) ∙ read) in
    not (subst (λ k. k ≤ most) one le) (e ∙ ap (λ k. decimal k) one)
