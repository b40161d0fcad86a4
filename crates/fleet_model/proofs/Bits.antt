-- A row of kept choices is that which was written as bits of numbers.
use Rattle.std.proofs.Common.{◌≡◌, ℕ, zero, suc, ◌+◌, ◌-◌, ◌*◌, ◌/◌, ◌%◌, ◌<◌, ◌≤◌, ◌==◌, Bool, true, false, if◌then◌else◌, List, [], ◌∷◌, ◌++◌, append_assoc, length, length-append, slice_index_or, slice_set, refl, sym, ◌∙◌, ap, subst, inl, inr, arith, get_or-set_same, get_or-set_other, length-set}
use Rattle.std.proofs.lemmas.Bool.{cases_lt}
use Rattle.std.proofs.lemmas.Bool.Decides.{nat_tests}
use Rattle.std.proofs.lemmas.Grind.{common_steps}
use Rattle.sums.specs.Places.{list_below}
use Rattle.sums.proofs.Blocks.{behind, in_front}
use Rattle.sums.proofs.Naturals.{as_a_sum}
use Rattle.sums.proofs.Places.{filled_all, get_or-list_below, length-list_below, list_below-agree, list_below-more, list_below-push}
use Rattle.fleet_model.specs.Bits.{IsWritten, bits_in, number_of_bits}

-- ---- lists of tests by number
abbrev at : List Bool → ℕ → Bool
at row k = slice_index_or row k false

by_number : (row : List Bool) → row ≡ list_below (at row) (length row)
by_number row = filled_all false (at row) row row (length row) (record { same_length = refl; filled = λ k below. refl; kept = λ k past. refl }) (omega arith)

same_rows : (row other : List Bool) → length row ≡ length other → ((k : ℕ) → k < length row → at row k ≡ at other k) → row ≡ other
same_rows row other long same =
    by_number row ∙ list_below-agree (at row) (at other) (length row) same ∙ ap (list_below (at other)) long ∙ sym (by_number other)

-- ---- a row as numbers
half : (n : ℕ) (b : Bool) → (2 * n + (if b then 1 else 0)) / 2 ≡ n
half n true = omega arith
half n false = omega arith

least : (n : ℕ) (b : Bool) → ((2 * n + (if b then 1 else 0)) % 2 == 1) ≡ b
least n true = let odd : (2 * n + 1) % 2 ≡ 1 = omega arith in grind (arith, nat_tests, odd)
least n false = let even : (2 * n + 0) % 2 ≡ 0 = omega arith in grind (arith, nat_tests, even)

bits_back : (row : List Bool) (first n : ℕ) → bits_in n (number_of_bits row first n) ≡ list_below (λ k. at row (first + k)) n
bits_back row first zero = refl
bits_back row first (suc n) =
    ap (λ number. bits_in n number ++ ((2 * number_of_bits row first n + (if at row (first + n) then 1 else 0)) % 2 == 1) ∷ []) (half (number_of_bits row first n) (at row (first + n)))
    ∙ ap (λ b. bits_in n (number_of_bits row first n) ++ b ∷ []) (least (number_of_bits row first n) (at row (first + n)))
    ∙ list_below-push (λ k. at row (first + k)) n (bits_in n (number_of_bits row first n)) (at row (first + n)) (bits_back row first n) refl
    ∙ ap (list_below (λ k. at row (first + k))) one_more
  where
    one_more : n + 1 ≡ suc n
    one_more = omega arith

bits_long : (n number : ℕ) → length (bits_in n number) ≡ n
bits_long zero number = refl
bits_long (suc n) number = omega (arith, length-append (bits_in n (number / 2)) ((number % 2 == 1) ∷ []), bits_long n (number / 2))

-- three pieces, one behind another
abbrev pieces : List Bool → List Bool → List Bool → List Bool
pieces one two three = one ++ (two ++ three)

moved : (k first long : ℕ) → k ≡ first + (k - first) → long ≡ first → k ≡ long + (k - first)
moved k first long place same = omega (arith, place, same)

moved_twice : (k one two : ℕ) → k ≡ 122 + (k - 122) → one ≡ 61 → two ≡ 61 → k ≡ one + (two + (k - 122))
moved_twice k one two place first second = omega (arith, place, first, second)

module _ (one two three row : List Bool) (long : length one ≡ 61) (second : length two ≡ 61) (third : length three ≡ 59) (whole : length row ≡ 181)
    (first_is : (k : ℕ) → k < 61 → at row k ≡ at one k) (second_is : (k : ℕ) → k < 61 → at row (61 + k) ≡ at two k) (third_is : (k : ℕ) → k < 59 → at row (122 + k) ≡ at three k) where
  each_piece : (k : ℕ) → k < length row → at row k ≡ at (pieces one two three) k
  each_piece k below = elim (cases_lt k 61) [
    | inl front ↦ first_is k front ∙ sym (in_front one (two ++ three) false k (omega (arith, front, long)))
    | inr past ↦ elim (cases_lt k 122) [
      | inl middle ↦
          let place : k ≡ 61 + (k - 61) = as_a_sum k 61 past in
          ap (at row) place ∙ second_is (k - 61) (omega (arith, middle, past))
          ∙ sym (ap (at (pieces one two three)) (moved k 61 (length one) place long) ∙ behind one (two ++ three) false (k - 61) ∙ in_front two three false (k - 61) (omega (arith, second, middle, past)))
      | inr last ↦
          let place : k ≡ 122 + (k - 122) = as_a_sum k 122 last in
          ap (at row) place ∙ third_is (k - 122) (omega (arith, below, whole, last))
          ∙ sym (ap (at (pieces one two three)) (moved_twice k (length one) (length two) place long second) ∙ behind one (two ++ three) false (length two + (k - 122)) ∙ behind two three false (k - 122))
    ]
  ]

  pub is_pieces : pieces one two three ≡ row
  is_pieces =
      let all : length (pieces one two three) ≡ length one + (length two + length three) = length-append one (two ++ three) ∙ ap (λ n. length one + n) (length-append two three) in
      sym (same_rows row (pieces one two three) (omega (arith, whole, all, long, second, third)) each_piece)

-- ---- what is saved is the row
pub saved_is : (row : List Bool) (a b c : ℕ) → length row ≡ 181 → a ≡ number_of_bits row 0 61 → b ≡ number_of_bits row 61 61 → c ≡ number_of_bits row 122 59
    → pieces (bits_in 61 a) (bits_in 61 b) (bits_in 59 c) ≡ row
saved_is row a b c whole first second third =
    is_pieces (bits_in 61 a) (bits_in 61 b) (bits_in 59 c) row (bits_long 61 a) (bits_long 61 b) (bits_long 59 c) whole
    (λ k below. ap (at row) (zero_more k) ∙ sym (ap (λ number. at (bits_in 61 number) k) first ∙ piece 0 61 k below))
    (λ k below. sym (ap (λ number. at (bits_in 61 number) k) second ∙ piece 61 61 k below))
    (λ k below. sym (ap (λ number. at (bits_in 59 number) k) third ∙ piece 122 59 k below))
  where
    zero_more : (k : ℕ) → k ≡ 0 + k
    zero_more k = omega arith

    piece : (first n k : ℕ) → k < n → at (bits_in n (number_of_bits row first n)) k ≡ at row (first + k)
    piece first n k below = ap (λ xs. at xs k) (bits_back row first n) ∙ get_or-list_below (λ k. at row (first + k)) n k false below

-- ---- what is written from bits
pub none_written : (row : List Bool) (first number : ℕ) → IsWritten row row first 0 (bits_in 0 number)
none_written row first number = record { same_length = refl; there = λ k below. absurd (omega (arith, below)); before = λ k below. refl; behind = λ k past. refl }

pub written_more : (old mid new : List Bool) (first n : ℕ) (entries : List Bool) (b : Bool) → mid ≡ slice_set old (first + n) b → first + n < length old → length entries ≡ n
    → IsWritten mid new first n entries → IsWritten old new first (suc n) (entries ++ b ∷ [])
written_more old mid new first n entries b is within long written = record {
  same_length = written.same_length ∙ ap length is ∙ length-set old (first + n) b;
  there = λ k below. elim (cases_lt k n) [
    | inl front ↦ written.there k front ∙ sym (in_front entries (b ∷ []) false k (omega (arith, front, long)))
    | inr past ↦
        let last : k ≡ n = omega (arith, below, past) in
        ap (λ j. at new (first + j)) last ∙ written.behind (first + n) (omega arith) ∙ ap (λ row. at row (first + n)) is ∙ get_or-set_same old (first + n) b false within
        ∙ sym (ap (at (entries ++ b ∷ [])) (omega (arith, last, long)) ∙ behind entries (b ∷ []) false 0)
  ];
  before = λ k below. written.before k below ∙ ap (λ row. at row k) is ∙ get_or-set_other old (first + n) k b false (omega (arith, below));
  behind = λ k past. written.behind k (omega (arith, past)) ∙ ap (λ row. at row k) is ∙ get_or-set_other old (first + n) k b false (omega (arith, past));
}

pub written_again : (old mid new : List Bool) (first count number : ℕ) → 0 < count → mid ≡ slice_set old (first + count - 1) (number % 2 == 1) → first + count ≤ length old
    → IsWritten mid new first (count - 1) (bits_in (count - 1) (number / 2)) → IsWritten old new first count (bits_in count number)
written_again old mid new first zero number some is within written = absurd (omega (arith, some))
written_again old mid new first (suc n) number some is within written =
    let before : suc n - 1 ≡ n = omega arith in
    let place : first + suc n - 1 ≡ first + n = omega arith in
    written_more old mid new first n (bits_in n (number / 2)) (number % 2 == 1) (is ∙ ap (λ k. slice_set old k (number % 2 == 1)) place) (omega (arith, within)) (bits_long n (number / 2))
    (subst (λ k. IsWritten mid new first k (bits_in k (number / 2))) before written)

-- three pieces that were written one after another
pub written_pieces : (zeros a b c : List Bool) (x y z : ℕ) → length zeros ≡ 181 → IsWritten zeros a 0 61 (bits_in 61 x) → IsWritten a b 61 61 (bits_in 61 y) → IsWritten b c 122 59 (bits_in 59 z)
    → c ≡ pieces (bits_in 61 x) (bits_in 61 y) (bits_in 59 z)
written_pieces zeros a b c x y z whole one two three =
    sym (is_pieces (bits_in 61 x) (bits_in 61 y) (bits_in 59 z) c (bits_long 61 x) (bits_long 61 y) (bits_long 59 z)
    (three.same_length ∙ two.same_length ∙ one.same_length ∙ whole)
    (λ k below. three.before k (omega (arith, below)) ∙ two.before k below ∙ ap (at a) (zero_more k) ∙ one.there k below)
    (λ k below. three.before (61 + k) (omega (arith, below)) ∙ two.there k below)
    (λ k below. three.there k below))
  where
    zero_more : (k : ℕ) → k ≡ 0 + k
    zero_more k = omega arith
