-- Nights without maintenance, one list of nights after another.
use Rattle.std.proofs.Common.{◌≡◌, ℕ, zero, suc, ◌+◌, ◌-◌, ◌<◌, ◌≤◌, Bool, true, false, ◌&&◌, ◌||◌, nat_lt, if◌then◌else◌, List, [], ◌∷◌, ◌++◌, replicate, refl, sym, ◌∙◌, ap, arith}
use Rattle.std.specs.List.{list_any}
use Rattle.std.proofs.lemmas.Bool.Decides.{nat_tests}
use Rattle.std.proofs.lemmas.List.Folds.{list_any-append}
use Rattle.std.proofs.lemmas.Bool.{le-ltb, lt-ltb}
use mathlib.Core.Bool.{and-false}
use Rattle.sums.proofs.Naturals.{one_behind, suc_moved}
use Rattle.fleet_model.specs.declared.tables.Tables.{Tables}
use Rattle.lines_of_flying.specs.ground_turns.Nights.{can_maintain}
use Rattle.lines_of_flying.specs.declared.ground_turns.nights.Night.{Night}
use Rattle.lines_of_flying.specs.declared.ground_turns.nights.Night.TheVariants as night
use Rattle.euler_rotation.specs.Often.{StayBelow, nights_since, one_night_on, stays_below}

and_assoc : (a b c : Bool) → (a && (b && c)) ≡ ((a && b) && c)
and_assoc true b c = refl
and_assoc false b c = refl

pub since_append : (t : Tables) (n : ℕ) (xs ys : List Night) → nights_since t n (xs ++ ys) ≡ nights_since t (nights_since t n xs) ys
since_append t n [] ys = refl
since_append t n (x ∷ xs) ys = since_append t (one_night_on t n x) xs ys

pub below_append : (t : Tables) (days n : ℕ) (xs ys : List Night)
    → stays_below t days n (xs ++ ys) ≡ (stays_below t days n xs && stays_below t days (nights_since t n xs) ys)
below_append t days n [] ys = refl
below_append t days n (x ∷ xs) ys =
    ap (λ b. nat_lt (one_night_on t n x) days && b) (below_append t days (one_night_on t n x) xs ys)
    ∙ and_assoc (nat_lt (one_night_on t n x) days) (stays_below t days (one_night_on t n x) xs) (stays_below t days (nights_since t (one_night_on t n x) xs) ys)

-- so many nights of one kind without maintenance
pub since_more : (t : Tables) (x : Night) → can_maintain t x ≡ false → (n k : ℕ) → nights_since t n (replicate k x) ≡ n + k
since_more t x none n zero = omega arith
since_more t x none n (suc k) =
    ap (λ b. nights_since t (if b then 0 else suc n) (replicate k x)) none ∙ since_more t x none (suc n) k ∙ suc_moved n k

more_first : (t : Tables) (days : ℕ) (x : Night) → can_maintain t x ≡ false → (n k : ℕ)
    → (suc n < days → stays_below t days (suc n) (replicate k x) ≡ nat_lt (suc n + k) days) → (b : Bool) → nat_lt (suc n) days ≡ b
    → stays_below t days n (replicate (suc k) x) ≡ nat_lt (n + suc k) days
more_first t days x none n k rest b h = head ∙ ap (λ c. c && stays_below t days (suc n) (replicate k x)) h ∙ by_first b h
  where
    less : (n days : ℕ) → nat_lt (suc n) days ≡ true → suc n < days
    less n days h = grind (arith, nat_tests)

    at_last : (n k days : ℕ) → nat_lt (suc n) days ≡ false → false ≡ nat_lt (n + suc k) days
    at_last n k days h = grind (arith, nat_tests)

    head : stays_below t days n (replicate (suc k) x) ≡ (nat_lt (suc n) days && stays_below t days (suc n) (replicate k x))
    head = ap (λ b. nat_lt (if b then 0 else suc n) days && stays_below t days (if b then 0 else suc n) (replicate k x)) none

    by_first : (b : Bool) → nat_lt (suc n) days ≡ b → (b && stays_below t days (suc n) (replicate k x)) ≡ nat_lt (n + suc k) days
    by_first true h = rest (less n days h) ∙ ap (λ m. nat_lt m days) (suc_moved n k)
    by_first false h = at_last n k days h

pub below_more : (t : Tables) (days : ℕ) (x : Night) → can_maintain t x ≡ false → (n k : ℕ) → n < days → stays_below t days n (replicate k x) ≡ nat_lt (n + k) days
below_more t days x none n zero lt = at_once n days lt
  where
    at_once : (n days : ℕ) → n < days → true ≡ nat_lt (n + 0) days
    at_once n days lt = grind (arith, nat_tests)
below_more t days x none n (suc k) lt = more_first t days x none n k (λ less. below_more t days x none (suc n) k less) (nat_lt (suc n) days) refl

-- so many nights for maintenance
pub since_none : (t : Tables) (x : Night) → can_maintain t x ≡ true → (n k : ℕ) → nights_since t n (replicate (suc k) x) ≡ 0
since_none t x some n zero = ap (λ b. if b then 0 else suc n) some
since_none t x some n (suc k) = since_none t x some (one_night_on t n x) k

pub below_none : (t : Tables) (days : ℕ) (x : Night) → can_maintain t x ≡ true → (n k : ℕ) → 0 < days → stays_below t days n (replicate k x) ≡ true
below_none t days x some n zero lt = refl
below_none t days x some n (suc k) lt =
    ap (λ b. nat_lt (if b then 0 else suc n) days && stays_below t days (one_night_on t n x) (replicate k x)) some
    ∙ ap (λ b. b && stays_below t days (one_night_on t n x) (replicate k x)) (least days lt) ∙ below_none t days x some (one_night_on t n x) k lt
  where
    least : (days : ℕ) → 0 < days → nat_lt 0 days ≡ true
    least days lt = grind (arith, nat_tests)

-- ---- the nights of a turn: aloft, and then of one kind
abbrev nights_of_turn : ℕ → ℕ → Night → List Night
nights_of_turn k m x = replicate k night.Aloft ++ replicate m x

module _ (t : Tables) (days n k m : ℕ) (x : Night) (few : n < days) where
  front : stays_below t days n (nights_of_turn k m x) ≡ (nat_lt (n + k) days && stays_below t days (n + k) (replicate m x))
  front =
      below_append t days n (replicate k night.Aloft) (replicate m x)
      ∙ ap (λ b. b && stays_below t days (nights_since t n (replicate k night.Aloft)) (replicate m x)) (below_more t days night.Aloft refl n k few)
      ∙ ap (λ j. nat_lt (n + k) days && stays_below t days j (replicate m x)) (since_more t night.Aloft refl n k)

  back : nights_since t n (nights_of_turn k m x) ≡ nights_since t (n + k) (replicate m x)
  back = since_append t n (replicate k night.Aloft) (replicate m x) ∙ ap (λ j. nights_since t j (replicate m x)) (since_more t night.Aloft refl n k)

  pub too_many_aloft : days ≤ n + k → stays_below t days n (nights_of_turn k m x) ≡ false
  too_many_aloft full = front ∙ ap (λ b. b && stays_below t days (n + k) (replicate m x)) (le-ltb (n + k) days full)

  -- where those aloft are few enough
  module _ (less : n + k < days) where
    tested : nat_lt (n + k) days ≡ true
    tested = lt-ltb (n + k) days less

    rest : stays_below t days n (nights_of_turn k m x) ≡ stays_below t days (n + k) (replicate m x)
    rest = front ∙ ap (λ b. b && stays_below t days (n + k) (replicate m x)) tested

    pub none_waited : (since : ℕ) → m ≡ 0 → since ≡ n + k → StayBelow t days n (nights_of_turn k m x) since
    none_waited since none is = record {
      below = rest ∙ ap (λ j. stays_below t days (n + k) (replicate j x)) none;
      since_is = is ∙ sym (back ∙ ap (λ j. nights_since t (n + k) (replicate j x)) none);
      few = omega arith;
    }

    pub maintained : 0 < m → can_maintain t x ≡ true → StayBelow t days n (nights_of_turn k m x) 0
    maintained some there = record {
      below = rest ∙ below_none t days x there (n + k) m (omega arith);
      since_is = sym (back ∙ ap (λ j. nights_since t (n + k) (replicate j x)) (one_behind m some) ∙ since_none t x there (n + k) (m - 1));
      few = omega arith;
    }

    pub too_many_stood : can_maintain t x ≡ false → days ≤ n + k + m → stays_below t days n (nights_of_turn k m x) ≡ false
    too_many_stood there full = rest ∙ below_more t days x there (n + k) m less ∙ le-ltb (n + k + m) days full

    pub stood : (since : ℕ) → can_maintain t x ≡ false → since < days → since ≡ n + k + m → StayBelow t days n (nights_of_turn k m x) since
    stood since there low is = record {
      below = rest ∙ below_more t days x there (n + k) m less ∙ lt-ltb (n + k + m) days (omega arith);
      since_is = is ∙ sym (back ∙ since_more t x there (n + k) m);
      few = low;
    }

-- some of them are for maintenance
repeated_any : (t : Tables) (x : Night) (m : ℕ) → list_any (can_maintain t) (replicate m x) ≡ (nat_lt 0 m && can_maintain t x)
repeated_any t x zero = grind (arith, nat_tests)
repeated_any t x (suc m) = ap (λ b. can_maintain t x || b) (repeated_any t x m) ∙ more (can_maintain t x) m
  where
    more : (b : Bool) (m : ℕ) → (b || (nat_lt 0 m && b)) ≡ (nat_lt 0 (suc m) && b)
    more b m = grind (arith, nat_tests)

pub some_in_turn : (t : Tables) (k m : ℕ) (x : Night) → list_any (can_maintain t) (nights_of_turn k m x) ≡ (nat_lt 0 m && can_maintain t x)
some_in_turn t k m x =
    list_any-append (can_maintain t) (replicate k night.Aloft) (replicate m x)
    ∙ ap (λ b. b || list_any (can_maintain t) (replicate m x)) (repeated_any t night.Aloft k ∙ and-false (nat_lt 0 k))
    ∙ repeated_any t x m
