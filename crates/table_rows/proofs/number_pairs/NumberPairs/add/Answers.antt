use Rattle.std.proofs.Common.{◌≡◌, ◌∙◌, ◌++◌, ℕ, [], ◌∷◌, ap, bytes_eq, not, refl, sym}
use Rattle.std.specs.Ordering.{is_eq, nat_cmp, ordering_then}
use Rattle.std.specs.declared.cmp.Ordering.{Ordering}
use Rattle.std.specs.declared.cmp.Ordering.TheVariants.{Less, Equal, Greater}
use Rattle.std.proofs.lemmas.Map.Text.{is_eq-slice_cmp}
use Rattle.table_rows.specs.Pairs.{numbers_of_pair}
use Rattle.table_rows.proofs.ByNumber.{among_is, by_number_with, next_key, numbered_with}
use Rattle.table_rows.proofs.number_pairs.NumberPairs.add.Goals as goal

abbrev pair_cmp : ℕ × ℕ → ℕ × ℕ → Ordering
pair_cmp a b = ordering_then (nat_cmp a.0 b.0) (nat_cmp a.1 b.1)

then_equal : (order : Ordering) → ordering_then order Equal ≡ order
then_equal Less = refl
then_equal Equal = refl
then_equal Greater = refl

same_pair : (a b : ℕ × ℕ) → is_eq (pair_cmp a b) ≡ bytes_eq (numbers_of_pair a) (numbers_of_pair b)
same_pair a b =
    ap (λ order. is_eq (ordering_then (nat_cmp a.0 b.0) order)) (sym (then_equal (nat_cmp a.1 b.1))) ∙ is_eq-slice_cmp (numbers_of_pair a) (numbers_of_pair b)

pub returns-then-contains_key-clause-added : goal.returns-then-contains_key-clause-added
returns-then-contains_key-clause-added c =
    let pair : ℕ × ℕ = (c.args.first, c.args.second) in
    let among = among_is numbers_of_pair c.self.inside.numbers.entries (numbers_of_pair pair) _ c.args.self.now c.contains_key.result c.self.invariant (same_pair pair) c.self.view_is c.contains_key.ensures in
    ap not (sym (among ∙ c.if-contains_key.true))

pub returns-clause-added : goal.returns-clause-added
returns-clause-added c =
    let pair : ℕ × ℕ = (c.args.first, c.args.second) in
    let among = among_is numbers_of_pair c.self.inside.numbers.entries (numbers_of_pair pair) _ c.args.self.now c.contains_key.result c.self.invariant (same_pair pair) c.self.view_is c.contains_key.ensures in
    ap not (sym (among ∙ c.if-contains_key.false))

pub invariant_of-self-2 : goal.invariant_of-self-2
invariant_of-self-2 c =
    let pair : ℕ × ℕ = (c.args.first, c.args.second) in
    let among = among_is numbers_of_pair c.self.inside.numbers.entries (numbers_of_pair pair) _ c.args.self.now c.contains_key.result c.self.invariant (same_pair pair) c.self.view_is c.contains_key.ensures in
    numbered_with numbers_of_pair _ _ _ pair (next_key numbers_of_pair pair_cmp c.self.inside.numbers.entries c.insert.new.self.entries pair c.args.self.now c.len-number.result
    c.self.invariant same_pair c.self.view_is (among ∙ c.if-contains_key.false) c.len-number.ensures.len c.in_ok-insert.ensures.entries)

pub returns-clause-appended : goal.returns-clause-appended
returns-clause-appended c =
    let pair : ℕ × ℕ = (c.args.first, c.args.second) in
    let among = among_is numbers_of_pair c.self.inside.numbers.entries (numbers_of_pair pair) _ c.args.self.now c.contains_key.result c.self.invariant (same_pair pair) c.self.view_is c.contains_key.ensures in
    by_number_with numbers_of_pair _ _ _ pair (next_key numbers_of_pair pair_cmp c.self.inside.numbers.entries c.insert.new.self.entries pair c.args.self.now c.len-number.result
    c.self.invariant same_pair c.self.view_is (among ∙ c.if-contains_key.false) c.len-number.ensures.len c.in_ok-insert.ensures.entries)
    ∙ ap (λ lists. lists ++ numbers_of_pair pair ∷ []) c.self.view_is
