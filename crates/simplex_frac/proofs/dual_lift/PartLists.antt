-- The parts of columns, written line by line.
use Rattle.std.proofs.Common.{◌≡◌, ◌≢◌, ℕ, ◌+◌, ◌<◌, ◌≤◌, cond, ◌==◌, List, [], ◌∷◌, ◌++◌, length, get_or, set, ℤ, pos, sym, ◌∙◌, ap, subst, add-one, inl, inr, arith, length-set, get_or-set_same, get_or-set_other}
use Rattle.std.proofs.lemmas.Bool.{cases_lt}
use Rattle.std.proofs.lemmas.Bool.Decides.{nat_tests}
use Rattle.std.proofs.lemmas.List.{get_or_append_left, get_or_push, length_push}
use Rattle.sums.proofs.Naturals.{equal_number}
use Rattle.sums.proofs.Tests.{by_test, no_both}
use Rattle.sums.proofs.NumberTests.{greater_differs}
use Rattle.frac_row.specs.declared.row.FracRow.{FracRow}
use Rattle.simplex_frac.specs.dual_lift.Parts.{AreParts, part_below, part_of}

pub none_yet : (xs : List ℤ) → xs ≡ [] → AreParts (λ column. 0) 0 xs
none_yet xs e = record { all = ap length e; each = λ column below. absurd (omega arith) }

pub one_more : (n : ℕ) (xs ys : List ℤ) → AreParts (λ column. 0) n xs → ys ≡ xs ++ pos 0 ∷ [] → AreParts (λ column. 0) (n + 1) ys
one_more n xs ys are e = record {
  all = ap length e ∙ length_push xs (pos 0) ∙ omega (arith, are.all);
  each = λ column below. elim (cases_lt column n) [
    | inl before ↦ ap (λ zs. get_or zs column (pos 0)) e ∙ get_or_append_left xs (pos 0 ∷ []) (pos 0) column (omega (arith, before, are.all)) ∙ are.each column before
    | inr last ↦ ap (λ zs. get_or zs column (pos 0)) e ∙ get_or_push xs (pos 0) (pos 0) column (omega (arith, are.all))
  ];
}

-- a line whose basic column is behind the first ones
pub part_kept : (table : List FracRow) (basis : List ℕ) (scale line columns : ℕ) (xs : List ℤ) → AreParts (part_below table basis scale line) columns xs → columns ≤ get_or basis line 0 → AreParts (part_below table basis scale (line + 1)) columns xs
part_kept table basis scale line columns xs are other = subst (λ n. AreParts (part_below table basis scale n) columns xs) (sym (add-one line)) (record {
  all = are.all;
  each = λ column below. are.each column below ∙ ap (λ b. pos (cond b (part_of table scale line) (part_below table basis scale line column))) (sym (greater_differs (get_or basis line 0) column (omega arith)));
})

-- a line of one of them
pub part_set : (table : List FracRow) (basis : List ℕ) (scale line columns column : ℕ) (xs ys : List ℤ) (w : ℤ) → AreParts (part_below table basis scale line) columns xs → column ≡ get_or basis line 0 → column < columns → w ≡ pos (part_of table scale line) → ys ≡ set xs column w
    → AreParts (part_below table basis scale (line + 1)) columns ys
part_set table basis scale line columns column xs ys w are at below is e = subst (λ n. AreParts (part_below table basis scale n) columns ys) (sym (add-one line)) (record {
  all = ap length e ∙ length-set xs column w ∙ are.all;
  each = λ other within. ap (λ zs. get_or zs other (pos 0)) e ∙ by_test (column == other)
      (λ t.
      let same : column ≡ other = grind (arith, nat_tests) in
      ap (λ j. get_or (set xs column w) j (pos 0)) (sym same) ∙ get_or-set_same xs column w (pos 0) (omega (arith, below, are.all)) ∙ is
      ∙ ap (λ b. pos (cond b (part_of table scale line) (part_below table basis scale line other))) (sym (ap (λ c. c == other) (sym at) ∙ t)))
      (λ t.
      let apart : other ≢ column = λ s. no_both t (equal_number column other (sym s)) in
      get_or-set_other xs column other w (pos 0) apart ∙ are.each other within
      ∙ ap (λ b. pos (cond b (part_of table scale line) (part_below table basis scale line other))) (sym (ap (λ c. c == other) (sym at) ∙ t)));
})
