use Rattle.std.proofs.Common.{ℕ, ◌≡◌, ◌+◌, ◌<◌, ◌≤◌, ◌-◌, ◌^◌, suc, rules, arith, ◌∙◌, ap, unsigned_abs, true, false, length, sym, add-one}
use Rattle.std.proofs.lemmas.Int.{to_z-of_z}
use mir.Val.{SFits}
use mir.Syntax.{w128}
use Rattle.sums.specs.Below.{sum_below}
use Rattle.sums.proofs.SumBounds.{sum_below-le}
use Rattle.row_store.specs.Problem.{entry}
use Rattle.row_store.proofs.checks.is_column_within.Goals as goal

-- the sum with the next term
one_more : (f : ℕ → ℕ) (k sum size : ℕ) → sum ≡ sum_below f k → size ≡ f k → sum + size ≡ sum_below f (k + 1)
one_more f k sum size e s = ap (λ n. n + size) e ∙ ap (λ n. sum_below f k + n) s ∙ ap (sum_below f) (sym (add-one k))

past : (f : ℕ → ℕ) (k n sum size : ℕ) → sum ≡ sum_below f k → size ≡ f k → k < n → 2 ^ 127 - 1 < sum + size → sum_below f n ≤ 2 ^ 127 - 1 → ⊥
past f k n sum size e s lt more le = let part : sum_below f (suc k) ≤ sum_below f n = sum_below-le f (suc k) n lt in omega arith

pub returns-then-sum : goal.returns-then-sum
returns-then-sum c =
    let f : SFits w128 c.entry.result = search rules in
    let size = (simp to_z-of_z at c.unsigned_abs-sum.ensures.value) ∙ ap unsigned_abs c.entry.ensures in
    (λ t. absurd (no t), λ within. absurd (past (λ line. unsigned_abs (entry c.args.rows.now line c.args.column)) c.loop-line.line (length c.args.rows.now.lines) c.loop-line.sum c.unsigned_abs-sum.result c.loop-line.invariant.sum size (omega arith) (omega arith) within))
  where
    no : false ≡ true → ⊥
    no e = cc

pub entry-requires : goal.entry-requires
entry-requires c = record { widths = c.requires.widths; line = omega (arith, c.requires.few); column = c.requires.column }

pub loop-line-preserved : goal.loop-line-preserved
loop-line-preserved c =
    let f : SFits w128 c.entry.result = search rules in
    let size = (simp to_z-of_z at c.unsigned_abs-sum.ensures.value) ∙ ap unsigned_abs c.entry.ensures in
    record {
      sum = one_more (λ line. unsigned_abs (entry c.args.rows.now line c.args.column)) c.loop-line.line c.loop-line.sum c.unsigned_abs-sum.result c.loop-line.invariant.sum size;
      within = c.if-sum.false;
    }
