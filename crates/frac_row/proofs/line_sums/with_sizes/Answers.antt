use Rattle.std.proofs.Common.{◌≡◌, ℕ, ◌+◌, ◌-◌, ◌<◌, ◌^◌, ℤ, pos, List, [], ◌∷◌, length, get_or, unsigned_abs, rules, arith, sym, ◌∙◌, ap}
use Rattle.std.proofs.lemmas.Int.{to_z-of_z}
use mir.Val.{SFits}
use mir.Syntax.{w128}
use Rattle.sums.specs.Below.{sum_below}
use Rattle.sums.proofs.Sums.{sum_below-agree}
use Rattle.frac_row.specs.declared.entry.Entry.{Entry}
use Rattle.frac_row.specs.Content.{number_in, AreRising}
use Rattle.frac_row.specs.Lines.{sizes_of}
use Rattle.frac_row.proofs.LineNumbers.{sizes_are}
use Rattle.frac_row.proofs.line_sums.with_sizes.Goals as goal

-- all sizes of the line
sizes_in : (line : List ℤ) (left : List Entry) → AreRising 0 (length line) left → ((column : ℕ) → number_in left column ≡ get_or line column (pos 0)) → sizes_of left ≡ sum_below (λ column. unsigned_abs (get_or line column (pos 0))) (length line)
sizes_in line left rising is =
    sym (sizes_are 0 (length line) left rising) ∙ sum_below-agree _ _ (length line) (record { each = λ k lt. ap unsigned_abs (is k) })

too_large : (total size rest sum all whole : ℕ) (left later : List Entry) (entry : Entry) → total + sizes_of left ≡ sum + all → all ≡ whole → left ≡ entry ∷ later → size ≡ unsigned_abs entry.number → 2 ^ 127 - 1 < total + size → 2 ^ 127 - 1 < sum + whole
too_large total size rest sum all whole left later entry h e l s more =
    let parts : sizes_of left ≡ unsigned_abs entry.number + sizes_of later = ap sizes_of l in omega arith

pub returns-then-total-gt-LIMIT : goal.returns-then-total-gt-LIMIT
returns-then-total-gt-LIMIT c =
    let f : SFits w128 c.in-Some.entry.number = search rules in
    too_large c.loop-entry.total c.unsigned_abs-total.result 0 c.args.sum (sizes_of c.numbers-left.result) _ c.loop-entry.left c.next.new.self c.in-Some.entry c.loop-entry.invariant.sum (sizes_in c.args.line.now c.numbers-left.result c.numbers-left.ensures.rising c.numbers-left.ensures.numbers) c.in-Some.ensures (simp to_z-of_z at c.unsigned_abs-total.ensures.value) (omega arith)

pub returns : goal.returns
returns c =
    let none : c.loop-entry.left ≡ [] = c.in_default.ensures.0 in
    let rest : sizes_of c.loop-entry.left ≡ 0 = ap sizes_of none in
    let all = sizes_in c.args.line.now c.numbers-left.result c.numbers-left.ensures.rising c.numbers-left.ensures.numbers in
    (omega (arith, c.loop-entry.invariant.sum, all), c.loop-entry.invariant.within)
