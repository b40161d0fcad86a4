use Rattle.std.proofs.Common.{◌≡◌, ℕ, ℤ, pos, ◌+ℤ◌, ◌<◌, FitsSigned, List, ◌∷◌, length, get_or, rules, arith, sym, ◌∙◌, ap, subst, to_z, of_z}
use Rattle.std.proofs.lemmas.Int.{ints, to_z-of_z}
use Rattle.std.proofs.lemmas.List.{get_or_default}
use mir.Val.{SFits}
use mir.Syntax.{w128}
use Rattle.sums.specs.Places.{list_below}
use Rattle.sums.proofs.Places.{length-list_below, get_or-list_below}
use Rattle.frac_row.specs.Outgrown.{IsWithin}
use Rattle.frac_row.specs.declared.entry.Entry.{Entry}
use Rattle.frac_row.proofs.LineNumbers.{IsAdding, adding_begun, adding_more, adding_next, adding_done}
use Rattle.frac_row.proofs.line_sums.add_line.Goals as goal

fits : (z : ℤ) → IsWithin z → SFits w128 z
fits z h = omega (arith, ints)

sum_fits : (x y : ℤ) → SFits w128 x → SFits w128 y → IsWithin (x +ℤ y) → FitsSigned w128 (to_z w128 (of_z w128 x) +ℤ to_z w128 (of_z w128 y))
sum_fits x y fx fy h = simp to_z-of_z (fits (x +ℤ y) h)

sum_is : (x y : ℤ) → SFits w128 x → SFits w128 y → IsWithin (x +ℤ y) → to_z w128 (of_z w128 (to_z w128 (of_z w128 x) +ℤ to_z w128 (of_z w128 y))) ≡ x +ℤ y
sum_is x y fx fy h = let f : SFits w128 (x +ℤ y) = fits (x +ℤ y) h in simp to_z-of_z

pub loop-entry-init : goal.loop-entry-init
loop-entry-init c = adding_begun c.args.sums.now.items c.args.line.now c.numbers-left.result c.requires.same_length c.numbers-left.ensures.rising c.numbers-left.ensures.numbers

-- what an added number comes to
added : (sums line now : List ℤ) (entry : Entry) (left all : List Entry) (x : ℤ) → IsAdding (list_below (λ column. get_or sums column (pos 0) +ℤ get_or line column (pos 0)) (length sums)) now all → all ≡ entry ∷ left → x ≡ get_or now entry.column x → ((column : ℕ) → IsWithin (get_or sums column (pos 0) +ℤ get_or line column (pos 0))) → (x ≡ get_or now entry.column (pos 0)) × IsWithin (x +ℤ entry.number)
added sums line now entry left all x h e is within =
    let next = adding_next _ now entry left all h e in
    let here : x ≡ get_or now entry.column (pos 0) = is ∙ get_or_default now entry.column x (pos 0) next.0 in
    (here, subst IsWithin (sym (ap (λ z. z +ℤ entry.number) here ∙ next.1 ∙ get_or-list_below _ (length sums) entry.column (pos 0) (in_sums next.0))) (within entry.column))
  where
    in_sums : entry.column < length now → entry.column < length sums
    in_sums lt = rw (h.same_length, length-list_below) at lt

pub overflow_add-index_mut : goal.overflow_add-index_mut
overflow_add-index_mut c =
    let fx : SFits w128 c.index_mut.result.now = search rules in
    let fy : SFits w128 c.in-Some.entry.number = search rules in
    sum_fits _ _ fx fy (added c.args.sums.now.items c.args.line.now c.loop-entry.sums.items c.in-Some.entry c.next.new.self c.loop-entry.left c.index_mut.result.now c.loop-entry.invariant c.in-Some.ensures c.index_mut.ensures.value c.requires.fits).1

pub loop-entry-preserved : goal.loop-entry-preserved
loop-entry-preserved c =
    let fx : SFits w128 c.index_mut.result.now = search rules in
    let fy : SFits w128 c.in-Some.entry.number = search rules in
    let is = added c.args.sums.now.items c.args.line.now c.loop-entry.sums.items c.in-Some.entry c.next.new.self c.loop-entry.left c.index_mut.result.now c.loop-entry.invariant c.in-Some.ensures c.index_mut.ensures.value c.requires.fits in
    adding_more _ c.loop-entry.sums.items c.in-Some.entry c.next.new.self c.loop-entry.left _ c.loop-entry.invariant c.in-Some.ensures
    (sum_is _ _ fx fy is.1 ∙ ap (λ z. z +ℤ c.in-Some.entry.number) is.0)

pub returns : goal.returns
returns c = adding_done _ c.loop-entry.sums.items c.loop-entry.left c.loop-entry.invariant c.in_default.ensures.0
