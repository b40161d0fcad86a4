use Rattle.std.proofs.Common.{◌≡◌, ◌+ℤ◌, ◌*ℤ◌, rules, pos, get_or, ap, subst, ◌∙◌, arith}
use Rattle.std.proofs.lemmas.List.{get_or_default}
use Rattle.std.proofs.lemmas.Int.{to_z-of_z}
use mir.Val.{SFits}
use mir.Syntax.{w128}
use Rattle.simplex_frac.specs.end_check.Sums.{AddsWithin}
use Rattle.simplex_frac.proofs.end_check.Multiples.{column_in, times_done, times_fails, times_more}
use Rattle.simplex_frac.proofs.end_check.weighing.add_multiple.Goals as goal

pub returns-in_default-plus_product : goal.returns-in_default-plus_product
returns-in_default-plus_product c =
    let inside = column_in c.args.sums.now.items c.args.value.now c.args.line.now c.loop-entry.sums.items c.in-Some.entry c.next.new.self c.loop-entry.left c.loop-entry.invariant c.in-Some.ensures in
    let here : c.index.result.now ≡ get_or c.loop-entry.sums.items c.in-Some.entry.column (pos 0) =
    c.index.ensures ∙ get_or_default c.loop-entry.sums.items c.in-Some.entry.column c.index.result.now (pos 0) (omega (arith, inside, c.loop-entry.invariant.same_length)) in
    times_fails c.args.sums.now.items c.args.value.now c.args.line.now c.loop-entry.sums.items c.in-Some.entry c.next.new.self c.loop-entry.left c.loop-entry.invariant c.in-Some.ensures
    (subst (λ z. ¬ (AddsWithin z c.args.value.now c.in-Some.entry.number)) here c.in_default-plus_product.ensures) (c.requires.within c.in-Some.entry.column)

pub loop-entry-preserved : goal.loop-entry-preserved
loop-entry-preserved c =
    let f : SFits w128 c.in-Some-plus_product.sum = search rules in
    let inside = column_in c.args.sums.now.items c.args.value.now c.args.line.now c.loop-entry.sums.items c.in-Some.entry c.next.new.self c.loop-entry.left c.loop-entry.invariant c.in-Some.ensures in
    let here : c.index.result.now ≡ get_or c.loop-entry.sums.items c.in-Some.entry.column (pos 0) =
    c.index.ensures ∙ get_or_default c.loop-entry.sums.items c.in-Some.entry.column c.index.result.now (pos 0) (omega (arith, inside, c.loop-entry.invariant.same_length)) in
    times_more c.args.sums.now.items c.args.value.now c.args.line.now c.loop-entry.sums.items c.in-Some.entry c.next.new.self c.loop-entry.left c.loop-entry.invariant c.in-Some.ensures _
    (subst (λ z. AddsWithin z c.args.value.now c.in-Some.entry.number) here c.in-Some-plus_product.ensures.0)
    (to_z-of_z w128 c.in-Some-plus_product.sum f ∙ c.in-Some-plus_product.ensures.1 ∙ ap (λ z. z +ℤ (c.args.value.now *ℤ c.in-Some.entry.number)) here)

pub returns : goal.returns
returns c = times_done c.args.sums.now.items c.args.value.now c.args.line.now c.loop-entry.sums.items c.loop-entry.left c.loop-entry.invariant c.in_default.ensures.0 c.requires.within
