use Rattle.std.proofs.Common.{◌≡◌, rules, arith, ℤ, pos, ◌<ℤ◌, ℕ, List, length, unsigned_abs, sym, ◌∙◌, ap, subst}
use Rattle.std.proofs.lemmas.Int.{ints, to_z-of_z}
use mir.Val.{SFits}
use mir.Syntax.{w128}
use Rattle.sums.specs.Divisors.{gcd_below}
use Rattle.frac_row.specs.Outgrown.{IsWithin}
use Rattle.frac_row.specs.Row.{IsRow, common_divisor, reduced}
use Rattle.frac_row.specs.declared.row.FracRow.{FracRow}
use Rattle.frac_row.proofs.Rows.{common_divisor_range, reduced-one}
use Rattle.frac_row.specs.declared.entry.Entry.{Entry}
use Rattle.frac_row.specs.Content.{number_at, content_of, IsHeld}
use Rattle.frac_row.proofs.Contents.{den-content}
use Rattle.frac_row.proofs.CommonDivisors.{divisor_is, within_places, divided_is_held, reduced_from}
use Rattle.frac_row.proofs.sparse_lowest_terms.reduce.Goals as goal

pub divisor_of-divisor-requires-clause-den : goal.divisor_of-divisor-requires-clause-den
divisor_of-divisor-requires-clause-den c =
    subst IsWithin (ap (λ r. r.den) (sym c.row.view_is) ∙ den-content c.row.inside.entries.items c.row.inside.width c.row.inside.den) c.requires.den_within

pub divisor_of-divisor-requires-clause-positive : goal.divisor_of-divisor-requires-clause-positive
divisor_of-divisor-requires-clause-positive c =
    subst (λ d. pos 0 <ℤ d) (ap (λ r. r.den) (sym c.row.view_is) ∙ den-content c.row.inside.entries.items c.row.inside.width c.row.inside.den) c.requires.positive

pub divisor_of-divisor-requires-clause-numbers : goal.divisor_of-divisor-requires-clause-numbers
divisor_of-divisor-requires-clause-numbers c =
    rw c.as_slice.ensures.value (within_places c.row.inside.entries.items c.row.inside.width c.row.inside.den c.row.invariant (subst IsRow (sym c.row.view_is) c.requires))

-- the divisor that the search finds
found : (entries slice : List Entry) (width : ℕ) (den d : ℤ) (row : FracRow) → IsHeld entries width → content_of entries width den ≡ row → slice ≡ entries → d ≡ pos (gcd_below (unsigned_abs den) (λ k. unsigned_abs (number_at slice k)) (length slice)) → d ≡ pos (common_divisor row)
found entries slice width den d row h view same e =
    e ∙ ap (λ xs. pos (gcd_below (unsigned_abs den) (λ k. unsigned_abs (number_at xs k)) (length xs))) same ∙ ap pos (divisor_is entries width den h) ∙ ap (λ r. pos (common_divisor r)) view

above : (row : FracRow) → IsRow row → (d : ℤ) → d ≡ pos (common_divisor row) → pos 0 <ℤ d
above row h d e = omega (arith, ints, (common_divisor_range row h).1)

pub divide_entries-requires : goal.divide_entries-requires
divide_entries-requires c =
    let fd : SFits w128 c.divisor_of-divisor.result = search rules in
    let is = found _ _ _ _ _ _ c.row.invariant c.row.view_is c.as_slice.ensures.value c.divisor_of-divisor.ensures in
    subst (λ d. pos 0 <ℤ d) (sym (to_z-of_z w128 c.divisor_of-divisor.result fd)) (above c.args.row.now c.requires c.divisor_of-divisor.result is)

pub divide-requires : goal.divide-requires
divide-requires c =
    let fd : SFits w128 c.divisor_of-divisor.result = search rules in
    let is = found _ _ _ _ _ _ c.row.invariant c.row.view_is c.as_slice.ensures.value c.divisor_of-divisor.ensures in
    subst (λ d. pos 0 <ℤ d) (sym (to_z-of_z w128 c.divisor_of-divisor.result fd)) (above c.args.row.now c.requires c.divisor_of-divisor.result is)

pub invariant_of-row : goal.invariant_of-row
invariant_of-row c =
    let fd : SFits w128 c.divisor_of-divisor.result = search rules in
    let is = found _ _ _ _ _ _ c.row.invariant c.row.view_is c.as_slice.ensures.value c.divisor_of-divisor.ensures in
    divided_is_held c.row.inside.entries.items c.divide_entries.new.entries.items c.row.inside.width c.row.inside.den c.divisor_of-divisor.result c.row.invariant
    (is ∙ ap (λ r. pos (common_divisor r)) (sym c.row.view_is)) (simp to_z-of_z at c.divide_entries.ensures)

pub returns-then-divisor-ne1 : goal.returns-then-divisor-ne1
returns-then-divisor-ne1 c =
    let fd : SFits w128 c.divisor_of-divisor.result = search rules in
    let fq : SFits w128 c.divide.result.quotient = search rules in
    let fn : SFits w128 c.row.inside.den = search rules in
    let is = found _ _ _ _ _ _ c.row.invariant c.row.view_is c.as_slice.ensures.value c.divisor_of-divisor.ensures in
    reduced_from c.row.inside.entries.items c.divide_entries.new.entries.items c.row.inside.width c.row.inside.den _ c.divisor_of-divisor.result c.row.invariant
    (is ∙ ap (λ r. pos (common_divisor r)) (sym c.row.view_is)) (simp to_z-of_z at c.divide_entries.ensures)
    (to_z-of_z w128 c.divide.result.quotient fq ∙ (simp to_z-of_z at c.divide.ensures.quotient))
    ∙ ap reduced c.row.view_is

pub returns-else-divisor-ne1 : goal.returns-else-divisor-ne1
returns-else-divisor-ne1 c =
    let fd : SFits w128 c.divisor_of-divisor.result = search rules in
    reduced-one c.args.row.now c.divisor_of-divisor.result (found _ _ _ _ _ _ c.row.invariant c.row.view_is c.as_slice.ensures.value c.divisor_of-divisor.ensures) (omega (arith, ints))
