use Rattle.std.proofs.Common.{◌≡◌, ◌≤◌, ◌-◌, ◌^◌, false, Bool, unsigned_abs, sym, ◌∙◌, ap, subst}
use Rattle.std.specs.Prelude.{IsTrue}
use Rattle.frac_row.proofs.Contents.{den-content}
use Rattle.frac_row.proofs.Smallness.{small_from, entries_small}
use Rattle.frac_row.proofs.sparse_sizes.is_small.Goals as goal

pub returns-then-is_small_number : goal.returns-then-is_small_number
returns-then-is_small_number c = (
  λ t. small_from _ _ _ _ c.row.invariant c.row.view_is (c.is_small_number.ensures.0 c.if-is_small_number.true) (rw c.as_slice.ensures.value at (c.are_small.ensures.0 t)),
  λ h. c.are_small.ensures.1 (rw c.as_slice.ensures.value (entries_small _ _ _ _ c.row.invariant c.row.view_is h)),
)

pub returns-else-is_small_number : goal.returns-else-is_small_number
returns-else-is_small_number c = (
  λ t. absurd (unlike c.is_small_number.result c.if-is_small_number.false t),
  λ h. c.is_small_number.ensures.1 (subst (λ d. unsigned_abs d ≤ 2 ^ 63 - 1) (ap (λ r. r.den) (sym c.row.view_is) ∙ den-content c.row.inside.entries.items c.row.inside.width c.row.inside.den) h.den),
)
  where
    unlike : (b : Bool) → b ≡ false → IsTrue b → ⊥
    unlike b e t = cc
