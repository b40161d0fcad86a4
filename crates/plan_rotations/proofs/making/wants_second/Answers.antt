use Rattle.std.proofs.Common.{◌≡◌, true, not, ◌&&◌, List, [], ◌∷◌, refl, sym, ap, ◌∙◌}
use mathlib.Core.Bool.{false≢true}
use Rattle.fleet_model.specs.declared.parts.Connection.{Connection}
use Rattle.plan_rotations.specs.Rotations.{are_some, is_given_up}
use Rattle.plan_rotations.proofs.making.wants_second.Goals as goal

there_are : (pairs : List Connection) → (pairs ≡ [] → ⊥) → are_some pairs ≡ true
there_are [] none = absurd (none refl)
there_are (pair ∷ pairs) none = refl

pub returns-then-not-is_empty : goal.returns-then-not-is_empty
returns-then-not-is_empty c =
    let some = there_are c.args.pairs.now (λ none. false≢true (sym c.if-not-is_empty.true ∙ c.is_empty.ensures.1 none)) in
    c.is_given_up.ensures ∙ sym (ap (λ b. b && is_given_up c.args.first.now) some)

pub returns-else-not-is_empty : goal.returns-else-not-is_empty
returns-else-not-is_empty c = ap not c.if-not-is_empty.false ∙ sym (ap (λ pairs. are_some pairs && is_given_up c.args.first.now) (c.is_empty.ensures.0 c.if-not-is_empty.false))
