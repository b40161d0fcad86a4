-- The members of an object, put one by one in the order of their keys.
use Rattle.std.proofs.Common.{◌≡◌, ℕ, List, Result, Ok, Err, IfOk, IsOkAnd, codes, refl, ap, ◌∙◌}
use Rattle.serde_json.specs.Data.{Data, Members, member, no_members, put}
use Rattle.serde_json.specs.View.{view}
use Rattle.serde_json.specs.declared.value.Value.{Value}
use Rattle.serde_json.proofs.OnLiterals.{serde_json_on_literals}
use Rattle.entries.specs.declared.memory.NoMemory.{NoMemory}

-- what was put is what was made
pub put_known : (made : Result Value NoMemory) (key : List ℕ) (d : Data) (old new : Members) → IsOkAnd made (λ value. new ≡ put key (view value) old) → IfOk made (λ value. view value ≡ d)
    → new ≡ put key d old
put_known (Ok value) key d old new was is = was ∙ ap (λ e. put key e old) is
put_known (Err error) key d old new was is = absurd was

in_order : (a b c d e f g : Data)
    → put (codes "splits") g (put (codes "rotations") f (put (codes "outcome") e (put (codes "open") d (put (codes "fleets") c (put (codes "cost") b (put (codes "bound") a no_members))))))
    ≡ member (codes "bound") a (member (codes "cost") b (member (codes "fleets") c (member (codes "open") d (member (codes "outcome") e (member (codes "rotations") f (member (codes "splits") g no_members))))))
unfolding serde_json_on_literals
in_order a b c d e f g = refl

pub seven_members : (m₀ m₁ m₂ m₃ m₄ m₅ m₆ m₇ : Members) (a b c d e f g : Data) → m₀ ≡ no_members → m₁ ≡ put (codes "bound") a m₀ → m₂ ≡ put (codes "cost") b m₁
    → m₃ ≡ put (codes "fleets") c m₂ → m₄ ≡ put (codes "open") d m₃ → m₅ ≡ put (codes "outcome") e m₄ → m₆ ≡ put (codes "rotations") f m₅ → m₇ ≡ put (codes "splits") g m₆
    → m₇ ≡ member (codes "bound") a (member (codes "cost") b (member (codes "fleets") c (member (codes "open") d (member (codes "outcome") e (member (codes "rotations") f (member (codes "splits") g no_members))))))
seven_members m₀ m₁ m₂ m₃ m₄ m₅ m₆ m₇ a b c d e f g e₀ e₁ e₂ e₃ e₄ e₅ e₆ e₇ =
    e₇ ∙ ap (put (codes "splits") g) (e₆ ∙ ap (put (codes "rotations") f) (e₅ ∙ ap (put (codes "outcome") e) (e₄ ∙ ap (put (codes "open") d)
    (e₃ ∙ ap (put (codes "fleets") c) (e₂ ∙ ap (put (codes "cost") b) (e₁ ∙ ap (put (codes "bound") a) e₀))))))
    ∙ in_order a b c d e f g

fleet_in_order : (a b c : Data) → put (codes "used") c (put (codes "name") b (put (codes "has") a no_members)) ≡ member (codes "has") a (member (codes "name") b (member (codes "used") c no_members))
unfolding serde_json_on_literals
fleet_in_order a b c = refl

open_in_order : (a b c : Data) → put (codes "pivots") c (put (codes "nodes") b (put (codes "grew") a no_members)) ≡ member (codes "grew") a (member (codes "nodes") b (member (codes "pivots") c no_members))
unfolding serde_json_on_literals
open_in_order a b c = refl

-- three members put one after the other
chained : (k₁ k₂ k₃ : List ℕ) (m₀ m₁ m₂ m₃ : Members) (a b c : Data) → m₀ ≡ no_members → m₁ ≡ put k₁ a m₀ → m₂ ≡ put k₂ b m₁ → m₃ ≡ put k₃ c m₂ → m₃ ≡ put k₃ c (put k₂ b (put k₁ a no_members))
chained k₁ k₂ k₃ m₀ m₁ m₂ m₃ a b c e₀ e₁ e₂ e₃ = e₃ ∙ ap (put k₃ c) (e₂ ∙ ap (put k₂ b) (e₁ ∙ ap (put k₁ a) e₀))

pub fleet_members : (m₀ m₁ m₂ m₃ : Members) (a b c : Data) → m₀ ≡ no_members → m₁ ≡ put (codes "has") a m₀ → m₂ ≡ put (codes "name") b m₁ → m₃ ≡ put (codes "used") c m₂
    → m₃ ≡ member (codes "has") a (member (codes "name") b (member (codes "used") c no_members))
fleet_members m₀ m₁ m₂ m₃ a b c e₀ e₁ e₂ e₃ = chained (codes "has") (codes "name") (codes "used") m₀ m₁ m₂ m₃ a b c e₀ e₁ e₂ e₃ ∙ fleet_in_order a b c

pub open_members : (m₀ m₁ m₂ m₃ : Members) (a b c : Data) → m₀ ≡ no_members → m₁ ≡ put (codes "grew") a m₀ → m₂ ≡ put (codes "nodes") b m₁ → m₃ ≡ put (codes "pivots") c m₂
    → m₃ ≡ member (codes "grew") a (member (codes "nodes") b (member (codes "pivots") c no_members))
open_members m₀ m₁ m₂ m₃ a b c e₀ e₁ e₂ e₃ = chained (codes "grew") (codes "nodes") (codes "pivots") m₀ m₁ m₂ m₃ a b c e₀ e₁ e₂ e₃ ∙ open_in_order a b c
