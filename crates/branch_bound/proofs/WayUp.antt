-- The way from a subproblem up to the first: the steps on it leave of the first one's pairs those that the subproblem keeps.
use Rattle.std.proofs.Common.{◌≡◌, ℕ, ◌<◌, Bool, true, false, ◌&&◌, List, length, Some, None, IfSome, refl, sym, ◌∙◌, ap, subst, arith}
use mathlib.Core.Path.{fun_ext}
use Rattle.fleet_model.specs.Kept.{Domains, leaves, narrowed}
use Rattle.fleet_model.specs.declared.limits.TheConstants.{MAX_CHOICES, MAX_LEGS}
use Rattle.fleet_model.specs.declared.tables.Tables.{Tables}
use Rattle.fleet_model.proofs.FewChoices.{few_choices}
use Rattle.branch_bound.specs.History.{KeepsBy}
use Rattle.branch_bound.specs.Search.{HaveOrigins, IsMadeLater, at}
use Rattle.node_bounding.specs.Worked.{Worked}
use Rattle.branch_bound.specs.declared.subproblems.Origin.{Origin}
use Rattle.branch_bound.specs.declared.subproblems.Subproblem.{Subproblem}

-- both keep the pairs of a list's subproblems
abbrev pub Keep : Tables → Domains → List Subproblem → (ℕ → Worked) → Type 0
Keep t root all made = (k : ℕ) → k < length all → KeepsBy t root made k (at all k).origin

-- the steps from a number up to another leave these pairs
pub record IsOnTheWay (t : Tables) (root : Domains) (all : List Subproblem) (number here : ℕ) (kept : Domains) : Type 0 where
  pub within : here < length all
  pub left : Domains
  pub kept_is : kept ≡ (λ p. root p && left p)
  pub rest : (made : ℕ → Worked) → Keep t root all made → (made number).keeps ≡ (λ p. (made here).keeps p && left p)

and_true : (b : Bool) → b ≡ b && true
and_true true = refl
and_true false = refl

and_moved : (a b c : Bool) → (a && b) && c ≡ a && (c && b)
and_moved true true c = and_true c
and_moved true false true = refl
and_moved true false false = refl
and_moved false b c = refl

and_joined : (a b c : Bool) → (a && b) && c ≡ a && (b && c)
and_joined true b c = refl
and_joined false b c = refl

pub begins : (t : Tables) (root : Domains) (all : List Subproblem) (number : ℕ) → number < length all → IsOnTheWay t root all number number root
begins t root all number within = record {
  within = within;
  left = λ p. true;
  kept_is = fun_ext (λ p. and_true (root p));
  rest = λ made keep. fun_ext (λ p. and_true ((made number).keeps p));
}

module _ (t : Tables) (root : Domains) (all : List Subproblem) (number here : ℕ) (kept : Domains) (way : IsOnTheWay t root all number here kept) where
  pub goes_on : (origin : Origin) (after : Domains) → HaveOrigins t all → (at all here).origin ≡ Some origin → after ≡ narrowed kept origin.step → IsOnTheWay t root all number origin.parent after
  goes_on origin after have from is =
      let later : IsMadeLater t here origin = subst (λ o. IfSome o (IsMadeLater t here)) from (have.each here way.within) in
      record {
        within = omega (arith, way.within, later.earlier);
        left = λ p. leaves origin.step p && way.left p;
        kept_is = is ∙ ap (λ k. narrowed k origin.step) way.kept_is ∙ fun_ext (λ p. and_moved (root p) (way.left p) (leaves origin.step p));
        rest = λ made keep.
            let own = subst (KeepsBy t root made here) from (keep here way.within) in
            way.rest made keep ∙ ap (λ (k : Domains). (λ p. k p && way.left p)) own.1 ∙ fun_ext (λ p. and_joined ((made origin.parent).keeps p) (leaves origin.step p) (way.left p));
      }

  pub ends : (at all here).origin ≡ None → (made : ℕ → Worked) → Keep t root all made → kept ≡ (made number).keeps
  ends from made keep =
      let own : (made here).keeps ≡ root = subst (KeepsBy t root made here) from (keep here way.within) in
      way.kept_is ∙ sym (way.rest made keep ∙ ap (λ (k : Domains). (λ p. k p && way.left p)) own)

-- what a subproblem is a part of
pub later_at : (t : Tables) (all : List Subproblem) (here : ℕ) (origin : Origin) → HaveOrigins t all → here < length all → (at all here).origin ≡ Some origin → IsMadeLater t here origin
later_at t all here origin have within from = subst (λ o. IfSome o (IsMadeLater t here)) from (have.each here within)

pub leg_fits : (t : Tables) (here : ℕ) (origin : Origin) → IsMadeLater t here origin → origin.step.leg < MAX_LEGS
leg_fits t here origin later = omega (arith, later.pair.leg, t.in_range.legs_fit.few)

pub choice_fits : (t : Tables) (here : ℕ) (origin : Origin) → IsMadeLater t here origin → origin.step.choice < MAX_CHOICES
choice_fits t here origin later = omega (arith, later.pair.choice, few_choices t origin.step.leg)
