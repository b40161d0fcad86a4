-- The numbers of a search's subproblems and the links between them, once the one that is next was split.
use Rattle.std.proofs.Common.{◌≡◌, ◌≢◌, ℕ, suc, ◌<◌, Bool, true, false, if◌then◌else◌, List, length, Option, Some, None, inl, inr, sym, ◌∙◌, ap, subst, arith}
use Rattle.std.proofs.lemmas.Bool.{cases_eq}
use Rattle.fleet_model.specs.Kept.{Domains, narrowed}
use Rattle.fleet_model.specs.Schedule.{IsPair, leg_on}
use Rattle.fleet_model.specs.Whole.{KeepAllowed}
use Rattle.fleet_model.specs.declared.parts.Pair.{Pair}
use Rattle.fleet_model.specs.declared.tables.Tables.{Tables}
use Rattle.dual_bound.specs.declared.nodes.Node.TheVariants as node
use Rattle.node_bounding.specs.Examined.{IsFresh}
use Rattle.branch_bound.specs.History.{Chronicle, HasItsParts, HasSplitParts, IsFrom, IsGrown, IsNumbered, IsPartOf, KeepsBy, split_state}
use Rattle.node_bounding.specs.Subproblems.{node_of}
use Rattle.branch_bound.specs.Search.{IsSplitBy, at, step_into}
use Rattle.node_bounding.specs.Worked.{Worked}
use Rattle.node_bounding.specs.declared.states.Fraction.{Fraction}
use Rattle.branch_bound.specs.declared.subproblems.Origin.{Origin}
use Rattle.node_bounding.specs.declared.states.State.{State}
use Rattle.node_bounding.specs.declared.states.State.TheVariants as state
use Rattle.branch_bound.specs.declared.subproblems.Subproblem.{Subproblem}
use Rattle.node_bounding.proofs.Allowed.{allowed_part}
use Rattle.branch_bound.proofs.Fresh.{fresh_parts}
use Rattle.branch_bound.proofs.Updates.{by_new}

-- none is a part of one that waits
pub no_parent : (all : List Subproblem) (parts : ℕ → ℕ) (b : ℕ) (f : Fraction) → (at all b).state ≡ state.Waiting f → (k : ℕ) (origin : Origin) → IsPartOf all parts k origin → origin.parent ≢ b
no_parent all parts b f state_is k origin from same =
    let split : IsSplitBy origin.step (state.Waiting f) = subst (λ s. IsSplitBy origin.step s) (ap (λ j. (at all j).state) same ∙ state_is) from.of_split in
    split

-- `d` is how the chronicle `c` goes on
module _ (t : Tables) (root : Domains) (all grown : List Subproblem) (c d : Chronicle) (b : ℕ) (f : Fraction) (pair : Pair) (yes no : State)
    (numbered : (k : ℕ) → k < length all → IsNumbered t root all c k) (within : b < length all)
    (state_is : (at all b).state ≡ state.Waiting f) (pair_is : pair ≡ f.pair) (pair_known : IsPair t (leg_on pair.leg pair.choice)) (is : IsGrown all grown b pair yes no)
    (made_old : (k : ℕ) → k < length all → k ≢ b → d.made k ≡ c.made k) (made_here : d.made b ≡ record { keeps = (c.made b).keeps; node = node.Split f.pair.leg f.pair.choice f.best.prices f.best.mixed })
    (made_first : d.made (length all) ≡ record { keeps = narrowed (c.made b).keeps (step_into pair true); node = node_of yes })
    (made_second : d.made (suc (length all)) ≡ record { keeps = narrowed (c.made b).keeps (step_into pair false); node = node_of no })
    (keeps_old : (k : ℕ) → k < length all → (d.made k).keeps ≡ (c.made k).keeps) (parts_here : d.parts b ≡ length all) (parts_old : (k : ℕ) → k ≢ b → d.parts k ≡ c.parts k)
    (fresh_yes : IsFresh yes) (fresh_no : IsFresh no) where
  abbrev n : ℕ
  n = length all

  abbrev keeps : Domains
  keeps = (c.made b).keeps

  abbrev made : ℕ → Worked
  made = d.made

  abbrev parts : ℕ → ℕ
  parts = d.parts

  new_state : (at grown b).state ≡ state.Split f
  new_state = ap (λ s. s.state) is.split ∙ ap split_state state_is

  origin_old : (k : ℕ) → k < n → (at grown k).origin ≡ (at all k).origin
  origin_old k less = elim (cases_eq k b) [
    | inl same ↦ ap (λ j. (at grown j).origin) same ∙ ap (λ s. s.origin) is.split ∙ sym (ap (λ j. (at all j).origin) same)
    | inr other ↦ ap (λ s. s.origin) (is.same k less other)
  ]

  from_old : (k : ℕ) (o : Option Origin) → k < n → IsFrom all c.parts k o → IsFrom grown parts k o
  from_old k None less from = from
  from_old k (Some origin) less from =
      let other = no_parent all c.parts b f state_is k origin from in
      record {
        earlier = from.earlier;
        of_split = subst (λ s. IsSplitBy origin.step s.state) (sym (is.same origin.parent (omega (arith, from.earlier, less)) other)) from.of_split;
        place = subst (λ p. ◌≡◌ {A = ℕ} k (if origin.step.yes then p else suc p)) (sym (parts_old origin.parent other)) from.place;
      }

  parts_stand : (k : ℕ) (p : Pair) → k < n → k ≢ b → HasSplitParts all c.parts k p → HasSplitParts grown parts k p
  parts_stand k p less other has =
      let same : parts k ≡ c.parts k = parts_old k other in
      record {
        within = omega (arith, has.within, same, is.longer);
        with_pair = ap (λ i. (at grown i).origin) same ∙ origin_old (c.parts k) (omega (arith, has.within)) ∙ has.with_pair;
        without = ap (λ i. (at grown (suc i)).origin) same ∙ origin_old (suc (c.parts k)) has.within ∙ has.without;
      }

  own_old : (k : ℕ) (s : State) → k < n → k ≢ b → HasItsParts all c.parts k s → HasItsParts grown parts k s
  own_old k (state.Leaf leaf) less other has = tt
  own_old k (state.Stopped s) less other has = tt
  own_old k (state.Waiting g) less other has = tt
  own_old k (state.Split g) less other has = parts_stand k g.pair less other has

  own_here : HasSplitParts grown parts b f.pair
  own_here = record {
    within = omega (arith, parts_here, is.longer);
    with_pair = ap (λ i. (at grown i).origin) parts_here ∙ ap (λ s. s.origin) is.with_pair ∙ ap (λ p. Some (record { parent = b; step = step_into p true })) pair_is;
    without = ap (λ i. (at grown (suc i)).origin) parts_here ∙ ap (λ s. s.origin) is.without ∙ ap (λ p. Some (record { parent = b; step = step_into p false })) pair_is;
  }

  keeps_by_old : (k : ℕ) (o : Option Origin) → k < n → IsFrom all c.parts k o → KeepsBy t root c.made k o → KeepsBy t root made k o
  keeps_by_old k None less from by = keeps_old k less ∙ by
  keeps_by_old k (Some origin) less from by =
      (by.0, keeps_old k less ∙ by.1 ∙ ap (λ d. narrowed d origin.step) (sym (keeps_old origin.parent (omega (arith, from.earlier, less)))))

  numbered_old : (k : ℕ) → k < n → k ≢ b → IsNumbered t root grown d k
  numbered_old k less other =
      let old = numbered k less in
      let same = is.same k less other in
      record {
        linked = record {
          from = subst (λ o. IsFrom grown parts k o) (sym (ap (λ s. s.origin) same)) (from_old k (at all k).origin less old.linked.from);
          own = subst (λ s. HasItsParts grown parts k s) (sym (ap (λ s. s.state) same)) (own_old k (at all k).state less other old.linked.own);
        };
        node = ap (λ w. w.node) (made_old k less other) ∙ old.node ∙ sym (ap (λ s. node_of s.state) same);
        keeps = subst (λ o. KeepsBy t root made k o) (sym (ap (λ s. s.origin) same)) (keeps_by_old k (at all k).origin less old.linked.from old.keeps);
        allowed = subst (KeepAllowed t) (sym (keeps_old k less)) old.allowed;
      }

  numbered_here : IsNumbered t root grown d b
  numbered_here =
      let old = numbered b within in
      record {
        linked = record {
          from = subst (λ o. IsFrom grown parts b o) (sym (origin_old b within)) (from_old b (at all b).origin within old.linked.from);
          own = subst (λ s. HasItsParts grown parts b s) (sym new_state) own_here;
        };
        node = ap (λ w. w.node) made_here ∙ sym (ap node_of new_state);
        keeps = subst (λ o. KeepsBy t root made b o) (sym (origin_old b within)) (keeps_by_old b (at all b).origin within old.linked.from old.keeps);
        allowed = subst (KeepAllowed t) (sym (keeps_old b within)) old.allowed;
      }

  split_by_pair : (taken : Bool) → IsSplitBy (step_into pair taken) (at grown b).state
  split_by_pair taken = subst (λ s. IsSplitBy (step_into pair taken) s) (sym new_state) (ap (λ p. p.leg) pair_is, ap (λ p. p.choice) pair_is)

  -- a part that was made, with this number
  numbered_part : (k : ℕ) (taken : Bool) (s : State) → b < k → ◌≡◌ {A = ℕ} k (if taken then parts b else suc (parts b)) → at grown k ≡ record { origin = Some (record { parent = b; step = step_into pair taken }); state = s }
      → made k ≡ record { keeps = narrowed keeps (step_into pair taken); node = node_of s } → IsFresh s → IsNumbered t root grown d k
  numbered_part k taken s later place there same fresh = record {
    linked = record {
      from = subst (λ o. IsFrom grown parts k o) (sym (ap (λ x. x.origin) there)) (record { earlier = later; of_split = split_by_pair taken; place = place });
      own = subst (λ x. HasItsParts grown parts k x) (sym (ap (λ x. x.state) there)) (fresh_parts grown parts k s fresh);
    };
    node = ap (λ w. w.node) same ∙ sym (ap (λ x. node_of x.state) there);
    keeps = subst (λ o. KeepsBy t root made k o) (sym (ap (λ x. x.origin) there)) (pair_known, ap (λ w. w.keeps) same ∙ sym (ap (λ d. narrowed d (step_into pair taken)) (keeps_old b within)));
    allowed = subst (λ w. KeepAllowed t w.keeps) (sym same) (allowed_part t keeps (step_into pair taken) (numbered b within).allowed);
  }

  pub numbered_grown : (k : ℕ) → k < suc (suc n) → IsNumbered t root grown d k
  numbered_grown = by_new (λ k. IsNumbered t root grown d k) b n numbered_here numbered_old
      (numbered_part n true yes within (sym parts_here) is.with_pair made_first fresh_yes)
      (numbered_part (suc n) false no (omega (arith, within)) (ap suc (sym parts_here)) is.without made_second fresh_no)
