use Rattle.std.proofs.Common.{◌≤◌, ◌*◌, length, ap, subst, sym, ◌∙◌, arith}
use Rattle.fleet_model.specs.Kept.{kept_by}
use Rattle.fleet_model.specs.declared.limits.TheConstants.{MAX_LEGS}
use Rattle.presolve.specs.Cells.{cell_of}
use Rattle.presolve.proofs.AloneLaws.{alone_is, some_choice}
use Rattle.presolve.proofs.alone.add_only.Goals as goal

pub add_busy-requires-clause-small : goal.add_busy-requires-clause-small
add_busy-requires-clause-small c f m known within =
    subst (λ xs. cell_of xs f m ≤ 3 * MAX_LEGS) (sym c.loop-choice.invariant.unchanged) (c.requires.small f m known within)

pub returns-then-kept : goal.returns-then-kept
returns-then-kept c = record {
  width = c.add_busy.ensures.width ∙ ap length c.loop-choice.invariant.unchanged;
  each = λ f m known within.
      c.add_busy.ensures.each f m known within
      ∙ omega (
        arith,
        ap (λ xs. cell_of xs f m) c.loop-choice.invariant.unchanged,
        alone_is c.args.tables.now (kept_by c.args.kept.now) c.args.leg c.loop-choice.choice f m c.requires.one (omega (arith, c.choice_count-choice-end.ensures.value)) (sym c.kept.ensures ∙ c.if-kept.true),
      );
}

pub returns : goal.returns
returns c = absurd (some_choice c.args.tables.now (kept_by c.args.kept.now) c.args.leg c.requires.one (λ k known. c.loop-choice.invariant.none k (omega (arith, c.choice_count-choice-end.ensures.value))))
